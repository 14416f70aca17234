use Rattle.std.proofs.Common.{arith}
use Rattle.sd_text.proofs.DigitLemmas.{hex-pair, two-cells}
use Rattle.sd_text.proofs.digits.write_hex_pair.Goals as goal

pub returns : goal.returns
returns c =
    let p = hex-pair c.args.number in
    record {
      ends = omega arith;
      written = rw (p.0, p.1) (two-cells c.args.cells.now c.args.at _ _ (omega (arith, c.told-cells)));
    }
