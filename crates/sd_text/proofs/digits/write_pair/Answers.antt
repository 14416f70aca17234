use Rattle.std.proofs.Common.{arith}
use Rattle.sd_text.proofs.DigitLemmas.{pair-at, two-cells}
use Rattle.sd_text.proofs.digits.write_pair.Goals as goal

pub returns : goal.returns
returns c =
    let p = pair-at c.args.pair c.requires.short in
    record {
      ends = omega arith;
      written = rw (p.0, p.1) (two-cells c.args.cells.now c.args.at _ _ (omega (arith, c.told-cells)));
    }
