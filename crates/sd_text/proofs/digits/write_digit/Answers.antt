use Rattle.std.proofs.Common.{arith, sym}
use Rattle.std.proofs.lemmas.Fmt.{decimal_digit}
use Rattle.std.proofs.lemmas.List.{take_more_set}
use Rattle.sd_text.proofs.DigitLemmas.{written_as}
use Rattle.sd_text.proofs.digits.write_digit.Goals as goal

pub returns : goal.returns
returns c =
    written_as (sym (decimal_digit c.args.number c.requires.short)) (record {
      ends = omega arith;
      written = take_more_set c.args.cells.now c.args.at _ (omega (arith, c.told-cells));
    })
