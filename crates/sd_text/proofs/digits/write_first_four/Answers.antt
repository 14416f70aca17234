use Rattle.std.proofs.Common.{arith, sym}
use Rattle.sd_text.proofs.DigitLemmas.{decimal-pair, written_as, written_then}
use Rattle.sd_text.proofs.digits.write_first_four.Goals as goal

pub returns-clause-written : goal.returns-clause-written
returns-clause-written c =
    written_as (sym (decimal-pair c.args.number c.if-number-lt100.false (omega arith)))
    (written_then c.write_first_two-end.ensures.written c.write_pair.ensures)
