use Rattle.std.proofs.Common.{sym}
use Rattle.sd_text.proofs.DigitLemmas.{decimal-two, written_as}
use Rattle.sd_text.proofs.digits.write_first_two.Goals as goal

pub returns-clause-written : goal.returns-clause-written
returns-clause-written c =
    written_as (sym (decimal-two c.args.number c.if-number-lt10.false c.requires.short)) c.write_pair.ensures
