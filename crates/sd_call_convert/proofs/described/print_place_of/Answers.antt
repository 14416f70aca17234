use Rattle.std.proofs.Common.{◌≤◌, ℕ, List, length, subst}
use Rattle.sd_sink.proofs.laws.PrintLemmas.{prints_as}
use Rattle.sd_call_convert.proofs.DescribedLemmas.{counts}
use Rattle.sd_call_convert.proofs.described.print_place_of.Goals as goal

pub returns-clause-print : goal.returns-clause-print
returns-clause-print g c =
    prints_as (counts c.args.number c.args.place.now c.if-place-number.false c.if-place-gt-MOST_SDDL_TEXT.false)
    c.print_place.ensures.print

pub returns-clause-short : goal.returns-clause-short
returns-clause-short g c =
    subst (λ (t : List ℕ). length t ≤ 72)
    (counts c.args.number c.args.place.now c.if-place-number.false c.if-place-gt-MOST_SDDL_TEXT.false)
    c.print_place.ensures.short
