use Rattle.std.proofs.Common.{◌≤◌, ℕ, List, length, subst, arith}
use Rattle.sd_sink.proofs.laws.PrintLemmas.{prints_as}
use Rattle.sd_call_convert.proofs.DescribedLemmas.{of-ace, of-part}
use Rattle.sd_call_convert.proofs.described.print_holder.Goals as goal

pub returns-then-ace-eq-NO_ACE-clause-print : goal.returns-then-ace-eq-NO_ACE-clause-print
returns-then-ace-eq-NO_ACE-clause-print g c =
    prints_as (of-part c.args.part c.in-Some.part c.args.ace c.in-Some.is c.if-ace-eq-NO_ACE.true)
    c.print_part.ensures.print

pub returns-then-ace-eq-NO_ACE-clause-short : goal.returns-then-ace-eq-NO_ACE-clause-short
returns-then-ace-eq-NO_ACE-clause-short g c =
    let same = of-part c.args.part c.in-Some.part c.args.ace c.in-Some.is c.if-ace-eq-NO_ACE.true in
    let short = subst (λ (t : List ℕ). length t ≤ 11) same c.print_part.ensures.short in
    omega (arith, short)

pub returns-clause-print : goal.returns-clause-print
returns-clause-print g c =
    let ace = rw c.number_from_1.ensures at c.print_ace.ensures.print in
    prints_as (of-ace c.args.part c.in-Some.part c.args.ace c.in-Some.is c.if-ace-eq-NO_ACE.false) ace

pub returns-clause-short : goal.returns-clause-short
returns-clause-short g c =
    let same = of-ace c.args.part c.in-Some.part c.args.ace c.in-Some.is c.if-ace-eq-NO_ACE.false in
    let short = rw c.number_from_1.ensures at c.print_ace.ensures.short in
    subst (λ (t : List ℕ). length t ≤ 29) same short
