use Rattle.std.proofs.Common.{ap, arith, take_all, ◌∙◌}
use Rattle.std.specs.List.{flat_map}
use Rattle.sd_sink.proofs.laws.PrintLemmas.{prints_as, prints_then}
use Rattle.sd_sink.proofs.laws.PrintLoops.{Prints-next}
use Rattle.sd_sid.specs.SidText.{sub_text}
use Rattle.sd_sid.proofs.sid.Sid.print_text.Goals as goal

pub loop-sub-preserved : goal.loop-sub-preserved
loop-sub-preserved g c =
    let l = c.loop-sub in
    Prints-next sub_text _ _ _ c.subs-sub-items.result.now l.sub-index _ c.loop-sub-test.true l.invariant
    c.print_decimal_behind.ensures

pub returns-clause-put : goal.returns-clause-put
returns-clause-put g c =
    let all = take_all c.loop-sub.sub-index c.subs-sub-items.result.now (omega arith)
    ∙ c.subs-sub-items.ensures.value in
    prints_then c.put.ensures
    (prints_then (rw c.authority.ensures.value at c.print_authority.ensures)
    (prints_as (ap (flat_map sub_text) all) c.loop-sub.invariant))
