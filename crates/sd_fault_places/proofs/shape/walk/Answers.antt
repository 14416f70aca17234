use Rattle.std.proofs.Common.{◌∙◌, ap, sym, arith, length}
use Rattle.sd_fault_places.specs.Shape.{reach, stop}
use Rattle.sd_fault_places.proofs.Walks.{counted, walked}
use Rattle.sd_fault_places.proofs.shape.walk.Goals as goal

pub loop-byte-preserved : goal.loop-byte-preserved
loop-byte-preserved c =
    let i = c.loop-byte.invariant in
    let rest = c.in-Some.ensures.cases.0 in
    let more = walked c.loop-byte.front c.in-Some-step.next c.in-Some.byte.now c.in-Some.tail.now
    (sym c.step.ensures ∙ c.in-Some-step.is) in
    let ends = counted c.loop-byte.front c.in-Some-step.next c.in-Some.byte.now (sym c.step.ensures
    ∙ c.in-Some-step.is) in
    let reached = ap (reach c.loop-byte.front) rest in
    let sizes = ap length rest in
    record {
      reach = omega (arith, i.reach, more.0, reached, sizes);
      stop = i.stop ∙ ap (stop c.loop-byte.front) rest ∙ more.1;
      within = omega (arith, i.within, sizes);
      count = omega (arith, i.count, ends, sizes);
    }
