use Rattle.sd_fault_places.proofs.Faults.{first-append}
use Rattle.sd_fault_places.proofs.parts.first_faulty.Goals as goal

pub returns-in-Some-body_fault : goal.returns-in-Some-body_fault
returns-in-Some-body_fault c =
    rw (c.in-Some.ensures.value, first-append, ← c.body_fault.ensures, c.in-Some-body_fault.is) at c.loop-part.invariant

pub loop-part-preserved : goal.loop-part-preserved
loop-part-preserved c =
    rw (c.in-Some.ensures.value, first-append, ← c.body_fault.ensures, c.in_default-body_fault.is)
    at c.loop-part.invariant
