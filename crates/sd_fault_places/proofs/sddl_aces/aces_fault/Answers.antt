use Rattle.sd_fault_places.proofs.Faults.{first-append}
use Rattle.sd_fault_places.proofs.sddl_aces.aces_fault.Goals as goal

pub returns-in-Some-ace_fault : goal.returns-in-Some-ace_fault
returns-in-Some-ace_fault c =
    rw (c.in-Some.ensures.value, first-append, ← c.ace_fault.ensures, c.in-Some-ace_fault.is) at c.loop-ace.invariant

pub loop-ace-preserved : goal.loop-ace-preserved
loop-ace-preserved c =
    rw (c.in-Some.ensures.value, first-append, ← c.ace_fault.ensures, c.in_default-ace_fault.is) at c.loop-ace.invariant
