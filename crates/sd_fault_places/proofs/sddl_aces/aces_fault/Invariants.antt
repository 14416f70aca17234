use Rattle.std.proofs.Common.{◌≡◌, length}
use Rattle.std.specs.Option.{option_copied}
use Rattle.sd_fault_places.specs.Fields.{fields_in_aces}
use Rattle.sd_fault_places.specs.SddlPlaces.{first_faulty}
use Rattle.sd_fault_places.specs.Inner.Cutting.{aces_at}
use Rattle.sd_fault_places.proofs.sddl_aces.aces_fault.Given as goal

abbrev pub invariant-loop-ace : goal.invariant-loop-ace
invariant-loop-ace l =
    first_faulty (option_copied l.domain) (fields_in_aces l.part (aces_at l.left.number l.left.at l.left.text.now))
    ≡ first_faulty (option_copied l.domain) (fields_in_aces l.part (aces_at l.aces.number l.aces.at l.aces.text.now))

abbrev pub decreases-loop-ace : goal.decreases-loop-ace
decreases-loop-ace l = length l.left.text.now
