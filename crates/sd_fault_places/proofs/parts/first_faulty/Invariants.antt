use Rattle.std.proofs.Common.{◌≡◌, length}
use Rattle.std.specs.Option.{option_copied}
use Rattle.sd_fault_places.specs.Fields.{fields_in}
use Rattle.sd_fault_places.specs.SddlPlaces.{first_faulty}
use Rattle.sd_fault_places.specs.Inner.Cutting.{parts_from}
use Rattle.sd_fault_places.proofs.parts.first_faulty.Given as goal

abbrev pub invariant-loop-part : goal.invariant-loop-part
invariant-loop-part l =
    first_faulty (option_copied l.domain) (fields_in (parts_from l.left.at l.left.text.now))
    ≡ first_faulty (option_copied l.domain) (fields_in (parts_from l.parts.at l.parts.text.now))

abbrev pub decreases-loop-part : goal.decreases-loop-part
decreases-loop-part l = length l.left.text.now
