use Rattle.std.proofs.Common.{◌≡◌, length}
use Rattle.std.specs.Option.{option_copied}
use Rattle.sd_fault_places.specs.SddlPlaces.{first_large}
use Rattle.sd_fault_places.specs.Inner.Cutting.{parts_from}
use Rattle.sd_fault_places.proofs.parts.first_large.Given as goal

abbrev pub invariant-loop-part : goal.invariant-loop-part
invariant-loop-part l =
    first_large (option_copied l.domain) (parts_from l.left.at l.left.text.now)
    ≡ first_large (option_copied l.domain) (parts_from l.parts.at l.parts.text.now)

abbrev pub decreases-loop-part : goal.decreases-loop-part
decreases-loop-part l = length l.left.text.now
