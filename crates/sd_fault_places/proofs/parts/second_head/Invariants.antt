use Rattle.std.proofs.Common.{◌≡◌, false, length}
use Rattle.sd_parts.specs.Parts.{each_part}
use Rattle.sd_fault_places.specs.SddlPlaces.{second_head}
use Rattle.sd_fault_places.specs.Inner.Cutting.{parts_from}
use Rattle.sd_fault_places.proofs.parts.second_head.Given as goal

abbrev pub invariant-loop-part : goal.invariant-loop-part
invariant-loop-part l =
    second_head l.seen (parts_from l.left.at l.left.text.now)
    ≡ second_head (each_part false) (parts_from l.parts.at l.parts.text.now)

abbrev pub decreases-loop-part : goal.decreases-loop-part
decreases-loop-part l = length l.left.text.now
