use Rattle.std.proofs.Common.{◌≡◌, length}
use Rattle.sd_sddl_builder.specs.Line.{trim_end}
use Rattle.sd_fault_places.proofs.cutting.trim_end.Given as goal

abbrev pub invariant-loop-byte : goal.invariant-loop-byte
invariant-loop-byte l = trim_end l.rest ≡ trim_end l.text

abbrev pub decreases-loop-byte : goal.decreases-loop-byte
decreases-loop-byte l = length l.rest
