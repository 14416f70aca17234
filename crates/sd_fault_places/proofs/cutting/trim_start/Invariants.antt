use Rattle.std.proofs.Common.{◌≡◌, ◌≤◌, length}
use Rattle.sd_fault_places.specs.Inner.Cutting.{trim_start}
use Rattle.sd_fault_places.proofs.cutting.trim_start.Given as goal

abbrev pub invariant-loop-byte : goal.invariant-loop-byte
invariant-loop-byte l = record {
  value : trim_start l.rest ≡ trim_start l.text;
  within : length l.rest ≤ length l.text;
}

abbrev pub decreases-loop-byte : goal.decreases-loop-byte
decreases-loop-byte l = length l.rest
