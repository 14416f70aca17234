use Rattle.std.proofs.Common.{◌≡◌, ◌≤◌, ◌+◌, length}
use Rattle.sd_fault_places.specs.Inner.Cutting.{before_byte}
use Rattle.sd_fault_places.proofs.cutting.before_byte.Given as goal

abbrev pub invariant-loop-byte : goal.invariant-loop-byte
invariant-loop-byte l = record {
  value : before_byte l.mark l.text + length l.rest ≡ length l.text + before_byte l.mark l.rest;
  within : length l.rest ≤ length l.text;
}

abbrev pub decreases-loop-byte : goal.decreases-loop-byte
decreases-loop-byte l = length l.rest
