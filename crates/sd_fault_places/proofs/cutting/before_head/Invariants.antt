use Rattle.std.proofs.Common.{◌≡◌, ◌≤◌, ◌+◌, false, length}
use Rattle.sd_fault_places.specs.Inner.Cutting.{before_head}
use Rattle.sd_fault_places.proofs.cutting.before_head.Given as goal

abbrev pub invariant-loop-byte : goal.invariant-loop-byte
invariant-loop-byte l = record {
  value : before_head false l.text + length l.rest ≡ length l.text + before_head l.inside l.rest;
  within : length l.rest ≤ length l.text;
}

abbrev pub decreases-loop-byte : goal.decreases-loop-byte
decreases-loop-byte l = length l.rest
