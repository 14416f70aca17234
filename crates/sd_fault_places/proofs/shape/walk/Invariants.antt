use Rattle.std.proofs.Common.{◌≡◌, ◌≤◌, ◌+◌, length}
use Rattle.sd_fault_places.specs.Inner.Counted.{aces_before}
use Rattle.sd_fault_places.specs.Shape.{reach, start, stop}
use Rattle.sd_fault_places.proofs.shape.walk.Given as goal

abbrev pub invariant-loop-byte : goal.invariant-loop-byte
invariant-loop-byte l = record {
  reach : reach start l.text + length l.rest ≡ length l.text + reach l.front l.rest;
  stop : stop start l.text ≡ stop l.front l.rest;
  within : length l.rest ≤ length l.text;
  count : aces_before l.front + length l.rest ≤ length l.text;
}

abbrev pub decreases-loop-byte : goal.decreases-loop-byte
decreases-loop-byte l = length l.rest
