use Rattle.std.proofs.Common.{◌≡◌, ◌+◌, ◌-◌}
use Rattle.sd_fault_places.specs.Places.{sound_aces}
use Rattle.sd_fault_places.proofs.FaultyAces.{behind_sound}
use Rattle.sd_fault_places.proofs.binary_aces.first_faulty.Given as goal

abbrev pub invariant-loop-number : goal.invariant-loop-number
invariant-loop-number l = record {
  number : sound_aces l.count l.aces ≡ l.number + sound_aces (l.count - l.number) l.left;
  left : behind_sound l.count l.aces ≡ behind_sound (l.count - l.number) l.left;
}
