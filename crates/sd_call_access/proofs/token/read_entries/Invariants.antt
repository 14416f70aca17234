use Rattle.std.proofs.Common.{◌≡◌, ◌+◌, length}
use Rattle.sd_call_access.specs.Checks.{entries_from, fault_of}
use Rattle.sd_call_access.proofs.token.read_entries.Given as goal

abbrev pub invariant-loop-byte : goal.invariant-loop-byte
invariant-loop-byte l = record {
  read : fault_of (entries_from l.n l.sids_left l.kinds_left) ≡ fault_of (entries_from 0 l.sids l.kinds);
  count : l.n + length l.kinds_left ≡ length l.kinds;
}

abbrev pub decreases-loop-byte : goal.decreases-loop-byte
decreases-loop-byte l = length l.kinds_left
