use Rattle.std.proofs.Common.{◌≡◌, ◌+◌, length}
use Rattle.sd_call_access.specs.Checks.{entries_from}
use Rattle.sd_call_access.proofs.TokenLemmas.{behind}
use Rattle.sd_call_access.proofs.token.add_entries.Given as goal

abbrev pub invariant-loop-byte : goal.invariant-loop-byte
invariant-loop-byte l = record {
  read : behind l.token.holder.entries (entries_from l.n l.rest l.kinds_left) ≡ entries_from 0 l.sids l.kinds;
  level : l.token.holder.level ≡ l.fn.token.holder.level;
  count : l.n + length l.kinds_left ≡ length l.kinds;
  compared : l.token.compared ≡ l.fn.token.compared;
  held : length l.token.holder.entries ≡ l.n;
}

abbrev pub decreases-loop-byte : goal.decreases-loop-byte
decreases-loop-byte l = length l.kinds_left
