use Rattle.std.proofs.Common.{◌≡◌, ◌+◌, length, take}
use Rattle.sd_token.specs.TokenWords.{entries_of}
use Rattle.sd_call_access.specs.Checks.{entries_from}
use Rattle.sd_call_access.proofs.TokenLemmas.{behind}
use Rattle.sd_call_access.proofs.token_memory.write_entries.Given as goal

abbrev pub invariant-loop-byte : goal.invariant-loop-byte
invariant-loop-byte l = record {
  read : behind (entries_of (take l.n l.keys) l.words) (entries_from l.n l.rest l.kinds_left)
      ≡ entries_from 0 l.sids l.kinds;
  count : l.n + length l.kinds_left ≡ length l.kinds;
}

abbrev pub decreases-loop-byte : goal.decreases-loop-byte
decreases-loop-byte l = length l.kinds_left
