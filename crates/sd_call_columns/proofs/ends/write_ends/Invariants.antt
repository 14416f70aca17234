use Rattle.std.proofs.Common.{◌≡◌, ◌≤◌, ◌+◌, ℕ, drop, get_or, length, take}
use Rattle.sd_call_columns.specs.Answered.{lengths}
use Rattle.sd_call_columns.proofs.ends.write_ends.Given as goal

abbrev pub invariant-loop-i : goal.invariant-loop-i
invariant-loop-i l = record {
  at : l.at ≡ l.begin + lengths (take l.i l.outcomes);
  ends : (k : ℕ) → k ≤ l.i → get_or l.offsets k 0 ≡ l.begin + lengths (take k l.outcomes);
  rest : drop (length l.outcomes + 1) l.offsets ≡ drop (length l.outcomes + 1) l.fn.offsets;
}
