use Rattle.std.proofs.Common.{◌≡◌, ◌≤◌, ◌+◌, ℕ, drop, get_or, length, map, take}
use Rattle.sd_call_convert.specs.Many.{lengths}
use Rattle.sd_call_convert.proofs.ends.write_ends.Given as goal

abbrev pub invariant-loop-i : goal.invariant-loop-i
invariant-loop-i g l = record {
  at : l.at ≡ l.begin + lengths (take l.i l.outcomes);
  ends : (k : ℕ) → k ≤ l.i → get_or (map g.T.Offset.number l.offsets) k 0 ≡ l.begin + lengths (take k l.outcomes);
  rest : drop (length l.outcomes + 1) (map g.T.Offset.number l.offsets)
      ≡ drop (length l.outcomes + 1) (map g.T.Offset.number l.fn.offsets);
}
