use Rattle.std.proofs.Common.{◌≡◌, ◌*◌, ◌++◌, length, take, drop}
use Rattle.sd_buffer.specs.Inner.HexBlocks.{joined_pairs}
use Rattle.sd_buffer.proofs.hex_digits.join.Given as goal

abbrev pub invariant-loop-i : goal.invariant-loop-i
invariant-loop-i l = record {
  full : length l.bytes ≡ 16;
  joined : take l.i l.bytes ++ joined_pairs (drop (2 * l.i) l.values) ≡ joined_pairs l.values;
}
