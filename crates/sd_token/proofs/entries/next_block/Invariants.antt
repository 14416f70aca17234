use Rattle.std.proofs.Common.{◌≡◌, ◌≤◌, ◌+◌, ◌-◌, ◌%◌, length}
use Rattle.sd_token.specs.Inner.Search.{LacksKey, same_bits}
use Rattle.sd_token.proofs.entries.next_block.Given as goal

-- none of the blocks so far has the key
abbrev pub invariant-loop-same : goal.invariant-loop-same
invariant-loop-same l = record {
  low : l.from ≤ l.at;
  high : l.at + 16 ≤ length l.keys;
  whole : (l.at - l.from) % 16 ≡ 0;
  same : l.same ≡ same_bits l.keys l.key l.at 16;
  before : LacksKey l.keys l.key l.from l.at;
}

abbrev pub decreases-loop-same : goal.decreases-loop-same
decreases-loop-same l = length l.keys - l.at
