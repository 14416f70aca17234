use Rattle.std.proofs.Common.{◌≡◌, ◌<◌, ◌*◌, ◌^◌, drop}
use Rattle.sd_token.specs.Inner.Search.{marked_meets}
use Rattle.sd_token.proofs.entries.some_is_met.Given as goal

-- the entries whose bits are left decide
abbrev pub invariant-loop-left : goal.invariant-loop-left
invariant-loop-left g l = record {
  bits : l.left < 2 ^ 16;
  rest : marked_meets (g.S.Sought.sid l.sid) l.deny 16 l.same (drop (19 * l.at) l.words)
      ≡ marked_meets (g.S.Sought.sid l.sid) l.deny 16 l.left (drop (19 * l.at) l.words);
}

abbrev pub decreases-loop-left : goal.decreases-loop-left
decreases-loop-left g l = l.left
