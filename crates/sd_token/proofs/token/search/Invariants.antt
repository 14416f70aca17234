use Rattle.std.proofs.Common.{◌≡◌, ◌≤◌, ◌-◌, ◌*◌, ◌/◌, ◌%◌, false, length, take}
use Rattle.sd_token.specs.Token.{counted_by, meets}
use Rattle.sd_token.proofs.token.search.Given as goal

-- whole blocks are compared, of which none meets the SID
abbrev pub invariant-loop-entries : goal.invariant-loop-entries
invariant-loop-entries g l = record {
  entries : l.entries.entries ≡ l.fn.entries.entries;
  room : l.entries.room ≡ l.fn.entries.room;
  compared : l.entries.compared ≡ counted_by l.entries.place l.fn.entries.compared;
  within : l.entries.place ≤ length l.entries.entries;
  start : l.entries.place % 16 ≡ 0;
  none : meets (g.S.Sought.sid l.sid) l.deny (take l.entries.place l.entries.entries) ≡ false;
}

abbrev pub decreases-loop-entries : goal.decreases-loop-entries
decreases-loop-entries g l = length l.entries.entries - l.entries.place

-- and then single entries behind the last whole block
abbrev pub invariant-loop-entries-2 : goal.invariant-loop-entries-2
invariant-loop-entries-2 g l = record {
  entries : l.entries.entries ≡ l.fn.entries.entries;
  room : l.entries.room ≡ l.fn.entries.room;
  compared : l.entries.compared ≡ counted_by l.entries.place l.fn.entries.compared;
  within : l.entries.place ≤ length l.entries.entries;
  behind : length l.entries.entries / 16 * 16 ≤ l.entries.place;
  none : meets (g.S.Sought.sid l.sid) l.deny (take l.entries.place l.entries.entries) ≡ false;
}

abbrev pub decreases-loop-entries-2 : goal.decreases-loop-entries-2
decreases-loop-entries-2 g l = length l.entries.entries - l.entries.place
