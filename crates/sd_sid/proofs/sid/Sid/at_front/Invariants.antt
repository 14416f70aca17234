use Rattle.std.proofs.Common.{◌≡◌, drop}
use Rattle.sd_sid.proofs.Words.{Filled}
use Rattle.sd_sid.proofs.sid.Sid.at_front.Given as goal

abbrev pub invariant-loop-i : goal.invariant-loop-i
invariant-loop-i l = record {
  words : Filled l.i l.sid-inside.subs (drop 8 l.bytes);
  authority : l.sid-inside.authority ≡ l.authority;
  count : l.sid-inside.count ≡ l.count;
}
