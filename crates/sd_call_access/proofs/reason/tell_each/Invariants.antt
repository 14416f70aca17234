use Rattle.std.proofs.Common.{◌≡◌, ◌++◌, drop, length, map, take}
use Rattle.sd_call_access.specs.Reasons.{reason_told}
use Rattle.sd_call_access.proofs.reason.tell_each.Given as goal

abbrev pub invariant-loop-i : goal.invariant-loop-i
invariant-loop-i l = record {
  size : length l.told ≡ 25;
  written : l.told ≡ map reason_told (take l.i l.reasons) ++ drop l.i l.fn.told;
}
