use Rattle.std.proofs.Common.{◌≡◌, ◌++◌, take, drop, map}
use Rattle.sd_edit.specs.Lists.{set_where}
use Rattle.sd_edit.proofs.acl.set_each.Given as goal

abbrev pub invariant-loop-i : goal.invariant-loop-i
invariant-loop-i l =
    l.aces ≡ map (set_where l.matching l.setting) (take l.i l.initial.aces) ++ drop l.i l.initial.aces
