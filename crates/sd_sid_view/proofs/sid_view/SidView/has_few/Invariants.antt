use Rattle.std.proofs.Common.{◌≡◌, drop}
use Rattle.std.specs.Str.{bytes_eq}
use Rattle.sd_sid_view.proofs.sid_view.SidView.has_few.Given as goal

-- what is left decides
abbrev pub invariant-loop-i : goal.invariant-loop-i
invariant-loop-i l = bytes_eq l.self.subs l.subs ≡ bytes_eq (drop l.i l.self.subs) (drop l.i l.subs)
