use Rattle.std.proofs.Common.{◌≡◌, ◌+◌, drop}
use Rattle.sd_sid.proofs.Cutting.{dash_at}
use Rattle.sd_sid.proofs.sid_text.cut.Given as goal

abbrev pub invariant-loop-i : goal.invariant-loop-i
invariant-loop-i l = l.i + dash_at (drop l.i l.text) ≡ dash_at l.text
