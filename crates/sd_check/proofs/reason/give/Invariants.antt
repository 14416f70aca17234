use Rattle.std.proofs.Common.{◌≡◌, ◌<◌, ◌^◌, ℕ, true, length}
use Rattle.sd_rights.specs.Mapping.{carries}
use Rattle.sd_check.proofs.ReasonLaws.{AreGiven}
use Rattle.sd_check.proofs.reason.give.Given as goal

abbrev pub invariant-loop-left : goal.invariant-loop-left
invariant-loop-left l = record {
  size : length l.reasons ≡ 25;
  limit : l.left < 2 ^ 25;
  within : (right : ℕ) → carries l.left right ≡ true → carries l.rights right ≡ true;
  given : AreGiven l.fn.reasons l.reasons l.rights l.left l.reason;
}

abbrev pub decreases-loop-left : goal.decreases-loop-left
decreases-loop-left l = l.left
