use Rattle.std.proofs.Common.{◌≡◌, ◌<◌, ◌^◌, length}
use Rattle.sd_check.specs.Granted.{decides}
use Rattle.sd_check.specs.Reasons.{by_first}
use Rattle.sd_check.proofs.ReasonLaws.{AreReasoned, LeavesReasons}
use Rattle.sd_check.proofs.ScanLaws.{Scans}
use Rattle.sd_check.proofs.reason.scan_for_reasons.Given as goal

-- what was decided so far has its reason, and the rest of the list decides the undecided rights
abbrev pub invariant-loop-ace : goal.invariant-loop-ace
invariant-loop-ace g l = record {
  scans : Scans l.view l.ask l.acl l.yielded l.ace-iterator l.question l.undecided l.fn.token l.token;
  limit : l.undecided < 2 ^ 25;
  place : l.place ≡ length l.yielded;
  reasons : AreReasoned l.reasons l.question l.undecided
      (λ right. by_first (decides right l.view l.fn.token.holder.entries l.ask) l.acl);
  left : LeavesReasons l.view l.fn.token.holder.entries l.ask l.acl l.place l.ace-iterator l.undecided;
}
