use Rattle.std.proofs.Common.{◌≡◌, ℕ, ◌&&◌, ◌||◌}
use Rattle.std.specs.List.{find}
use Rattle.sd_rights.specs.Mapping.{carries}
use Rattle.sd_check.specs.Granted.{allows, decides}
use Rattle.sd_check.proofs.ScanLaws.{Scans}
use Rattle.sd_check.proofs.scan.scan_aces.Given as goal

-- what was granted so far, and what the rest of the list allows of the undecided rights, are the answer
abbrev pub invariant-loop-ace : goal.invariant-loop-ace
invariant-loop-ace g l = record {
  scans : Scans l.view l.ask l.acl l.yielded l.ace-iterator l.question l.undecided l.fn.token l.token;
  rights : (right : ℕ)
      → (carries l.granted right
      || (carries l.undecided right
      && allows (find (decides right l.view l.fn.token.holder.entries l.ask) l.ace-iterator)))
      ≡ (carries l.question right && allows (find (decides right l.view l.fn.token.holder.entries l.ask) l.acl));
}
