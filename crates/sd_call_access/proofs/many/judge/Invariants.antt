use Rattle.std.proofs.Common.{◌≡◌, ◌≤◌, ◌+◌, ◌++◌, drop, length, map, take}
use Rattle.sd_call_access.specs.Many.{given, judged_by, many_bound}
use Rattle.sd_call_access.proofs.many.judge.Given as goal

abbrev pub invariant-loop-i : goal.invariant-loop-i
invariant-loop-i l = record {
  holder : l.token.holder ≡ l.fn.token.holder;
  written : l.verdicts ≡ map (judged_by l.fn.token.holder l.ask) (take l.i (given l.descriptors))
      ++ drop l.i l.fn.verdicts;
  goes_on : l.fn.token.compared ≤ l.token.compared;
  at_most : l.token.compared
      ≤ l.fn.token.compared + many_bound (length l.fn.token.holder.entries) (take l.i (given l.descriptors));
}
