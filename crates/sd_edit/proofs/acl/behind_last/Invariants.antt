use Rattle.std.proofs.Common.{◌≡◌, ◌≤◌, take}
use Rattle.sd_edit.specs.Order.{behind_last, no_higher}
use Rattle.sd_edit.proofs.acl.behind_last.Given as goal

abbrev pub invariant-loop-ace : goal.invariant-loop-ace
invariant-loop-ace l = record {
  at : l.i ≡ l.ace-index;
  place : l.place ≡ behind_last (no_higher l.which l.new) (take l.ace-index l.aces);
  within : l.place ≤ l.ace-index;
}
