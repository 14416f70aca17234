use Rattle.std.proofs.Common.{◌≡◌, ◌++◌}
use Rattle.sd_edit.proofs.edited.aces_of.Given as goal

abbrev pub invariant-loop-ace : goal.invariant-loop-ace
invariant-loop-ace l = record {
  parts : l.fn.aces ≡ l.yielded ++ l.ace-iterator;
  held : l.held.items ≡ l.yielded;
}
