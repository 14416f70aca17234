use Rattle.std.proofs.Common.{◌≡◌, ◌++◌}
use Rattle.sd_edit.specs.Order.{Seen, ranks}
use Rattle.sd_call_edit.proofs.order.first_fall.Given as goal

abbrev pub invariant-loop-ace : goal.invariant-loop-ace
invariant-loop-ace l = record {
  parts : l.fn.aces ≡ l.yielded ++ l.ace-iterator;
  seen : Seen (ranks l.which l.yielded) l.order;
}
