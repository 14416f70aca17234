use Rattle.std.proofs.Common.{take}
use Rattle.sd_edit.specs.Order.{Seen, ranks}
use Rattle.sd_edit.proofs.acl.first_fall.Given as goal

abbrev pub invariant-loop-ace : goal.invariant-loop-ace
invariant-loop-ace l = Seen (ranks l.which (take l.ace-index l.aces)) l.order
