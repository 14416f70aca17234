use Rattle.std.proofs.Common.{◌≡◌, ◌++◌, take}
use Rattle.sd_edit.specs.Order.{of_rank}
use Rattle.sd_edit.proofs.acl.push_rank.Given as goal

abbrev pub invariant-loop-ace : goal.invariant-loop-ace
invariant-loop-ace l = l.sorted.items ≡ l.initial.sorted.items ++ of_rank l.which l.n (take l.ace-index l.aces)
