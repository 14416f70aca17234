use Rattle.std.proofs.Common.{◌≡◌, take, not}
use Rattle.std.specs.List.{filter}
use Rattle.sd_edit.specs.Matching.{matches}
use Rattle.sd_edit.proofs.acl.without.Given as goal

abbrev pub invariant-loop-ace : goal.invariant-loop-ace
invariant-loop-ace l = l.kept.items ≡ filter (λ a. not (matches l.matching a)) (take l.ace-index l.aces)
