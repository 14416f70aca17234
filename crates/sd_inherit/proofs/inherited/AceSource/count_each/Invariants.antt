use Rattle.std.proofs.Common.{◌≡◌, ◌++◌, false}
use Rattle.std.specs.List.{flat_map}
use Rattle.sd_inherit.specs.Inner.Counting.{Counts, IsTally}
use Rattle.sd_inherit.specs.Origins.{gives}
use Rattle.sd_inherit.proofs.inherited.AceSource.count_each.Given as goal

-- what the ACEs so far give is counted
abbrev pub invariant-loop-ace : goal.invariant-loop-ace
invariant-loop-ace l = record {
  parts : l.fn.self.aces ≡ l.yielded ++ l.ace-iterator;
  counts : Counts (flat_map (gives l.giver l.plan) l.yielded) l.fn.tally l.tally false;
  tally : IsTally l.tally;
}
