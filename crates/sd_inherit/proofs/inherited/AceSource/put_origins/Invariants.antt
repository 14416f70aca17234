use Rattle.std.proofs.Common.{◌≡◌, ◌++◌, length}
use Rattle.sd_inherit.specs.Inner.Counting.{Writes}
use Rattle.sd_inherit.specs.Origins.{origins_from}
use Rattle.sd_inherit.proofs.inherited.AceSource.put_origins.Given as goal

-- the origins of what the ACEs so far give are written
abbrev pub invariant-loop-ace : goal.invariant-loop-ace
invariant-loop-ace l = record {
  parts : l.fn.self.aces ≡ l.yielded ++ l.ace-iterator;
  place : l.place ≡ length l.yielded;
  writes : Writes (origins_from l.giver l.plan 0 l.yielded) l.fn.at l.fn.cells l.end l.cells;
}
