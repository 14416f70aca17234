use Rattle.std.proofs.Common.{◌≡◌, ◌++◌}
use Rattle.std.specs.List.{flat_map}
use Rattle.sd_builder.specs.Builds.{Builds}
use Rattle.sd_builder.specs.Draft.{Draft}
use Rattle.sd_inherit.specs.Inner.Building.{HasOpen, with_aces}
use Rattle.sd_inherit.specs.Origins.{gives}
use Rattle.sd_inherit.proofs.inherited.AceSource.put_each.Given as goal

-- the copies of the ACEs so far are appended
abbrev pub invariant-loop-ace : goal.invariant-loop-ace
invariant-loop-ace l = record {
  parts : l.fn.self.aces ≡ l.yielded ++ l.ace-iterator;
  writes : (t : Draft) → Builds l.fn.builder l.fn.buf t
      → Builds l.builder l.buf (with_aces (flat_map (gives l.giver l.plan) l.yielded) t);
  room : (t : Draft) → Builds l.fn.builder l.fn.buf t → HasOpen t
      → HasOpen (with_aces (flat_map (gives l.giver l.plan) l.yielded) t);
}
