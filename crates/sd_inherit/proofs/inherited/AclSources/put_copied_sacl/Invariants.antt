use Rattle.std.proofs.Common.{◌≡◌, length}
use Rattle.std.specs.List.{flat_map}
use Rattle.sd_inherit.specs.Copies.{copies}
use Rattle.sd_inherit.specs.Inner.Building.{given}
use Rattle.sd_inherit.specs.declared.origin.Giver.TheVariants as giver
use Rattle.sd_inherit.proofs.inherited.AclSources.put_copied_sacl.Given as goal

-- the ACEs so far have no copy
abbrev pub invariant-loop-ace : goal.invariant-loop-ace
invariant-loop-ace l = record {
  aces : flat_map (copies l.plan) l.aces ≡ given giver.Parent l.self;
  builder : l.builder ≡ l.fn.builder;
  buf : l.buf ≡ l.fn.buf;
}

abbrev pub decreases-loop-ace : goal.decreases-loop-ace
decreases-loop-ace l = length l.aces
