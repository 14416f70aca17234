use Rattle.std.proofs.Common.{◌≡◌, ◌++◌, ap, sym, ◌∙◌}
use Rattle.std.specs.List.{flat_map}
use Rattle.sd_inherit.specs.Inner.Building.{given, listed}
use Rattle.sd_inherit.specs.Copies.{copies}
use Rattle.sd_inherit.specs.declared.origin.Giver.TheVariants as giver
use Rattle.sd_inherit.proofs.DerivedLaws.{sacl-stands}
use Rattle.sd_inherit.proofs.inherited.AclSources.put_copied_sacl.Goals as goal
use Rattle.sd_inherit.proofs.inherited.AclSources.put_copied_sacl.Goals.{After-is_empty}

-- the copies from the first on are all
from_the_first : (c : After-is_empty) → given giver.Parent c.args.self.now
    ≡ listed c.inherited_from-first.result ++ flat_map (copies c.args.self.now.plan.now) c.next.new.self
from_the_first c = sym c.loop-ace.invariant.aces
    ∙ ap (flat_map (copies c.args.self.now.plan.now)) c.in-Some.ensures.steps
    ∙ ap (λ xs. xs ++ flat_map (copies c.args.self.now.plan.now) c.next.new.self)
    (sym c.inherited_from-first.ensures)

pub returns-then-not-is_empty-clause-ok : goal.returns-then-not-is_empty-clause-ok
returns-then-not-is_empty-clause-ok c = λ t h begin.
    let is = from_the_first (goal.at.returns-then-not-is_empty-clause-ok c).After-is_empty in
    let stands =
    sacl-stands (listed c.inherited_from-first.result) (flat_map (copies c.args.self.now.plan.now) c.next.new.self)
    (sym c.is_empty.ensures ∙ c.if-not-is_empty.true) in
    rw (is, stands)
    (c.in_ok-put_sacl_after.ensures.ok t (rw (c.loop-ace.invariant.builder, c.loop-ace.invariant.buf) h) begin)
