use Rattle.std.proofs.Common.{◌≡◌, ◌++◌, true, false, refl, arith}
use Rattle.sd_inherit.specs.Inner.Building.{gathered_from}
use Rattle.sd_inherit.specs.Inner.Counting.{given_beside}
use Rattle.sd_inherit.specs.declared.inherited.AclSources.{AclSources}
use Rattle.sd_inherit.specs.declared.origin.Giver.TheVariants as giver
use Rattle.sd_inherit.proofs.CountingLaws.{counts_stop, counts_then}
use Rattle.sd_inherit.proofs.OriginFacts.{gathered_flat}
use Rattle.sd_inherit.proofs.inherited.AclSources.count.Goals as goal

split : (s : AclSources) → gathered_from s ≡ given_beside giver.Creator s ++ given_beside giver.Parent s
split s = gathered_flat s.plan.now s.creators s.parents

pub returns-in_err-count_given-clause-full : goal.returns-in_err-count_given-clause-full
returns-in_err-count_given-clause-full c =
    let s = c.args.self.now in
    let all = counts_stop (given_beside giver.Creator s) (given_beside giver.Parent s) _ _ true refl
    c.in_err-count_given.ensures in
    rw (split s) (λ _. all.full.0 refl, λ _. c.from_residual.ensures.0)

pub returns-in_err-count_given-2-clause-full : goal.returns-in_err-count_given-2-clause-full
returns-in_err-count_given-2-clause-full c =
    let s = c.args.self.now in
    let all = counts_then (given_beside giver.Creator s) (given_beside giver.Parent s) _ _ _ true
    c.in_ok-count_given.ensures c.in_err-count_given-2.ensures in
    rw (split s) (λ _. all.full.0 refl, λ _. c.from_residual-in_err-count_given-2.ensures.0)

pub returns-clause-full : goal.returns-clause-full
returns-clause-full c =
    let s = c.args.self.now in
    rw (split s)
    (counts_then (given_beside giver.Creator s) (given_beside giver.Parent s) _ _ _ false
    c.in_ok-count_given.ensures c.in_ok-count_given-2.ensures).full

pub returns-clause-count : goal.returns-clause-count
returns-clause-count c =
    let s = c.args.self.now in
    let all = counts_then (given_beside giver.Creator s) (given_beside giver.Parent s) _ _ _ false
    c.in_ok-count_given.ensures c.in_ok-count_given-2.ensures in
    let count = all.count refl in
    rw (split s) (omega (arith, count))
