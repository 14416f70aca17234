use Rattle.std.proofs.Common.{true, false, refl, lit≤}
use Rattle.sd_builder.specs.Builds.{Builds}
use Rattle.sd_builder.specs.Draft.{Draft, begun}
use Rattle.sd_inherit.specs.Inner.Building.{HasOpen, given, with_aces}
use Rattle.sd_inherit.specs.declared.origin.Giver.TheVariants as giver
use Rattle.sd_inherit.proofs.BuildingLaws.{full_after, full_before, stays_open}
use Rattle.sd_inherit.proofs.inherited.AclSources.put_both.Goals as goal
use Rattle.sd_inherit.proofs.inherited.AclSources.put_both.Goals.{After-put_given}

-- the builder with the ACL that was begun
abbrev start : After-put_given → Draft
start c = let t = c.requires.0 in let d : Draft = record t { parts = begun c.args.which t.parts } in d

builds : (c : After-put_given) → Builds c.begin_acl.new.self c.begin_acl.new.buf (start c)
builds c = c.begin_acl.ensures.value c.requires.0 c.requires.1

opened : (c : After-put_given) → HasOpen (start c)
opened c = record { «open» = tt; fits = lit≤ tt }

pub returns-in_err-put_given-clause-full : goal.returns-in_err-put_given-clause-full
returns-in_err-put_given-clause-full c =
    let at = (goal.at.returns-in_err-put_given-clause-full c).After-put_given in
    let xs = given giver.Creator c.args.self.now in
    let ys = given giver.Parent c.args.self.now in
    let full = full_before (start at) xs ys (c.in_err-put_given.ensures.full (start at) (builds at) (opened at)) in
    (λ _. full.0 refl, λ _. c.from_residual.ensures.0)

pub returns-in_err-put_given-2-clause-full : goal.returns-in_err-put_given-2-clause-full
returns-in_err-put_given-2-clause-full c =
    let at = (goal.at.returns-in_err-put_given-2-clause-full c).After-put_given in
    let xs = given giver.Creator c.args.self.now in
    let ys = given giver.Parent c.args.self.now in
    let full = full_after (start at) xs ys true (opened at)
    (c.in_err-put_given-2.ensures.full (with_aces xs (start at))
    (c.in_ok-put_given.ensures.ok (start at) (builds at))
    (stays_open (start at) xs (opened at) (c.in_ok-put_given.ensures.full (start at) (builds at) (opened at)))) in
    (λ _. full.0 refl, λ _. c.from_residual-in_err-put_given-2.ensures.0)

pub returns-clause-full : goal.returns-clause-full
returns-clause-full c =
    let at = (goal.at.returns-clause-full c).After-put_given in
    let xs = given giver.Creator c.args.self.now in
    let ys = given giver.Parent c.args.self.now in
    full_after (start at) xs ys false (opened at)
    (c.in_ok-put_given-2.ensures.full (with_aces xs (start at))
    (c.in_ok-put_given.ensures.ok (start at) (builds at))
    (stays_open (start at) xs (opened at) (c.in_ok-put_given.ensures.full (start at) (builds at) (opened at))))
