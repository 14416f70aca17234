use Rattle.std.proofs.Common.{◌≡◌, ℕ, refl, ap, ◌∙◌}
use Rattle.std.specs.Option.{option_copied}
use Rattle.sd_parts.specs.declared.part.Which.TheVariants.{Dacl, Sacl}
use Rattle.sd_builder.specs.Builds.{Builds}
use Rattle.sd_builder.specs.Draft.{DraftParts, built, nothing_given, with_owner}
use Rattle.sd_builder.proofs.laws.BuiltBytes.{built-layout}
use Rattle.sd_inherit.specs.Inner.Building.{with_part}
use Rattle.sd_inherit.specs.Derived.{creators_acl, derived, new_aces, new_sacl}
use Rattle.sd_inherit.proofs.DerivedLaws.{bits-are, built-derived, can-begin, dacl-is_list, draft-in-order, draft-parts}
use Rattle.sd_inherit.proofs.DerivedLaws.{draft_of, fault-dacl, fault-none, fault-sacl, parts_of, sacl-is_list}
use Rattle.sd_inherit.proofs.DerivedLaws.{with_sids}
use Rattle.sd_inherit.proofs.derivation.build.Goals as goal
use Rattle.sd_inherit.proofs.derivation.build.Goals.{After-flag_bits-flags}

pub returns-in_default-clause-fault : goal.returns-in_default-clause-fault
returns-in_default-clause-fault c =
    fault-sacl _ _ _ (rw c.sources-sacl.ensures.gathered at c.in_default.ensures.full)

pub returns-in_default-put_dacl-clause-fault : goal.returns-in_default-put_dacl-clause-fault
returns-in_default-put_dacl-clause-fault c =
    fault-dacl _ _ _
    (rw c.sources-sacl.ensures.gathered at c.in-Ok.ensures.full)
    (rw c.sources-dacl.ensures.gathered at c.in_default-put_dacl.ensures.full)

pub returns-clause-fault : goal.returns-clause-fault
returns-clause-fault c =
    fault-none _ _ _
    (rw c.sources-sacl.ensures.gathered at c.in-Ok.ensures.full)
    (rw c.sources-dacl.ensures.gathered at c.in-Ok-put_dacl.ensures.full)

-- what the builder was given in the end
given : (c : After-flag_bits-flags)
    → Builds c.put_dacl.new.builder c.put_dacl.new.buf
    (draft_of c.args.parent.now (option_copied c.args.creator) c.args.plan.now)
given c =
    let plan = c.args.plan.now in
    let one = with_owner plan.owner nothing_given in
    let sids = c.group.ensures.value one (c.owner.ensures.value nothing_given c.new-builder.ensures.value) in
    let sacl = new_sacl c.args.parent.now (option_copied c.args.creator) plan in
    rw (c.sources-dacl.ensures.gathered, c.sources-dacl.ensures.creators) at
    (c.in-Ok-put_dacl.ensures.ok (with_part Sacl sacl (with_sids plan))
    (rw (c.sources-sacl.ensures.gathered, c.sources-sacl.ensures.creators) at
    (c.in-Ok.ensures.ok (with_sids plan) sids (refl, refl))) (can-begin plan sacl))

-- and what that makes
derives : (c : After-flag_bits-flags)
    → built c.flag_bits-flags.result 0 (draft_of c.args.parent.now (option_copied c.args.creator) c.args.plan.now).parts
    ≡ derived c.args.parent.now (option_copied c.args.creator) c.args.plan.now
derives c =
    let d = c.args.parent.now in
    let creator = option_copied c.args.creator in
    let plan = c.args.plan.now in
    ap (built c.flag_bits-flags.result 0) (draft-parts d creator plan)
    ∙ ap (λ (n : ℕ). built n 0 (parts_of d creator plan))
    (c.flag_bits-flags.ensures
    ∙ bits-are d creator plan _ _
    (c.is_list-sacl_is_list.ensures
    ∙ rw (c.in-Ok.ensures.stands, c.sources-sacl.ensures.gathered, c.sources-sacl.ensures.creators)
    (sacl-is_list (creators_acl Sacl creator) (new_aces Sacl d creator plan)))
    (c.is_list.ensures
    ∙ rw c.sources-dacl.ensures.creators (dacl-is_list (creators_acl Dacl creator) (new_aces Dacl d creator plan))))
    ∙ built-derived d creator plan

pub finish-requires : goal.finish-requires
finish-requires c =
    let at = goal.at.finish-requires c in
    let d = c.args.parent.now in
    let creator = option_copied c.args.creator in
    let plan = c.args.plan.now in
    let closed = ap (λ (p : DraftParts). p.«open») (draft-parts d creator plan) in
    (draft_of d creator plan, given at.After-flag_bits-flags, closed)

pub returns-clause-shows : goal.returns-clause-shows
returns-clause-shows c =
    let at = goal.at.returns-clause-shows c in
    rw (← derives at.After-flag_bits-flags) (c.finish.ensures.shows _ (given at.After-flag_bits-flags))

pub returns-clause-laid_out : goal.returns-clause-laid_out
returns-clause-laid_out c =
    let at = goal.at.returns-clause-laid_out c in
    let d = c.args.parent.now in
    let creator = option_copied c.args.creator in
    let plan = c.args.plan.now in
    let t = draft_of d creator plan in
    rw (← derives at.After-flag_bits-flags)
    (c.finish.ensures.exact t (given at.After-flag_bits-flags)
    ∙ built-layout c.flag_bits-flags.result 0 t (draft-in-order d creator plan))
