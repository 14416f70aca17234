-- New descriptors that are derived one after the other.
use Rattle.std.proofs.Common.{◌≡◌, ℕ, List, length, take, drop, Bool, true, false, Option, Result, Ok, Err, refl, sym}
use Rattle.std.proofs.Common.{ap, ◌∙◌, ◌++◌, inl, inr, min, arith}
use Rattle.std.proofs.lemmas.List.{length-take, take_min}
use Rattle.sd_text.specs.Chains.{◌>>=◌, and_then}
use Rattle.sd_view.specs.Descriptor.{Descriptor}
use Rattle.sd_inherit.specs.declared.plan.Plan.{Plan}
use Rattle.sd_call.specs.Arguments.{descriptor_in}
use Rattle.sd_call.specs.declared.outcome.CallFault.{CallFault}
use Rattle.sd_call.specs.declared.outcome.Outcome.{Outcome}
use Rattle.sd_call_columns.specs.Answered.{Answered, Lent, answers_by, has_room, lent, room_of}
use Rattle.sd_call_columns.proofs.laws.FrontLaws.{front_kept}
use Rattle.sd_call_columns.proofs.laws.RowLaws.{answers_same}
use Rattle.sd_call_access.specs.Derivations.{creator_in, input_in, new_layout, plan_in}
use Rattle.sd_call_access.specs.DerivedMany.{Asked, DerivesMany, Refuses, child_of, children_for, children_in}
use Rattle.sd_call_access.specs.DerivedMany.{derived_from, roomy}
use Rattle.sd_call_access.specs.declared.derivations.DerivationInput.{DerivationInput}
use Rattle.sd_call_access.specs.declared.derived_many.Children.{Children}
use Rattle.sd_call_access.specs.declared.derived_many.Creation.{Creation}

abbrev made_of : Plan → Option Descriptor → Result Children CallFault
made_of plan brought = Ok (record { creator = brought; plan = plan })

abbrev input_of : Plan → Option Descriptor → Descriptor → Result DerivationInput CallFault
input_of plan brought d = Ok (record { parent = d; creator = brought; plan = plan })

-- What is derived from a parent, if what all have in common was read before or is read with it.
read_before : (p : Result Plan CallFault) (b : Result (Option Descriptor) CallFault) (r : Result Descriptor CallFault)
    (children : Children)
    → and_then p (λ (plan : Plan). and_then b (made_of plan)) ≡ Ok children
    → and_then r (λ (d : Descriptor).
    new_layout (record { parent = d; creator = children.creator; plan = children.plan }))
    ≡ and_then (and_then p (λ (plan : Plan). and_then b (λ (brought : Option Descriptor).
    and_then r (input_of plan brought)))) new_layout
read_before (Err f) b r children h = absurd cc
read_before (Ok made) (Err f) r children h = absurd cc
read_before (Ok made) (Ok brought) (Err f) children h = refl
read_before (Ok made) (Ok brought) (Ok d) children h =
    let same : children ≡ record { creator = brought; plan = made } = cc in
    ap (λ (c : Children). new_layout (record { parent = d; creator = c.creator; plan = c.plan })) same

same_child : (creation : Creation) (children : Children) → children_in creation ≡ Ok children → (parent : List ℕ)
    → child_of children.creator children.plan parent ≡ derived_from creation parent
unfolding children_in child_of input_in
same_child creation children e parent =
    read_before (plan_in creation.kind creation.mapping creation.owner.now creation.group.now)
    (creator_in creation.creator.now) (descriptor_in parent) children e

-- There was room.
had_room : (found : Result Children CallFault) (enough : Bool) (children : Children)
    → and_then found (roomy enough) ≡ Ok children → found ≡ Ok children
had_room (Ok c) true children h = h
had_room (Ok c) false children h = absurd cc
had_room (Err f) enough children h = absurd cc

pub all_derived : (asked : Asked) (old new : Lent) (outcome : Outcome) (children : Children)
    → children_for asked.creation (has_room (length asked.offsets) asked.begin (room_of old)) ≡ Ok children
    → ((count : ℕ) × Answered (answers_by (child_of children.creator children.plan) asked.bytes asked.offsets)
    asked.begin old new outcome count)
    → DerivesMany asked old new outcome
all_derived asked old new outcome children e h =
    let read = had_room (children_in asked.creation) (has_room (length asked.offsets) asked.begin (room_of old))
    children e in
    let same = answers_same (child_of children.creator children.plan) (derived_from asked.creation)
    (same_child asked.creation children read) asked.bytes asked.offsets in
    rw (e, ← same) (inl h)

refused_as : (found : Result Children CallFault) (asked : Asked) (old : Lent) (outcome : Outcome)
    → children_for asked.creation (has_room (length asked.offsets) asked.begin (room_of old)) ≡ found
    → Refuses found outcome → DerivesMany asked old old outcome
refused_as (Ok children) asked old outcome e h = rw e (inr (h, (refl, refl, refl)))
refused_as (Err fault) asked old outcome e h = rw e (h, (refl, refl, refl))

pub none_derived : (asked : Asked) (old : Lent) (outcome : Outcome)
    → Refuses (children_for asked.creation (has_room (length asked.offsets) asked.begin (room_of old))) outcome
    → DerivesMany asked old old outcome
none_derived asked old outcome h =
    refused_as (children_for asked.creation (has_room (length asked.offsets) asked.begin (room_of old))) asked old
    outcome refl h

-- what is written to the front of an output
pub front_derived : (asked : Asked) (most size : ℕ) (old new : List ℕ) (old_offsets new_offsets : List ℕ)
    (old_outcomes new_outcomes : List Outcome) (outcome : Outcome) → size ≡ min most (length old)
    → length new ≡ length (take size old)
    → DerivesMany asked (lent (take size old) old_offsets old_outcomes) (lent new new_offsets new_outcomes) outcome
    → DerivesMany asked (lent (take most old) old_offsets old_outcomes)
    (lent (take most (new ++ drop size old)) new_offsets new_outcomes) outcome
front_derived asked most size old new old_offsets new_offsets old_outcomes new_outcomes outcome is long h =
    let same : take size old ≡ take most old = ap (λ (n : ℕ). take n old) is ∙ take_min most old in
    let n : length new ≡ size = long ∙ length-take size old ∙ omega (arith, is) in
    let kept = front_kept most size old new is n in
    rw (← same, kept) h
