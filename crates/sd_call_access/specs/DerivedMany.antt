-- A column of parents, from each of which a new descriptor is derived by itself.
use Rattle.std.specs.Prelude.{◌≡◌, ℕ, List, Bool, if◌then◌else◌, MatchResult, length, take, Option, Result, Ok, Err}
use Rattle.sd_text.specs.Chains.{◌>>=◌, and_then}
use Rattle.sd_view.specs.Descriptor.{Descriptor}
use Rattle.sd_inherit.specs.declared.plan.Plan.{Plan}
use Rattle.sd_call.specs.Arguments.{descriptor_in}
use Rattle.sd_call.specs.Outcomes.{failed, no_memory}
use Rattle.sd_call.specs.declared.argument.Argument.TheVariants as which
use Rattle.sd_call.specs.declared.outcome.CallFault.{CallFault}
use Rattle.sd_call.specs.declared.outcome.CallFault.TheVariants as call
use Rattle.sd_call.specs.declared.outcome.Outcome.{Outcome}
use Rattle.sd_call_columns.specs.Answered.{AnswersAll, Kept, Lent, answers_by, has_room, most_small, room_of}
use Rattle.sd_call_access.specs.Derivations.{creator_in, derivation, new_layout, plan_in}
use Rattle.sd_call_access.specs.declared.derived_many.Children.{Children}
use Rattle.sd_call_access.specs.declared.derived_many.Creation.{Creation}
use Rattle.sd_call_access.specs.declared.derived_many.Derivation.{Derivation}
use Rattle.sd_call_access.specs.declared.derived_many.LargeDerivation.{LargeDerivation}

-- 1. What the caller says.

-- what new objects are derived from, whichever size the offsets of the parents have
pub record Asked : Type 0 where
  pub bytes : List ℕ
  pub offsets : List ℕ
  pub creation : Creation
  pub begin : ℕ

abbrev pub asked : Derivation → Asked
asked derivation = record {
  bytes = take most_small derivation.parents.data.now;
  offsets = derivation.parents.offsets.now;
  creation = derivation.creation;
  begin = derivation.begin;
}

abbrev pub asked_large : LargeDerivation → Asked
asked_large derivation = record {
  bytes = derivation.parents.data.now;
  offsets = derivation.parents.offsets.now;
  creation = derivation.creation;
  begin = derivation.begin;
}

-- what the new objects have in common
unfoldable pub children_in : Creation → Result Children CallFault
children_in creation = do
  made ← plan_in creation.kind creation.mapping creation.owner.now creation.group.now
  brought ← creator_in creation.creator.now
  Ok (record { creator = brought; plan = made })

abbrev pub roomy : Bool → Children → Result Children CallFault
roomy enough children = if enough then Ok children else Err (call.Argument which.Offsets 0)

-- the same, if there is room
abbrev pub children_for : Creation → Bool → Result Children CallFault
children_for creation enough = and_then (children_in creation) (roomy enough)

-- 2. The answers.

-- what the single call derives from a parent
abbrev pub derived_from : Creation → List ℕ → Result (List ℕ) CallFault
derived_from creation parent =
    derivation parent creation.creator.now creation.owner.now creation.group.now creation.kind creation.mapping

-- A fault of what all have in common, or of what is lent, is told whether there is memory or not. After it nothing is
-- written.
abbrev pub DerivesMany : Asked → Lent → Lent → Outcome → Type 0
DerivesMany asked old new outcome =
    MatchResult (children_for asked.creation (has_room (length asked.offsets) asked.begin (room_of old)))
    (λ _. AnswersAll (answers_by (derived_from asked.creation) asked.bytes asked.offsets) asked.begin old new outcome)
    (λ fault. (outcome ≡ failed fault) × Kept old new)

-- 3. The same where the creator and the plan were read before.

unfoldable pub child_of : Option Descriptor → Plan → List ℕ → Result (List ℕ) CallFault
child_of creator plan parent = do
  d ← descriptor_in parent
  new_layout (record { parent = d; creator = creator; plan = plan })

-- why nothing is derived
abbrev pub Refuses : Result Children CallFault → Outcome → Type 0
Refuses (Ok children) outcome = outcome ≡ no_memory
Refuses (Err fault) outcome = outcome ≡ failed fault
