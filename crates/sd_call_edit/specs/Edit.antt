-- What an edit gives: the layout of the edited descriptor, or the first fault.
use Rattle.std.specs.Prelude.{◌≡◌, ◌⊎◌, ℕ, not, nat_lt, Bool, if◌then◌else◌, List, [], ◌∷◌, length, map}
use Rattle.std.specs.Prelude.{Option, Some, None, is_some, unwrap_or, option_map, Result, Ok, Err}
use Rattle.std.specs.List.{position}
use Rattle.sd_view.specs.Descriptor.{Descriptor}
use Rattle.sd_view.specs.Layout.{layout}
use Rattle.sd_call.specs.Arguments.{descriptor_in}
use Rattle.sd_call.specs.Outcomes.{Answers, Refused, failed}
use Rattle.sd_call.specs.declared.argument.Argument.TheVariants as which
use Rattle.sd_call.specs.declared.outcome.CallFault.{CallFault}
use Rattle.sd_call.specs.declared.outcome.CallFault.TheVariants as call
use Rattle.sd_call.specs.declared.outcome.Outcome.{Outcome}
use Rattle.sd_edit.specs.Edits as edits
use Rattle.sd_edit.specs.Edits.{edit}
use Rattle.sd_edit.specs.declared.change.Change.{Change}
use Rattle.sd_edit.specs.declared.change.Change.TheVariants as changes
use Rattle.sd_call_edit.specs.Input.{change_in}
use Rattle.sd_call_edit.specs.declared.input.ChangeInput.{ChangeInput}

-- 1. The changes.

abbrev pub is_change : ChangeInput → Bool
is_change c = is_some (change_in c)

-- stands for a change that can't be, and is never used
abbrev pub no_change : Change
no_change = changes.Control 0 0

abbrev pub shown_change : ChangeInput → Change
shown_change c = unwrap_or (change_in c) no_change

abbrev pub changes_of : List ChangeInput → List Change
changes_of cs = map shown_change cs

-- 70: more than 16,384 changes, or the first that is none
abbrev pub changes_fault : List ChangeInput → Option CallFault
changes_fault cs =
    if nat_lt 16384 (length cs) then Some (call.Argument which.Changes 0)
    else option_map (λ entry. call.Argument which.Changes entry) (position (λ c. not (is_change c)) cs)

-- 2. What is edited: the faults of the changes come before those of the descriptor.

abbrev pub unless : Option CallFault → Result Descriptor CallFault → Result Descriptor CallFault
unless None read = read
unless (Some fault) read = Err fault

abbrev pub input_in : List ℕ → List ChangeInput → Result Descriptor CallFault
input_in bytes cs = unless (changes_fault cs) (descriptor_in bytes)

-- 3. What comes of it.

-- the layout, or the change that can't be made, by its number
abbrev pub answer : edits.Outcome → Result (List ℕ) CallFault
answer (counts, Ok d) = Ok (layout d)
answer (counts, Err fault) = Err (call.Change fault (length counts))

-- the counts of the changes that were made, as far as there is room for them
abbrev pub counted : List ℕ → List ℕ → List ℕ
counted [] old = old
counted (n ∷ counts) [] = []
counted (n ∷ counts) (x ∷ old) = n ∷ counted counts old

-- the answer and the counts of the changes, unless memory was refused
abbrev pub EditsTo : edits.Outcome → List ℕ → List ℕ → List ℕ → List ℕ → Outcome → Type 0
EditsTo made old_counts new_counts old new outcome =
    (Answers (answer made) old new outcome × (new_counts ≡ counted made.0 old_counts)) ⊎ Refused old new outcome

abbrev pub EditsWithin : Result Descriptor CallFault → List Change → List ℕ → List ℕ → List ℕ → List ℕ → Outcome
    → Type 0
EditsWithin (Ok d) cs old_counts new_counts old new outcome =
    EditsTo (edit cs d) old_counts new_counts old new outcome
EditsWithin (Err fault) cs old_counts new_counts old new outcome =
    (outcome ≡ failed fault) × (new ≡ old) × (new_counts ≡ old_counts)

-- 4. What the code has made of the changes. No definition above rests on it.

abbrev pub made_as : edits.Outcome → Descriptor → Result (Unit {0}) CallFault → Type 0
made_as made d (Ok done) = made.1 ≡ Ok d
made_as made d (Err fault) = answer made ≡ Err fault

abbrev pub Makes : edits.Outcome → List ℕ → List ℕ → Descriptor → Result (Unit {0}) CallFault → Type 0
Makes made old_counts new_counts d result = made_as made d result × (new_counts ≡ counted made.0 old_counts)
