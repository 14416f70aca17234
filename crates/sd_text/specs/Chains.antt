-- Readings one after the other: the first one that fails is the answer.
use Rattle.std.specs.Prelude.{List, [], ◌∷◌, Option, Some, None, Result, Ok, Err}
use Rattle.std.specs.Option.{option_and_then, option_map}

-- what is read next, or the first fault
abbrev pub and_then : {A B F : Type 0} → Result A F → (A → Result B F) → Result B F
and_then (Ok value) next = next value
and_then (Err fault) next = Err fault

-- the same in a `do`: `x ← read` goes on with what was read
abbrev pub ◌>>=◌ : {A B F : Type 0} → Result A F → (A → Result B F) → Result B F
◌>>=◌ read next = and_then read next

-- a value, where there is no fault
abbrev pub unless : {A F : Type 0} → Option F → A → Result A F
unless (Some fault) value = Err fault
unless None value = Ok value

-- a fault by the name that it has further up
abbrev pub fault_as : {A E F : Type 0} → (E → F) → Result A E → Result A F
fault_as name (Ok value) = Ok value
fault_as name (Err fault) = Err (name fault)

-- what each one of a list reads as, in order, if all of them do
abbrev pub all_read : {A B : Type 0} → (A → Option B) → List A → Option (List B)
all_read reads [] = Some []
all_read reads (x ∷ others) = option_and_then (λ y. option_map (λ ys. y ∷ ys) (all_read reads others)) (reads x)
