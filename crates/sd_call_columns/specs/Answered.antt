-- The answers to the rows of a column, each of which is answered by itself. They are a column again.
use Rattle.std.specs.Prelude.{◌≡◌, ◌≤◌, ◌<◌, ◌⊎◌, ◌+◌, ◌++◌, ◌&&◌, ℕ, List, [], ◌∷◌, Bool}
use Rattle.std.specs.Prelude.{nat_le, nat_lt, length, take, drop, map, slice_index, slice_index_or, Result, Ok, Err}
use Rattle.std.specs.List.{flat_map}
use Rattle.sd_text.specs.Chains.{and_then}
use Rattle.sd_call.specs.Columns.{rows}
use Rattle.sd_call.specs.Outcomes.{done, failed, no_memory, too_small}
use Rattle.sd_call.specs.declared.outcome.CallFault.{CallFault}
use Rattle.sd_call.specs.declared.outcome.Outcome.{Outcome}
use Rattle.sd_call_columns.specs.declared.room.Room.{Room}

-- 1. What the caller lends.

pub record Lent : Type 0 where
  pub bytes : List ℕ
  pub offsets : List ℕ
  pub outcomes : List Outcome

-- Offsets of 32 bits have a sign in Arrow, so no more bytes than these have any.
abbrev pub most_small : ℕ
most_small = 0x7FFF_FFFF

abbrev pub lent : List ℕ → List ℕ → List Outcome → Lent
lent bytes offsets outcomes = record { bytes = bytes; offsets = offsets; outcomes = outcomes }

abbrev pub room_of : Lent → Room
room_of lent = record {
  bytes = length lent.bytes;
  offsets = length lent.offsets;
  outcomes = length lent.outcomes;
}

-- There is an offset at least, room for as many, and for an outcome fewer. The first answer begins within the room.
abbrev pub has_room : ℕ → ℕ → Room → Bool
has_room count begin room = nat_lt 0 count && (nat_le count room.offsets && (nat_le count (room.outcomes + 1)
    && nat_le begin room.bytes))

-- 2. The answers.

-- to each row what its bytes get by themselves, or the fault of its offsets
abbrev pub answers_by : (List ℕ → Result (List ℕ) CallFault) → List ℕ → List ℕ → List (Result (List ℕ) CallFault)
answers_by answer bytes offsets = map (λ row. and_then row answer) (rows bytes offsets)

abbrev pub outcome_of : Result (List ℕ) CallFault → Outcome
outcome_of (Ok bytes) = done (length bytes)
outcome_of (Err fault) = failed fault

-- After a fault the answer is empty.
abbrev pub bytes_of : Result (List ℕ) CallFault → List ℕ
bytes_of (Ok bytes) = bytes
bytes_of (Err fault) = []

-- where the last of some answers ends, the first of which begins there
abbrev pub end_of : ℕ → List (Result (List ℕ) CallFault) → ℕ
end_of begin given = begin + length (flat_map bytes_of given)

-- the output has no room for the answer of this row, which has so many bytes
abbrev pub stopped : ℕ → ℕ → Outcome
stopped row size = record (too_small size) { entry = row }

-- So many rows are answered: all of them, or those before the first one whose answer has no room.
pub record Ends (given : List (Result (List ℕ) CallFault)) (begin room count : ℕ) (outcome : Outcome) : Type 0 where
  pub all : length given ≤ count → outcome ≡ done (end_of begin given)
  pub some : count < length given → (room < end_of begin (take (count + 1) given))
      × (outcome ≡ stopped count (length (bytes_of (slice_index_or given count (Ok [])))))

-- The first answers are there, one directly after the other, behind what was there before.
pub record Holds (given : List (Result (List ℕ) CallFault)) (begin : ℕ) (old new : List ℕ)
    (old_outcomes new_outcomes : List Outcome) (count : ℕ) : Type 0 where
  pub few : count ≤ length given
  pub within : end_of begin (take count given) ≤ length old
  pub bytes : take (end_of begin (take count given)) new ≡ take begin old ++ flat_map bytes_of (take count given)
  pub outcomes : new_outcomes ≡ map outcome_of (take count given) ++ drop count old_outcomes

-- how many bytes the answers of some outcomes have
abbrev pub lengths : List Outcome → ℕ
lengths [] = 0
lengths (outcome ∷ others) = outcome.length + lengths others

-- The offsets are where the answers end.
pub record HasEnds (given : List (Result (List ℕ) CallFault)) (begin : ℕ) (old new : List ℕ) (count : ℕ) : Type 0 where
  pub ends : (k : ℕ) → k ≤ count → slice_index new k ≡ end_of begin (take k given)
  pub rest : drop (count + 1) new ≡ drop (count + 1) old

pub record Answered (given : List (Result (List ℕ) CallFault)) (begin : ℕ) (old new : Lent) (outcome : Outcome)
    (count : ℕ) : Type 0 where
  pub holds : Holds given begin old.bytes new.bytes old.outcomes new.outcomes count
  pub offsets : HasEnds given begin old.offsets new.offsets count
  pub ending : Ends given begin (length old.bytes) count outcome

abbrev pub Kept : Lent → Lent → Type 0
Kept old new = (new.bytes ≡ old.bytes) × (new.offsets ≡ old.offsets) × (new.outcomes ≡ old.outcomes)

-- Memory may be refused for the answers. Then nothing is written.
abbrev pub AnswersAll : List (Result (List ℕ) CallFault) → ℕ → Lent → Lent → Outcome → Type 0
AnswersAll given begin old new outcome =
    ((count : ℕ) × Answered given begin old new outcome count) ⊎ ((outcome ≡ no_memory) × Kept old new)
