-- A column of bytes or texts, each row of which is converted by itself.
use Rattle.std.specs.Prelude.{◌≡◌, ◌≤◌, ◌<◌, ◌⊎◌, ◌+◌, ◌++◌, ◌&&◌, ◌==◌, ℕ, List, [], ◌∷◌, Bool, if◌then◌else◌, nat_eq}
use Rattle.std.specs.Prelude.{nat_le, nat_lt, MatchResult, length, take, drop, map, slice_index, slice_index_or}
use Rattle.std.specs.Prelude.{Option, Result, Ok, Err}
use Rattle.std.specs.List.{flat_map}
use Rattle.sd_text.specs.Chains.{◌>>=◌, and_then}
use Rattle.sd_sid.specs.Naming.{naming_by}
use Rattle.sd_sid.specs.Sid.{SecurityId}
use Rattle.sd_sid.specs.declared.naming.Naming.{Naming}
use Rattle.sd_sddl_printer.specs.Printed.{sddl}
use Rattle.sd_call.specs.Arguments.{descriptor_in, domain_in}
use Rattle.sd_call.specs.Columns.{rows}
use Rattle.sd_call.specs.Outcomes.{done, failed, no_memory, too_small}
use Rattle.sd_call.specs.declared.argument.Argument.TheVariants as which
use Rattle.sd_call.specs.declared.outcome.CallFault.{CallFault}
use Rattle.sd_call.specs.declared.outcome.CallFault.TheVariants as call
use Rattle.sd_call.specs.declared.outcome.Outcome.{Outcome}
use Rattle.sd_call_convert.specs.Conversions.{from_sddl, laid_out, normalized, read_under, text_in, to_sddl}
use Rattle.sd_call_convert.specs.declared.many.Conversion.{Conversion}
use Rattle.sd_call_convert.specs.declared.many.LargeConversion.{LargeConversion}
use Rattle.sd_call_convert.specs.declared.row.ConversionKind.{ConversionKind}
use Rattle.sd_call_convert.specs.declared.row.ConversionKind.TheVariants as kind
use Rattle.sd_call_convert.specs.declared.row.Manner.{Manner}
use Rattle.sd_call_convert.specs.declared.row.Room.{Room}

-- what the call for a single row gives
abbrev pub converted : ConversionKind → List ℕ → Bool → List ℕ → Result (List ℕ) CallFault
converted kind.ToSddl domain numeric bytes = to_sddl bytes domain numeric
converted kind.FromSddl domain numeric text = from_sddl text domain
converted kind.Normalize domain numeric bytes = normalized bytes

-- 1. What the caller says, and lends.

-- a conversion, whichever size its offsets have
pub record Asked : Type 0 where
  pub bytes : List ℕ
  pub offsets : List ℕ
  pub domain : List ℕ
  pub begin : ℕ
  pub kind : ℕ
  pub options : ℕ

-- what is lent for the answers
pub record Lent : Type 0 where
  pub bytes : List ℕ
  pub offsets : List ℕ
  pub outcomes : List Outcome

-- Offsets of 32 bits have a sign in Arrow, so no more bytes than these have any.
abbrev pub most_small : ℕ
most_small = 0x7FFF_FFFF

abbrev pub asked : Conversion → Asked
asked conversion = record {
  bytes = take most_small conversion.data.now;
  offsets = conversion.offsets.now;
  domain = conversion.domain.now;
  begin = conversion.begin;
  kind = conversion.kind;
  options = conversion.options;
}

abbrev pub asked_large : LargeConversion → Asked
asked_large conversion = record {
  bytes = conversion.data.now;
  offsets = conversion.offsets.now;
  domain = conversion.domain.now;
  begin = conversion.begin;
  kind = conversion.kind;
  options = conversion.options;
}

abbrev pub lent : List ℕ → List ℕ → List Outcome → Lent
lent bytes offsets outcomes = record { bytes = bytes; offsets = offsets; outcomes = outcomes }

abbrev pub room_of : Lent → Room
room_of lent = record {
  bytes = length lent.bytes;
  offsets = length lent.offsets;
  outcomes = length lent.outcomes;
}

-- There is an offset at least, room for as many, and for an outcome fewer. The first answer begins within the room.
abbrev pub has_room : ℕ → ℕ → Room → Bool
has_room count begin room = nat_lt 0 count && (nat_le count room.offsets && (nat_le count (room.outcomes + 1)
    && nat_le begin room.bytes))

abbrev pub kind_in : ℕ → Result ConversionKind CallFault
kind_in number =
    if nat_eq number 0 then Ok kind.ToSddl
    else if nat_eq number 1 then Ok kind.FromSddl
    else if nat_eq number 2 then Ok kind.Normalize
    else Err (call.Argument which.Conversion 0)

-- whether the options ask for no aliases
abbrev pub numeric_in : ℕ → Result Bool CallFault
numeric_in options = if nat_lt 1 options then Err (call.Argument which.Options 0) else Ok (options == 1)

-- how each row is converted
unfoldable pub manner_in : ℕ → ℕ → List ℕ → Result Manner CallFault
manner_in number options domain = do
  what ← kind_in number
  numeric ← numeric_in options
  named ← domain_in domain
  Ok (record { kind = what; naming = naming_by named numeric })

abbrev pub roomy : Bool → Manner → Result Manner CallFault
roomy enough manner = if enough then Ok manner else Err (call.Argument which.Offsets 0)

-- the same, if there is room
unfoldable pub manner_for : ℕ → ℕ → List ℕ → Bool → Result Manner CallFault
manner_for number options domain enough = and_then (manner_in number options domain) (roomy enough)

-- 2. The answers.

-- of each row what the single call gives, or the fault of its offsets
abbrev pub answers : Manner → Asked → List (Result (List ℕ) CallFault)
answers manner asked =
    map (λ row. and_then row (converted manner.kind asked.domain manner.naming.numeric))
    (rows asked.bytes asked.offsets)

abbrev pub outcome_of : Result (List ℕ) CallFault → Outcome
outcome_of (Ok bytes) = done (length bytes)
outcome_of (Err fault) = failed fault

-- After a fault the answer is empty.
abbrev pub bytes_of : Result (List ℕ) CallFault → List ℕ
bytes_of (Ok bytes) = bytes
bytes_of (Err fault) = []

-- where the last of some answers ends, the first of which begins there
abbrev pub end_of : ℕ → List (Result (List ℕ) CallFault) → ℕ
end_of begin given = begin + length (flat_map bytes_of given)

-- the output has no room for the answer of this row, which has so many bytes
abbrev pub stopped : ℕ → ℕ → Outcome
stopped row size = record (too_small size) { entry = row }

-- So many rows are answered: all of them, or those before the first one whose answer has no room.
pub record Ends (given : List (Result (List ℕ) CallFault)) (begin room count : ℕ) (outcome : Outcome) : Type 0 where
  pub all : length given ≤ count → outcome ≡ done (end_of begin given)
  pub some : count < length given → (room < end_of begin (take (count + 1) given))
      × (outcome ≡ stopped count (length (bytes_of (slice_index_or given count (Ok [])))))

-- The first answers are there, one directly after the other, behind what was there before.
pub record Holds (given : List (Result (List ℕ) CallFault)) (begin : ℕ) (old new : List ℕ)
    (old_outcomes new_outcomes : List Outcome) (count : ℕ) : Type 0 where
  pub few : count ≤ length given
  pub within : end_of begin (take count given) ≤ length old
  pub bytes : take (end_of begin (take count given)) new ≡ take begin old ++ flat_map bytes_of (take count given)
  pub outcomes : new_outcomes ≡ map outcome_of (take count given) ++ drop count old_outcomes

-- how many bytes the answers of some outcomes have
abbrev pub lengths : List Outcome → ℕ
lengths [] = 0
lengths (outcome ∷ others) = outcome.length + lengths others

-- The offsets are where the answers end.
pub record HasEnds (given : List (Result (List ℕ) CallFault)) (begin : ℕ) (old new : List ℕ) (count : ℕ) : Type 0 where
  pub ends : (k : ℕ) → k ≤ count → slice_index new k ≡ end_of begin (take k given)
  pub rest : drop (count + 1) new ≡ drop (count + 1) old

pub record Answered (given : List (Result (List ℕ) CallFault)) (begin : ℕ) (old new : Lent) (outcome : Outcome)
    (count : ℕ) : Type 0 where
  pub holds : Holds given begin old.bytes new.bytes old.outcomes new.outcomes count
  pub offsets : HasEnds given begin old.offsets new.offsets count
  pub ending : Ends given begin (length old.bytes) count outcome

abbrev pub Kept : Lent → Lent → Type 0
Kept old new = (new.bytes ≡ old.bytes) × (new.offsets ≡ old.offsets) × (new.outcomes ≡ old.outcomes)

-- Memory may be refused for the answers. Then nothing is written.
abbrev pub ConvertsAll : List (Result (List ℕ) CallFault) → ℕ → Lent → Lent → Outcome → Type 0
ConvertsAll given begin old new outcome =
    ((count : ℕ) × Answered given begin old new outcome count) ⊎ ((outcome ≡ no_memory) × Kept old new)

-- A fault of what is asked or lent is told whether there is memory or not. After it nothing is written.
abbrev pub ConvertsMany : Asked → Lent → Lent → Outcome → Type 0
ConvertsMany asked old new outcome =
    MatchResult (manner_for asked.kind asked.options asked.domain
    (has_room (length asked.offsets) asked.begin (room_of old)))
    (λ manner. ConvertsAll (answers manner asked) asked.begin old new outcome)
    (λ fault. (outcome ≡ failed fault) × Kept old new)

-- 3. The same where the domain was read before.

abbrev pub shown_in : Naming → List ℕ → Result (List ℕ) CallFault
shown_in naming bytes = do
  d ← descriptor_in bytes
  Ok (sddl naming d)

abbrev pub read_in : Option SecurityId → List ℕ → Result (List ℕ) CallFault
read_in domain text = do
  named ← read_under (length text) domain
  laid_out (text_in named text)

abbrev pub converted_by : ConversionKind → Naming → List ℕ → Result (List ℕ) CallFault
converted_by kind.ToSddl naming bytes = shown_in naming bytes
converted_by kind.FromSddl naming text = read_in naming.domain text
converted_by kind.Normalize naming bytes = normalized bytes

unfoldable pub converted_in : Manner → List ℕ → Result (List ℕ) CallFault
converted_in manner bytes = converted_by manner.kind manner.naming bytes

abbrev pub answers_by : Manner → List ℕ → List ℕ → List (Result (List ℕ) CallFault)
answers_by manner bytes offsets = map (λ row. and_then row (converted_in manner)) (rows bytes offsets)
