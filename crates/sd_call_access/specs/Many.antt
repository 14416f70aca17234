-- One token and one request, and many descriptors: a list of them, or the rows of a column.
use Rattle.std.specs.Prelude.{◌≡◌, ◌≤◌, ◌<◌, ◌⊎◌, ◌+◌, ◌-◌, ℕ, List, [], ◌∷◌, ◌++◌, length, drop, map, Result, Ok}
use Rattle.std.specs.Prelude.{Err}
use Rattle.sd_text.specs.Chains.{and_then}
use Rattle.sd_token.specs.Token.{Holder}
use Rattle.sd_check.specs.Ask.{Asked}
use Rattle.sd_call.specs.Columns.{numbers, rows}
use Rattle.sd_call.specs.Outcomes.{done, failed, no_memory, too_small}
use Rattle.sd_call.specs.declared.argument.Argument.TheVariants as which
use Rattle.sd_call.specs.declared.outcome.CallFault.{CallFault}
use Rattle.sd_call.specs.declared.outcome.CallFault.TheVariants as call
use Rattle.sd_call.specs.declared.outcome.Outcome.{Outcome}
use Rattle.sd_call_access.specs.Checks.{asker_in, call_bound, checked, told, verdict_on}
use Rattle.sd_call_access.specs.declared.request.Request.{Request}
use Rattle.sd_call_access.specs.declared.verdict.VerdictOutcome.{VerdictOutcome}
use Rattle.sd_call_access.specs.declared.bytes.Bytes.{Bytes}
use Rattle.sd_call_access.specs.declared.many.Descriptors.{Descriptors}
use Rattle.sd_call_access.specs.declared.many.Descriptors.TheVariants.{Rows}
use Rattle.sd_call_access.specs.declared.many.Descriptors.TheVariants as descriptors

-- 1. What is told of each.

-- the bytes of each descriptor, or the fault of the offsets of a row
abbrev pub given : Descriptors → List (Result (List ℕ) CallFault)
given (descriptors.List list) = map (λ descriptor. Ok descriptor.bytes.now) list.now
given (Rows column) = rows column.data.now (numbers column.offsets)

abbrev pub judged_by : Holder → Asked → Result (List ℕ) CallFault → VerdictOutcome
judged_by holder ask row = told (and_then row (λ bytes. verdict_on bytes holder ask))

-- what the check of a descriptor by itself tells
abbrev pub judged : List ℕ → List ℕ → List ℕ → List ℕ → Request → Bytes → VerdictOutcome
judged sids kinds object principal_self request descriptor =
    told (checked descriptor.bytes.now sids kinds object principal_self request)

-- what the check of a row by itself tells
abbrev pub row_judged : List ℕ → List ℕ → List ℕ → List ℕ → Request → Result (List ℕ) CallFault → VerdictOutcome
row_judged sids kinds object principal_self request row =
    told (and_then row (λ bytes. checked bytes sids kinds object principal_self request))

-- how many comparisons a check makes at most, with a token of so many entries, and how many those of all make
abbrev pub row_bound : ℕ → Result (List ℕ) CallFault → ℕ
row_bound entries (Ok bytes) = call_bound bytes entries
row_bound entries (Err fault) = 0

abbrev pub many_bound : ℕ → List (Result (List ℕ) CallFault) → ℕ
many_bound entries [] = 0
many_bound entries (row ∷ others) = row_bound entries row + many_bound entries others

-- 2. What the calls tell.

-- The first verdicts are those of the descriptors, each as if it was checked by itself. After a fault of the token or
-- of what is asked nothing is written.
abbrev pub Judges : {A : Type 0} → List A → (A → VerdictOutcome) → Result (Holder × Asked) CallFault
    → List VerdictOutcome → List VerdictOutcome → Outcome → Type 0
Judges given judge (Ok asker) old new outcome = (outcome ≡ done (length given))
    × (new ≡ map judge given ++ drop (length given) old)
Judges given judge (Err fault) old new outcome = (outcome ≡ failed fault) × (new ≡ old)

-- The same where memory was refused for a token: a fault is told all the same, and nothing is written.
abbrev pub JudgesNone : Result (Holder × Asked) CallFault → List VerdictOutcome → List VerdictOutcome → Outcome → Type 0
JudgesNone (Ok asker) old new outcome = (outcome ≡ no_memory) × (new ≡ old)
JudgesNone (Err fault) old new outcome = (outcome ≡ failed fault) × (new ≡ old)

-- Memory may be refused for verdicts that there is room for, and for nothing else.
pub record AnswersMany (descriptors : List Bytes) (sids kinds object principal_self : List ℕ) (request : Request)
    (old new : List VerdictOutcome) (outcome : Outcome) : Type 0 where
  pub short : length old < length descriptors → (outcome ≡ too_small (length descriptors)) × (new ≡ old)
  pub fits : length descriptors ≤ length old
      → Judges descriptors (judged sids kinds object principal_self request)
      (asker_in sids kinds object principal_self request) old new outcome
      ⊎ JudgesNone (asker_in sids kinds object principal_self request) old new outcome

-- The same for the rows of a column: without an offset there is no column.
pub record AnswersColumn (bytes offsets sids kinds object principal_self : List ℕ) (request : Request)
    (old new : List VerdictOutcome) (outcome : Outcome) : Type 0 where
  pub none : length offsets ≡ 0 → (outcome ≡ failed (call.Argument which.Offsets 0)) × (new ≡ old)
  pub short : length old + 1 < length offsets → (outcome ≡ too_small (length offsets - 1)) × (new ≡ old)
  pub fits : 0 < length offsets → length offsets ≤ length old + 1
      → Judges (rows bytes offsets) (row_judged sids kinds object principal_self request)
      (asker_in sids kinds object principal_self request) old new outcome
      ⊎ JudgesNone (asker_in sids kinds object principal_self request) old new outcome
