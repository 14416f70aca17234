-- Why each right is granted or denied, as the library tells it.
use Rattle.std.specs.Prelude.{◌≡◌, ℕ, List, map, replicate, MatchResult, Result, Ok, Err, unwrap_or}
use Rattle.sd_text.specs.Chains.{◌>>=◌}
use Rattle.sd_token.specs.Token.{Holder}
use Rattle.sd_check.specs.Ask.{Asked}
use Rattle.sd_check.specs.Reasons.{reasons}
use Rattle.sd_check.specs.declared.reason.Reason.{Reason}
use Rattle.sd_check.specs.declared.reason.Reason.TheVariants as reason
use Rattle.sd_call.specs.Arguments.{descriptor_in}
use Rattle.sd_call.specs.Outcomes.{done, failed, no_memory}
use Rattle.sd_call.specs.declared.outcome.CallFault.{CallFault}
use Rattle.sd_call.specs.declared.outcome.Outcome.{Outcome}
use Rattle.sd_call_access.specs.Checks.{ask_in, level_of}
use Rattle.sd_call_access.specs.TokenMemory.{holder_held}
use Rattle.sd_call_access.specs.declared.request.Asker.{Asker}
use Rattle.sd_call_access.specs.declared.reason.ReasonTold.{ReasonTold}
use Rattle.sd_call_access.specs.declared.request.Request.{Request}

-- 1. Who asks. Nothing is wanted but all that is granted.

abbrev pub request_of : Asker → Request
request_of asker = record { asker = asker; wanted = 0; options = 1 }

-- 2. The reasons on the descriptor that some bytes show.

unfoldable pub reasons_on : List ℕ → Holder → Asked → Result (List Reason) CallFault
reasons_on bytes holder ask = do
  d ← descriptor_in bytes
  Ok (reasons d holder ask)

abbrev pub explained : List ℕ → Result (Holder × Asked) CallFault → Result (List Reason) CallFault
explained bytes asker = do
  found ← asker
  reasons_on bytes found.0 found.1

-- the same for a token that was read before
abbrev pub explained_by : List ℕ → Holder → List ℕ → List ℕ → Request → Result (List Reason) CallFault
explained_by bytes holder object principal_self request = do
  ask ← ask_in request object principal_self
  reasons_on bytes holder ask

-- the same for the token that memory holds
abbrev pub explained_held : List ℕ → List ℕ → List ℕ → List ℕ → Request → Result (List Reason) CallFault
explained_held bytes memory object principal_self request = do
  holder ← holder_held memory (level_of request)
  explained_by bytes holder object principal_self request

-- 3. What is told.

abbrev pub kind_of : Reason → ℕ
kind_of reason.Nothing = 0
kind_of (reason.Label place) = 1
kind_of reason.NoDacl = 2
kind_of reason.Owner = 3
kind_of reason.Privilege = 4
kind_of (reason.Granted place) = 5
kind_of (reason.Denied place) = 6

-- no ACL has so many ACEs
abbrev pub no_place : ℕ
no_place = 0xffff

abbrev pub place_of : Reason → ℕ
place_of (reason.Label place) = unwrap_or place no_place
place_of (reason.Granted place) = place
place_of (reason.Denied place) = place
place_of other = no_place

abbrev pub reason_told : Reason → ReasonTold
reason_told why = record { kind = kind_of why; place = place_of why }

-- 25 times nothing
abbrev pub no_reasons : List ReasonTold
no_reasons = replicate 25 (reason_told reason.Nothing)

abbrev pub TellsReasons : Result (List Reason) CallFault → List ReasonTold → Outcome → Type 0
TellsReasons answer told outcome =
    MatchResult answer (λ reasons. (outcome ≡ done 25) × (told ≡ map reason_told reasons))
    (λ fault. (outcome ≡ failed fault) × (told ≡ no_reasons))

abbrev pub outcome_without : {A : Type 0} → Result A CallFault → Outcome
outcome_without (Ok value) = no_memory
outcome_without (Err fault) = failed fault

-- what is told where memory was refused for a token: a fault all the same
abbrev pub TellsNoReasons : Result (List Reason) CallFault → List ReasonTold → Outcome → Type 0
TellsNoReasons answer told outcome =
    (outcome ≡ outcome_without answer) × (told ≡ no_reasons)
