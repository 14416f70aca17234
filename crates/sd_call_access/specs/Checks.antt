-- What the access check gives: a verdict, or why there is none.
use Rattle.std.specs.Prelude.{◌≡◌, ◌⊎◌, ◌+◌, ℕ, List, [], ◌∷◌, Bool, true, false, ◌||◌, if◌then◌else◌, nat_eq, nat_lt}
use Rattle.std.specs.Prelude.{drop, length, Option, Some, None, Result, Ok, Err}
use Rattle.uuid.specs.Parts.{swap_fields}
use Rattle.sd_text.specs.Bits.{has_bit}
use Rattle.sd_text.specs.Chains.{◌>>=◌, fault_as, unless}
use Rattle.sd_token.specs.Limits.{most_entries}
use Rattle.sd_rights.specs.Mapping.{GenericMapping}
use Rattle.sd_sid.specs.Sid.{SecurityId, sid_at}
use Rattle.sd_token.specs.Token.{Entry, Holder}
use Rattle.sd_token.specs.declared.token.EntryKind.{EntryKind}
use Rattle.sd_token.specs.declared.token.EntryKind.TheVariants.{DenyOnly, Enabled}
use Rattle.sd_check.specs.Ask.{Asked, ask_fault, asks_maximum, wanted_of}
use Rattle.sd_check.specs.Need.{check_bound}
use Rattle.sd_check.specs.Verdict.{verdict}
use Rattle.sd_check.specs.declared.verdict.Verdict.{Verdict}
use Rattle.sd_check.specs.declared.verdict.Verdict.TheVariants.{Denied, Granted}
use Rattle.sd_call.specs.Arguments.{descriptor_in, mapping_in, optional_sid_in}
use Rattle.sd_call.specs.Outcomes.{done, failed, no_memory}
use Rattle.sd_call.specs.declared.argument.Argument.TheVariants as which
use Rattle.sd_call.specs.declared.outcome.CallFault.{CallFault}
use Rattle.sd_call.specs.declared.outcome.CallFault.TheVariants.{Ask}
use Rattle.sd_call.specs.declared.outcome.CallFault.TheVariants as call
use Rattle.sd_call_access.specs.declared.asker.AskerInput.{AskerInput}
use Rattle.sd_call_access.specs.declared.request.Request.{Request}
use Rattle.sd_call_access.specs.declared.verdict.VerdictOutcome.{VerdictOutcome}

-- 1. Who asks.

-- the kind of the entry with this number
abbrev pub kind_in : ℕ → ℕ → Result EntryKind CallFault
kind_in n byte =
    if nat_eq byte 0 then Ok Enabled
    else if nat_eq byte 1 then Ok DenyOnly
    else Err (call.Argument which.Entries n)

-- the SID of the entry with this number, and its size
abbrev pub sid_found : ℕ → Option (SecurityId × ℕ) → Result (SecurityId × ℕ) CallFault
sid_found n None = Err (call.Argument which.Sids n)
sid_found n (Some found) = Ok found

-- the entry with this number, whose SID stands at the front of the bytes, and the SID's size
abbrev pub entry_at : ℕ → List ℕ → ℕ → Result (Entry × ℕ) CallFault
entry_at n sids byte = do
  kind ← kind_in n byte
  found ← sid_found n (sid_at sids)
  Ok ((found.0, kind), found.1)

-- From the entry with this number on: the SIDs one after the other with nothing behind the last, and a byte for each.
abbrev pub entries_from : ℕ → List ℕ → List ℕ → Result (List Entry) CallFault
entries_from n sids [] = if nat_eq (length sids) 0 then Ok [] else Err (call.Argument which.Sids n)
entries_from n sids (byte ∷ bytes) = do
  front ← entry_at n sids byte
  others ← entries_from (n + 1) (drop front.1 sids) bytes
  Ok (front.0 ∷ others)

-- its level, if the options have the bit for one
abbrev pub level_of : Request → Option ℕ
level_of request = if has_bit 1 request.asker.options then Some request.asker.level else None

unfoldable pub entries_in : List ℕ → List ℕ → Result (List Entry) CallFault
entries_in sids kinds =
    if nat_lt most_entries (length kinds) then Err (call.Argument which.Entries most_entries)
    else entries_from 0 sids kinds

abbrev pub holder_in : List ℕ → List ℕ → Request → Result Holder CallFault
holder_in sids kinds request = do
  entries ← entries_in sids kinds
  Ok (record { entries = entries; level = level_of request })

-- 2. What is asked.

-- the GUID of an object type, as its bytes stand in an ACE: none where they are empty
unfoldable pub object_in : List ℕ → Result (Option (List ℕ)) CallFault
object_in bytes =
    if nat_eq (length bytes) 0 then Ok None
    else if nat_eq (length bytes) 16 then Ok (Some (swap_fields bytes))
    else Err (call.Argument which.Object 0)

-- The options of who asks have bits for a level and the two privileges, those of a request a bit for the maximum. No
-- other bit means anything.
abbrev pub options_in : Request → Result (Unit {0}) CallFault
options_in request =
    if nat_lt 7 request.asker.options || nat_lt 1 request.options then Err (call.Argument which.Options 0) else Ok tt

abbrev pub is_maximum : Request → Bool
is_maximum request = has_bit 1 request.options

abbrev pub asked : Request → GenericMapping → Option (List ℕ) → Option SecurityId → Asked
asked request mapping object principal_self = record {
  wanted = wanted_of mapping request.wanted;
  maximum = is_maximum request || asks_maximum request.wanted;
  mapping = mapping;
  object = object;
  principal_self = principal_self;
  security = has_bit 2 request.asker.options;
  take_ownership = has_bit 4 request.asker.options;
}

unfoldable pub ask_in : Request → List ℕ → List ℕ → Result Asked CallFault
ask_in request object principal_self = do
  mapping ← mapping_in request.asker.mapping
  options ← options_in request
  type ← object_in object
  principal ← optional_sid_in which.PrincipalSelf principal_self
  fault_as Ask (unless (ask_fault request.wanted (is_maximum request)) (asked request mapping type principal))

-- who asks, and what
unfoldable pub asker_in : List ℕ → List ℕ → List ℕ → List ℕ → Request → Result (Holder × Asked) CallFault
asker_in sids kinds object principal_self request = do
  holder ← holder_in sids kinds request
  ask ← ask_in request object principal_self
  Ok (holder, ask)

-- the same, of the arguments as one value
abbrev pub asker_of : AskerInput → Result (Holder × Asked) CallFault
asker_of input =
    asker_in input.sids.now input.kinds.now input.ask.object.now input.ask.principal_self.now input.ask.request.now

-- 3. The answer.

-- the verdict on the descriptor that some bytes show
unfoldable pub verdict_on : List ℕ → Holder → Asked → Result Verdict CallFault
verdict_on bytes holder ask = do
  d ← descriptor_in bytes
  Ok (verdict d holder ask)

abbrev pub or_none : Result ℕ CallFault → ℕ
or_none (Ok most) = most
or_none (Err fault) = 0

-- how many comparisons a check of some bytes makes at most, with a token of so many entries: as many as the program's
-- check, and none where they show no descriptor
unfoldable pub call_bound : List ℕ → ℕ → ℕ
call_bound bytes entries = or_none (do
  d ← descriptor_in bytes
  Ok (check_bound d entries))

abbrev pub checked : List ℕ → List ℕ → List ℕ → List ℕ → List ℕ → Request → Result Verdict CallFault
checked bytes sids kinds object principal_self request = do
  asker ← asker_in sids kinds object principal_self request
  verdict_on bytes asker.0 asker.1

-- the same, of the arguments as one value
abbrev pub checked_for : List ℕ → AskerInput → Result Verdict CallFault
checked_for bytes input =
    checked bytes input.sids.now input.kinds.now input.ask.object.now input.ask.principal_self.now input.ask.request.now

abbrev pub told : Result Verdict CallFault → VerdictOutcome
told (Ok (Granted mask)) = record { outcome = done 0; mask = mask; granted = true }
told (Ok (Denied mask)) = record { outcome = done 0; mask = mask; granted = false }
told (Err fault) = record { outcome = failed fault; mask = 0; granted = false }

abbrev pub untold : VerdictOutcome
untold = record { outcome = no_memory; mask = 0; granted = false }

-- what is told where memory was refused for a token: a fault all the same
abbrev pub told_without_memory : Result Verdict CallFault → VerdictOutcome
told_without_memory (Ok verdict) = untold
told_without_memory (Err fault) = told (Err fault)

-- Memory may be refused for a verdict, and for nothing else.
abbrev pub Tells : Result Verdict CallFault → VerdictOutcome → Type 0
Tells answer outcome = (outcome ≡ told answer) ⊎ (outcome ≡ told_without_memory answer)

-- a fault alone
abbrev pub fault_of : {A : Type 0} → Result A CallFault → Result (Unit {0}) CallFault
fault_of (Ok value) = Ok tt
fault_of (Err fault) = Err fault
