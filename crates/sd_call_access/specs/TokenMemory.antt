-- A token in memory of the caller: numbers of 32 bits, of which the caller knows only how many they are.
use Rattle.std.specs.Prelude.{◌≡◌, ℕ, ◌+◌, ◌*◌, Bool, ◌&&◌, ◌==◌, if◌then◌else◌, List, length, take, drop}
use Rattle.std.specs.Prelude.{nat_le, nat_lt, slice_index, slice_range, MatchResult, Option, Result, Ok, Err}
use Rattle.sd_text.specs.Chains.{◌>>=◌}
use Rattle.sd_token.specs.Limits.{most_entries}
use Rattle.sd_token.specs.Token.{Entry, Holder}
use Rattle.sd_token.specs.TokenWords.{entries_of, entry_words}
use Rattle.sd_check.specs.declared.verdict.Verdict.{Verdict}
use Rattle.sd_call.specs.Outcomes.{done, failed, too_small}
use Rattle.sd_call.specs.declared.argument.Argument.TheVariants as which
use Rattle.sd_call.specs.declared.outcome.CallFault.{CallFault}
use Rattle.sd_call.specs.declared.outcome.CallFault.TheVariants as call
use Rattle.sd_call.specs.declared.outcome.Outcome.{Outcome}
use Rattle.sd_call_access.specs.Checks.{ask_in, entries_from, level_of, verdict_on}
use Rattle.sd_call_access.specs.declared.request.Request.{Request}

-- A mark, the number of SIDs, a key for each, and then 19 numbers for each.
abbrev pub mark : ℕ
mark = 0x6B6F_7473

-- how many numbers a token of so many SIDs has
abbrev pub token_size : ℕ → ℕ
token_size count = 2 + (1 + entry_words) * count

abbrev pub holds_token : List ℕ → Bool
holds_token memory = slice_index memory 0 == mark && (nat_le (slice_index memory 1) most_entries
    && nat_le (token_size (slice_index memory 1)) (length memory))

-- what is behind the number of SIDs, as far as the token goes
abbrev pub token_part : List ℕ → List ℕ
token_part memory = slice_range memory 2 (token_size (slice_index memory 1))

-- the entries of a token whose keys and numbers are these, of so many SIDs
abbrev pub entries_at : ℕ → List ℕ → List Entry
entries_at count numbers = entries_of (take count numbers) (drop count numbers)

-- the entries of the token that memory holds
unfoldable pub entries_held : List ℕ → Result (List Entry) CallFault
entries_held memory =
    if holds_token memory then Ok (entries_at (slice_index memory 1) (token_part memory))
    else Err (call.Argument which.Token 0)

-- who asks, with a level
abbrev pub holder_held : List ℕ → Option ℕ → Result Holder CallFault
holder_held memory level = do
  entries ← entries_held memory
  Ok (record { entries = entries; level = level })

-- 1. Reading a token.

abbrev pub read_or_failed : Result (List Entry) CallFault → Result (List Entry) Outcome
read_or_failed (Ok entries) = Ok entries
read_or_failed (Err fault) = Err (failed fault)

-- the entries that memory of this size gets, or what is told
unfoldable pub reading : List ℕ → List ℕ → ℕ → Result (List Entry) Outcome
reading sids kinds room =
    if nat_lt most_entries (length kinds) then Err (failed (call.Argument which.Entries most_entries))
    else if nat_lt room (token_size (length kinds)) then Err (too_small (token_size (length kinds)))
    else read_or_failed (entries_from 0 sids kinds)

-- Without a token to tell, the memory holds none, not even an earlier one.
abbrev pub ReadsToken : List ℕ → List ℕ → List ℕ → List ℕ → Outcome → Type 0
ReadsToken sids kinds old new outcome =
    MatchResult (reading sids kinds (length old))
    (λ entries. (outcome ≡ done (token_size (length kinds))) × (entries_held new ≡ Ok entries))
    (λ told. (outcome ≡ told) × (entries_held new ≡ Err (call.Argument which.Token 0)))

-- 2. A check with the token.

-- for a token that was read before
abbrev pub checked_by : List ℕ → Holder → List ℕ → List ℕ → Request → Result Verdict CallFault
checked_by bytes holder object principal_self request = do
  ask ← ask_in request object principal_self
  verdict_on bytes holder ask

-- for the token that memory holds
abbrev pub checked_held : List ℕ → List ℕ → List ℕ → List ℕ → Request → Result Verdict CallFault
checked_held bytes memory object principal_self request = do
  holder ← holder_held memory (level_of request)
  checked_by bytes holder object principal_self request
