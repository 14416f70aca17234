-- Verdicts that are written one after the other.
use Rattle.std.proofs.Common.{◌≡◌, ◌<◌, ◌+◌, ◌-◌, ℕ, suc, zero, List, [], ◌∷◌, ◌++◌, length, take, drop, get_or, map}
use Rattle.std.proofs.Common.{Result, Ok, Err, refl, sym, ◌≤◌, ◌⊎◌, inl, inr, ap, ◌∙◌, MatchResult, arith}
use Rattle.std.proofs.lemmas.List.{get_or-map, length-map}
use Rattle.sd_text.specs.Chains.{and_then}
use Rattle.sd_token.specs.Token.{Holder}
use Rattle.sd_check.specs.Ask.{Asked}
use Rattle.sd_call.specs.Columns.{row_between, rows}
use Rattle.sd_call.specs.Outcomes.{done}
use Rattle.sd_call.specs.declared.outcome.CallFault.{CallFault}
use Rattle.sd_call.specs.declared.outcome.Outcome.{Outcome}
use Rattle.sd_call_columns.proofs.laws.RowLaws.{count_rows, map_same, row_is}
use Rattle.sd_call_access.specs.Checks.{asker_in, verdict_on}
use Rattle.sd_call_access.specs.declared.request.Request.{Request}
use Rattle.sd_call_access.specs.declared.verdict.VerdictOutcome.{VerdictOutcome}
use Rattle.sd_call_access.specs.Many.{Judges, JudgesNone, judged, judged_by, many_bound, row_bound, row_judged}
use Rattle.sd_call_access.specs.declared.bytes.Bytes.{Bytes}

-- one more is checked
bound_more : (entries : ℕ) (rs : List (Result (List ℕ) CallFault)) (i : ℕ) (d : Result (List ℕ) CallFault)
    → i < length rs
    → many_bound entries (take (i + 1) rs) ≡ many_bound entries (take i rs) + row_bound entries (get_or rs i d)
bound_more entries rs i d within =
    let next : i + 1 ≡ suc i = omega arith in
    rw next (by_place rs i within)
  where
    by_place : (es : List (Result (List ℕ) CallFault)) (k : ℕ) → k < length es
        → many_bound entries (take (suc k) es) ≡ many_bound entries (take k es) + row_bound entries (get_or es k d)
    by_place [] k less = absurd (omega (arith, less))
    by_place (e ∷ es) zero less = omega arith
    by_place (e ∷ es) (suc k) less = let rest = by_place es k (omega (arith, less)) in omega (arith, rest)

pub most_more : (entries : ℕ) (rs : List (Result (List ℕ) CallFault)) (i : ℕ) (d : Result (List ℕ) CallFault)
    (old mid new : ℕ) → i < length rs → mid ≤ old + many_bound entries (take i rs)
    → new ≤ mid + row_bound entries (get_or rs i d) → new ≤ old + many_bound entries (take (i + 1) rs)
most_more entries rs i d old mid new within before one =
    let more = bound_more entries rs i d within in
    omega (arith, before, one, more)

-- the verdict on each is that of a check by itself
as_by_itself : (sids kinds object principal_self : List ℕ) (request : Request) (holder : Holder) (ask : Asked)
    → asker_in sids kinds object principal_self request ≡ Ok (holder, ask) → (row : Result (List ℕ) CallFault)
    → judged_by holder ask row ≡ row_judged sids kinds object principal_self request row
as_by_itself sids kinds object principal_self request holder ask e (Ok bytes) = rw e refl
as_by_itself sids kinds object principal_self request holder ask e (Err fault) = refl

pub answered : (rs : List (Result (List ℕ) CallFault)) (sids kinds object principal_self : List ℕ) (request : Request)
    (holder : Holder) (ask : Asked) (old new : List VerdictOutcome) (outcome : Outcome)
    → asker_in sids kinds object principal_self request ≡ Ok (holder, ask) → outcome ≡ done (length rs)
    → new ≡ map (judged_by holder ask) rs ++ drop (length rs) old
    → Judges rs (row_judged sids kinds object principal_self request)
    (asker_in sids kinds object principal_self request) old new outcome
answered rs sids kinds object principal_self request holder ask old new outcome e is written = rw e (
  is,
  written ∙ ap (λ (vs : List VerdictOutcome). vs ++ drop (length rs) old)
      (map_same (judged_by holder ask) (row_judged sids kinds object principal_self request)
      (as_by_itself sids kinds object principal_self request holder ask e) rs),
)

-- A list of descriptors is one of rows without a fault of their offsets.
abbrev pub row_of : Bytes → Result (List ℕ) CallFault
row_of d = Ok d.bytes.now

map_map : (judge : Result (List ℕ) CallFault → VerdictOutcome) (ds : List Bytes)
    → map judge (map row_of ds) ≡ map (λ (d : Bytes). judge (row_of d)) ds
map_map judge [] = refl
map_map judge (d ∷ ds) = ap (λ (vs : List VerdictOutcome). judge (row_of d) ∷ vs) (map_map judge ds)

pub list_judged : (ds : List Bytes) (sids kinds object principal_self : List ℕ) (request : Request)
    (asker : Result (Holder × Asked) CallFault) (old new : List VerdictOutcome) (outcome : Outcome)
    → Judges (map row_of ds) (row_judged sids kinds object principal_self request) asker old new outcome
    → Judges ds (judged sids kinds object principal_self request) asker old new outcome
list_judged ds sids kinds object principal_self request (Ok asker) old new outcome h =
    let n = length-map ds row_of in (
      h.0 ∙ ap done n,
      h.1 ∙ ap (λ (vs : List VerdictOutcome). vs ++ drop (length (map row_of ds)) old)
          (map_map (row_judged sids kinds object principal_self request) ds)
          ∙ ap (λ (k : ℕ). map (judged sids kinds object principal_self request) ds ++ drop k old) n,
    )
list_judged ds sids kinds object principal_self request (Err fault) old new outcome h = h

pub list_count : (ds : List Bytes) → length (map row_of ds) ≡ length ds
list_count ds = length-map ds row_of

-- how many rows a column has
pub row_count_is : (bytes offsets : List ℕ) → length offsets - 1 ≡ length (rows bytes offsets)
row_count_is bytes [] = refl
row_count_is bytes (from ∷ others) = let n = count_rows bytes (from ∷ others) (omega arith) in omega (arith, n)

-- with memory for a token or without
pub either : {A E P Q : Type 0} (token : Result A E) → MatchResult token (λ _. P) (λ _. Q) → P ⊎ Q
either (Ok token) h = inl h
either (Err refused) h = inr h

pub listed : (ds : List Bytes) (sids kinds object principal_self : List ℕ) (request : Request)
    (asker : Result (Holder × Asked) CallFault) (old new : List VerdictOutcome) (outcome : Outcome)
    → Judges (map row_of ds) (row_judged sids kinds object principal_self request) asker old new outcome
    ⊎ JudgesNone asker old new outcome
    → Judges ds (judged sids kinds object principal_self request) asker old new outcome
    ⊎ JudgesNone asker old new outcome
listed ds sids kinds object principal_self request asker old new outcome (inl h) =
    inl (list_judged ds sids kinds object principal_self request asker old new outcome h)
listed ds sids kinds object principal_self request asker old new outcome (inr h) = inr h
