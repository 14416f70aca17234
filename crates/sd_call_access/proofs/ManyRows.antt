-- Verdicts on many descriptors as a caller sees them, by hand from include/sdtool.h.
use Rattle.std.proofs.Common.{◌≡◌, ◌⊎◌, inl, ℕ, List, [], ◌∷◌, length, true, false, Ok, Err, refl, arith}
use Rattle.sd_token.specs.Token.{Holder}
use Rattle.sd_check.specs.Ask.{Asked}
use Rattle.sd_check.specs.declared.verdict.Verdict.TheVariants.{Denied, Granted}
use Rattle.sd_call.specs.Arguments.{descriptor_in}
use Rattle.sd_call.specs.Outcomes.{done, too_small}
use Rattle.sd_call.specs.declared.argument.Argument.TheVariants as which
use Rattle.sd_call.specs.declared.outcome.CallFault.TheVariants as call
use Rattle.sd_call.specs.declared.outcome.Outcome.{Outcome}
use Rattle.sd_call_access.specs.Checks.{asker_in, verdict_on}
use Rattle.sd_call_access.specs.declared.request.Request.{Request}
use Rattle.sd_call_access.specs.declared.verdict.VerdictOutcome.{VerdictOutcome}
use Rattle.sd_call_access.specs.Many.{AnswersMany, Judges, JudgesNone, judged, judged_by}
use Rattle.sd_call_access.specs.declared.bytes.Bytes.{Bytes}

-- struct sdtool_verdict
abbrev granted : VerdictOutcome
granted = record { outcome = done 0; mask = 3; granted = true }

abbrev denied : VerdictOutcome
denied = record { outcome = done 0; mask = 3; granted = false }

grants : (holder : Holder) (ask : Asked) (d : Bytes) → verdict_on d.bytes.now holder ask ≡ Ok (Granted 3)
    → judged_by holder ask (Ok d.bytes.now) ≡ granted
grants holder ask d h = rw h refl

denies : (holder : Holder) (ask : Asked) (d : Bytes) → verdict_on d.bytes.now holder ask ≡ Ok (Denied 3)
    → judged_by holder ask (Ok d.bytes.now) ≡ denied
denies holder ask d h = rw h refl

-- A fault of one check is told in its own verdict, with each of its fields. This one has an argument and an entry.
keeps_each_field_of_a_fault : (holder : Holder) (ask : Asked) (d : Bytes)
    → verdict_on d.bytes.now holder ask ≡ Err (call.Argument which.Sid 7)
    → judged_by holder ask (Ok d.bytes.now) ≡ record {
      outcome = record { fault = 70; part = 0; other_part = 0; argument = 12; entry = 7; length = 0 };
      mask = 0;
      granted = false;
    }
keeps_each_field_of_a_fault holder ask d h = rw h refl

-- SDTOOL_MOST_BYTES: one byte more is too long
too_many_bytes : (holder : Holder) (ask : Asked) (d : Bytes) → length d.bytes.now ≡ 131227
    → judged_by holder ask (Ok d.bytes.now)
    ≡ record {
      outcome = record { fault = 1; part = 0; other_part = 0; argument = 0; entry = 0; length = 0 };
      mask = 0;
      granted = false;
    }
unfolding verdict_on descriptor_in
too_many_bytes holder ask d h = rw h refl

grants_by_itself : (sids kinds object self : List ℕ) (request : Request) (holder : Holder) (ask : Asked) (d : Bytes)
    → asker_in sids kinds object self request ≡ Ok (holder, ask) → verdict_on d.bytes.now holder ask ≡ Ok (Granted 3)
    → judged sids kinds object self request d ≡ granted
grants_by_itself sids kinds object self request holder ask d asks h = rw asks (rw h refl)

-- two descriptors, and room for three verdicts: the third one stays
two_of_three : (judge : Bytes → VerdictOutcome) (first second : Bytes) (asker : Holder × Asked)
    → Judges (first ∷ second ∷ []) judge (Ok asker) (denied ∷ denied ∷ denied ∷ [])
    (judge first ∷ judge second ∷ denied ∷ []) (done 2)
two_of_three judge first second asker = (refl, refl)

-- After a fault no verdict is written, with memory or without.
wrong_entry : (judge : Bytes → VerdictOutcome) (d : Bytes)
    → Judges (d ∷ []) judge (Err (call.Argument which.Entries 7)) (denied ∷ []) (denied ∷ [])
    (record { fault = 70; part = 0; other_part = 0; argument = 3; entry = 7; length = 0 })
wrong_entry judge d = (refl, refl)

wrong_entry_without_memory : JudgesNone (Err (call.Argument which.Entries 7)) (denied ∷ []) (denied ∷ [])
    (record { fault = 70; part = 0; other_part = 0; argument = 3; entry = 7; length = 0 })
wrong_entry_without_memory = (refl, refl)

refused_malloc : (asker : Holder × Asked) → JudgesNone (Ok asker) (denied ∷ []) (denied ∷ [])
    (record { fault = 72; part = 0; other_part = 0; argument = 0; entry = 0; length = 0 })
refused_malloc asker = (refl, refl)

-- Room for one verdict is enough for one descriptor, and too little for two.
one_verdict : (d : Bytes) (sids kinds object self : List ℕ) (request : Request) (asker : Holder × Asked)
    → asker_in sids kinds object self request ≡ Ok asker
    → AnswersMany (d ∷ []) sids kinds object self request (denied ∷ [])
    (judged sids kinds object self request d ∷ []) (done 1)
one_verdict d sids kinds object self request asker h = record {
  short = λ less. absurd (omega arith);
  fits = λ _. inl (rw h (refl, rw h refl));
}

room_for_one : (d other : Bytes) (sids kinds object self : List ℕ) (request : Request) (new : List VerdictOutcome)
    (outcome : Outcome) → AnswersMany (d ∷ other ∷ []) sids kinds object self request (denied ∷ []) new outcome
    → (outcome ≡ too_small 2) × (new ≡ denied ∷ [])
room_for_one d other sids kinds object self request new outcome h = h.short (omega arith)

judged_where_it_fits : (d : Bytes) (sids kinds object self : List ℕ) (request : Request) (new : List VerdictOutcome)
    (outcome : Outcome) → AnswersMany (d ∷ []) sids kinds object self request (denied ∷ []) new outcome
    → Judges (d ∷ []) (judged sids kinds object self request) (asker_in sids kinds object self request) (denied ∷ [])
    new
    outcome ⊎ JudgesNone (asker_in sids kinds object self request) (denied ∷ []) new outcome
judged_where_it_fits d sids kinds object self request new outcome h = h.fits (omega arith)
