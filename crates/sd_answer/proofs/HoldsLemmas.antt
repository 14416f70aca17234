-- What the line in hand has after more bytes.
use Rattle.std.proofs.Common.{◌≡◌, ℕ, List, [], ◌∷◌, ◌++◌, true, false, ◌==◌}
use Rattle.std.proofs.Common.{refl, sym, append-nil, append_assoc, rules}
use Rattle.sd_answer.specs.Inner.Reading.{HasRead, form_of}
use Rattle.sd_answer.specs.LineEnd.{without_cr}
use Rattle.sd_answer.specs.LineInHand.{HoldsText, Holds}
use Rattle.sd_answer.specs.declared.job.Job.{Job}
use Rattle.sd_answer.specs.declared.line.Line.{Line}
use Rattle.sd_answer.proofs.laws.LineEnds.{with-cr, without-cr}

-- nothing came yet
pub Holds-nil : (job : Job) (line : Line) → form_of line.reader ≡ job.line_form → line.count ≡ 0 → line.cr ≡ false
    → HasRead line.reader line.read line.held job.domain [] → Holds job line []
unfolding without_cr
Holds-nil job line form none no_cr read = record {
  text = record { form = form; counted = none; whole = λ _. read };
  waits = rw no_cr refl;
}

eq_false : (b : ℕ) → (b ≡ 13 → ⊥) → (b == 13) ≡ false
eq_false b h = search rules

-- bytes by the last of them: a CR waits
pub Holds-last_cr : (job : Job) (line : Line) (raw bytes front : List ℕ) (last : ℕ) → bytes ≡ front ++ last ∷ []
    → last ≡ 13 → line.cr ≡ true → HoldsText job line (raw ++ front) → Holds job line (raw ++ bytes)
Holds-last_cr job line raw bytes front last e is cr h =
    let same : raw ++ bytes ≡ (raw ++ front) ++ 13 ∷ [] = rw (e, is) (sym (append_assoc raw front (13 ∷ []))) in
    let kept : without_cr ((raw ++ front) ++ 13 ∷ []) ≡ raw ++ front = with-cr (raw ++ front) in
    rw same (record { text = rw kept h; waits = rw (kept, cr) refl })

-- any other byte is one of the line
pub Holds-last : (job : Job) (line : Line) (raw bytes front : List ℕ) (last : ℕ) → bytes ≡ front ++ last ∷ []
    → (last ≡ 13 → ⊥) → line.cr ≡ false → HoldsText job line (raw ++ bytes) → Holds job line (raw ++ bytes)
Holds-last job line raw bytes front last e ne no_cr h =
    let same : raw ++ bytes ≡ (raw ++ front) ++ last ∷ [] = rw e (sym (append_assoc raw front (last ∷ []))) in
    let kept : without_cr (raw ++ bytes) ≡ raw ++ bytes =
    rw same (without-cr (raw ++ front) last (eq_false last ne)) in
    record { text = rw kept h; waits = rw (kept, no_cr) (sym (append-nil _)) }
