-- The text of a field after a run of bytes.
use Rattle.std.proofs.Common.{◌≡◌, ℕ, ◌+◌, ◌<◌, ◌≤◌, Bool, true, false, ◌||◌, List, [], ◌∷◌, ◌++◌, length, refl, ap}
use Rattle.std.proofs.Common.{◌∙◌, arith, append-nil, append_assoc, length-append}
use Rattle.std.specs.Prelude.{◌==◌, if◌then◌else◌}
use Rattle.std.proofs.lemmas.Bool.Decides.{nat_tests}
use Rattle.sd_sddl_fields.specs.Held.{Held, broken_text, held_run}

run-broken : (bs : List ℕ) → held_run broken_text bs ≡ broken_text
run-broken [] = refl
run-broken (b ∷ bs) = run-broken bs

-- a text that can no longer read stays so, and so does one after which blanks stood
pub run-spoilt : (h : Held) (bs : List ℕ) → (h.broken || h.gap) ≡ true → 0 < length bs → held_run h bs ≡ broken_text
run-spoilt h [] e some = absurd (omega arith)
run-spoilt h (b ∷ bs) e some = ap (λ x. held_run x bs) (by_broken h.broken h.gap e) ∙ run-broken bs
  where
    by_broken : (x y : Bool) → (x || y) ≡ true
        → (if x || (y || length h.text == 183) then broken_text else record {
          text = h.text ++ b ∷ [];
          gap =
              false;
          broken = false;
        }) ≡ broken_text
    by_broken true y f = refl
    by_broken false true f = refl
    by_broken false false f = absurd cc

pub run-fits : (t bs : List ℕ) → length t + length bs ≤ 183
    → held_run (record { text = t; gap = false; broken = false }) bs
    ≡ record { text = t ++ bs; gap = false; broken = false }
run-fits t [] fits = rw (append-nil t) refl
run-fits t (b ∷ bs) fits =
    let room : (length t == 183) ≡ false = grind (arith, nat_tests) in
    rw room (run-fits (t ++ b ∷ []) bs (omega (arith, length-append t (b ∷ []))) ∙ rw (append_assoc t (b ∷ []) bs) refl)

pub run-long : (t bs : List ℕ) → length t ≤ 183 → 183 < length t + length bs
    → held_run (record { text = t; gap = false; broken = false }) bs ≡ broken_text
run-long t [] fits long = absurd (omega arith)
run-long t (b ∷ bs) fits long =
    by_room (length t == 183) refl
    (λ room. run-long (t ++ b ∷ []) bs (omega (arith, length-append t (b ∷ [])))
    (omega (arith, length-append t (b ∷ []))))
  where
    by_room : (full : Bool) → (length t == 183) ≡ full
        → (length t < 183 → held_run (record { text = t ++ b ∷ []; gap = false; broken = false }) bs ≡ broken_text)
        → held_run (if full then broken_text else record { text = t ++ b ∷ []; gap = false; broken = false }) bs
        ≡ broken_text
    by_room true e more = run-broken bs
    by_room false e more = more (grind (arith, nat_tests))

whole : (h : Held) → h.broken ≡ false → h.gap ≡ false → h ≡ record { text = h.text; gap = false; broken = false }
whole h eb eg = ap (λ g. record { text = h.text; gap = g; broken = h.broken }) eg
    ∙ ap (λ x. record { text = h.text; gap = false; broken = x }) eb

pub run-more : (h : Held) (bs : List ℕ) → h.broken ≡ false → h.gap ≡ false → length h.text + length bs ≤ 183
    → held_run h bs ≡ record { text = h.text ++ bs; gap = false; broken = false }
run-more h bs eb eg fits = ap (λ x. held_run x bs) (whole h eb eg) ∙ run-fits h.text bs fits

pub run-too-long : (h : Held) (bs : List ℕ) → h.broken ≡ false → h.gap ≡ false → length h.text ≤ 183
    → 183 < length h.text + length bs → held_run h bs ≡ broken_text
run-too-long h bs eb eg fits long = ap (λ x. held_run x bs) (whole h eb eg) ∙ run-long h.text bs fits long
