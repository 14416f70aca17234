-- The text of a field: what is held of it stands for the whole of it.
use Rattle.std.proofs.Common.{◌≡◌, ℕ, ◌+◌, ◌<◌, ◌≤◌, Bool, true, false, ◌||◌, List, [], ◌∷◌, ◌++◌, length, refl, ap}
use Rattle.std.proofs.Common.{◌∙◌, arith, length-append, append_assoc}
use Rattle.std.specs.Prelude.{◌==◌, nat_lt, if◌then◌else◌, Option}
use Rattle.std.specs.List.{list_all, list_any}
use Rattle.std.proofs.lemmas.Bool.Decides.{nat_tests}
use Rattle.std.proofs.Math.Dec.{eqb-suc-zero}
use Rattle.std.proofs.lemmas.Bool.{or_parts, or_right, or_left}
use Rattle.sd_sddl_builder.specs.declared.slot.Slot.{Slot}
use Rattle.sd_sid.specs.Sid.{SecurityId}
use Rattle.sd_sddl_builder.specs.Line.{trim, trim_end}
use Rattle.sd_sddl_fields.specs.FieldTexts.{is_blank}
use Rattle.sd_sddl_builder.specs.FoldedReading.{FieldsRead, take_field}
use Rattle.sd_sddl_builder.specs.Meaning.{is_unreadable}
use Rattle.sd_sddl_fields.specs.Held.{Held, IsHeld, broken_text, held_with, held_blank, outer_with, within_with}
use Rattle.sd_sddl_fields.specs.Held.{held_text}
use Rattle.sd_sddl_reader.specs.Inner.Progress.{unreadable, text_with, inner_with}

-- two texts that read as the same in each field
pub Same : List ℕ → List ℕ → Type 0
Same t u = (domain : Option SecurityId) (b : FieldsRead) (s : Slot) → take_field domain b s t ≡ take_field domain b s u

pub same_reads : (t u : List ℕ) → Same t u → (domain : Option SecurityId) (b : FieldsRead) (s : Slot)
    → take_field domain b s t ≡ take_field domain b s u
unfolding Same
same_reads t u h = h

pub same_refl : (t : List ℕ) → Same t t
unfolding Same
same_refl t domain b s = refl

pub same_eq : (t u : List ℕ) → t ≡ u → Same t u
unfolding Same
same_eq t u e domain b s = ap (λ x. take_field domain b s x) e

pub same_bad : (t : List ℕ) → is_unreadable t ≡ true → Same t unreadable
unfolding Same take_field
same_bad t e domain b s = rw e refl

clean_append : (t u : List ℕ) → list_any is_blank u ≡ true → list_any is_blank (t ++ u) ≡ true
clean_append [] u e = e
clean_append (c ∷ t) u e = or_right (is_blank c) _ (clean_append t u e)

clean_both : (t : List ℕ) (b : ℕ) → list_any is_blank t ≡ false → is_blank b ≡ false
    → list_any is_blank (t ++ b ∷ []) ≡ false
clean_both [] b e f = rw f refl
clean_both (c ∷ t) b e f = let p = or_parts (is_blank c) _ e in rw (p.0) (clean_both t b p.1 f)

trim_end_clean : (t : List ℕ) (b : ℕ) (bs : List ℕ) → list_any is_blank t ≡ false → is_blank b ≡ false
    → trim_end (t ++ b ∷ bs) ≡ t ++ b ∷ trim_end bs
trim_end_clean [] b bs e f = rw f refl
trim_end_clean (c ∷ t) b bs e f = let p = or_parts (is_blank c) _ e in rw (p.0)
    (ap (λ x. c ∷ x) (trim_end_clean t b bs p.1 f))

trim_clean : (t : List ℕ) (b : ℕ) (bs : List ℕ) → list_any is_blank t ≡ false → is_blank b ≡ false
    → trim (t ++ b ∷ bs) ≡ t ++ b ∷ trim_end bs
trim_clean [] b bs e f = rw f refl
trim_clean (c ∷ t) b bs e f = let p = or_parts (is_blank c) _ e in rw (p.0)
    (ap (λ x. c ∷ x) (trim_end_clean t b bs p.1 f))

-- blanks after a clean text
trim_end_gap : (t u : List ℕ) → list_any is_blank t ≡ false → trim_end (t ++ u) ≡ t ++ trim_end u
trim_end_gap [] u e = refl
trim_end_gap (c ∷ t) u e = let p = or_parts (is_blank c) _ e in rw (p.0) (ap (λ x. c ∷ x) (trim_end_gap t u p.1))

trim_gap : (c : ℕ) (t u : List ℕ) → list_any is_blank (c ∷ t) ≡ false → trim ((c ∷ t) ++ u) ≡ (c ∷ t) ++ trim_end u
trim_gap c t u e = let p = or_parts (is_blank c) _ e in rw (p.0) (ap (λ x. c ∷ x) (trim_end_gap t u p.1))

pub append_nothing : (t : List ℕ) → t ++ [] ≡ t
append_nothing [] = refl
append_nothing (c ∷ t) = ap (λ x. c ∷ x) (append_nothing t)

not_long : (n : ℕ) → 183 < n → nat_lt 183 n ≡ true
not_long n h = grind (arith, nat_tests)

pub long_unreadable : (t : List ℕ) (b : ℕ) (u : List ℕ) → length t ≡ 183 → is_unreadable (t ++ b ∷ u) ≡ true
long_unreadable t b u e =
    let l : 183 < length (t ++ b ∷ u) = omega (arith, length-append t (b ∷ u)) in
    or_right (list_any is_blank (t ++ b ∷ u)) _ (not_long _ l)

pub blank_unreadable : (t u : List ℕ) (b : ℕ) → is_blank b ≡ true → is_unreadable (t ++ b ∷ u) ≡ true
blank_unreadable t u b e =
    let h : list_any is_blank (b ∷ u) ≡ true = or_left (is_blank b) (list_any is_blank u) e in
    or_left (list_any is_blank (t ++ b ∷ u)) _ (clean_append t (b ∷ u) h)

-- one byte more, no blank
pub same_text : (h : Held) (b : ℕ) (bs : List ℕ) → IsHeld h → is_blank b ≡ false
    → Same (text_with h (b ∷ bs)) (text_with (held_with h b) bs)
same_text h b bs k e = by_broken h.text h.gap h.broken k.clean
  where
    plain : (t : List ℕ) → list_any is_blank t ≡ false → (full : Bool) → ((length t == 183) ≡ full)
        → Same (trim (t ++ b ∷ bs))
        (text_with (if full then broken_text else record { text = t ++ b ∷ []; gap = false; broken = false }) bs)
    plain t c true f = rw (trim_clean t b bs c e)
        (same_bad _ (long_unreadable t b (trim_end bs) (grind (arith, nat_tests))))
    plain t c false f = same_eq _ _ (rw append_assoc refl)

    by_broken : (t : List ℕ) (g x : Bool) → list_any is_blank t ≡ false
        → Same (text_with (record { text = t; gap = g; broken = x }) (b ∷ bs))
        (text_with (held_with (record { text = t; gap = g; broken = x }) b) bs)
    by_broken t g true c = same_refl _
    by_broken t true false c = rw e (same_refl _)
    by_broken t false false c = plain t c (length t == 183) refl

-- a blank more, at an end or not
pub same_blank : (h : Held) (b : ℕ) (bs : List ℕ) → IsHeld h → is_blank b ≡ true
    → Same (text_with h (b ∷ bs)) (text_with (held_blank h) bs)
same_blank h b bs k e = by_broken h.text h.gap h.broken k.clean
  where
    ended : (c : ℕ) (t : List ℕ) → list_any is_blank (c ∷ t) ≡ false → (all : Bool) → (list_all is_blank bs ≡ all)
        → Same ((c ∷ t) ++ (if all then [] else b ∷ trim_end bs)) (if all then c ∷ t else unreadable)
    ended c t k true f = same_eq _ _ (append_nothing (c ∷ t))
    ended c t k false f = same_bad _ (blank_unreadable (c ∷ t) (trim_end bs) b e)

    first : (t : List ℕ) → list_any is_blank t ≡ false
        → Same (trim (t ++ b ∷ bs)) (text_with (held_blank (record { text = t; gap = false; broken = false })) bs)
    first [] c = same_eq _ _ (rw e refl)
    first (x ∷ t) c = rw (trim_gap x t (b ∷ bs) c, e, eqb-suc-zero (length t)) (ended x t c (list_all is_blank bs) refl)

    by_broken : (t : List ℕ) (g x : Bool) → list_any is_blank t ≡ false
        → Same (text_with (record { text = t; gap = g; broken = x }) (b ∷ bs))
        (text_with (held_blank (record { text = t; gap = g; broken = x })) bs)
    by_broken t g true c = same_refl _
    by_broken [] true false c = rw e (same_refl _)
    by_broken (y ∷ t) true false c = rw (e, eqb-suc-zero (length t)) (same_refl _)
    by_broken t false false c = first t c

-- inside parentheses
pub same_inner : (h : Held) (b : ℕ) (bs : List ℕ) → IsHeld h → h.gap ≡ false → is_blank b ≡ false
    → Same (inner_with h (b ∷ bs)) (inner_with (held_with h b) bs)
same_inner h b bs k n e = by_broken h.text h.gap h.broken n
  where
    plain : (t : List ℕ) → (full : Bool) → ((length t == 183) ≡ full)
        → Same (t ++ b ∷ bs)
        (inner_with (if full then broken_text else record { text = t ++ b ∷ []; gap = false; broken = false }) bs)
    plain t true f = same_bad _ (long_unreadable t b bs (grind (arith, nat_tests)))
    plain t false f = same_eq _ _ (rw append_assoc refl)

    by_broken : (t : List ℕ) (g x : Bool) → g ≡ false
        → Same (inner_with (record { text = t; gap = g; broken = x }) (b ∷ bs))
        (inner_with (held_with (record { text = t; gap = g; broken = x }) b) bs)
    by_broken t g true n = same_refl _
    by_broken t true false n = absurd cc
    by_broken t false false n = plain t (length t == 183) refl

pub same_spoilt : (h : Held) (b : ℕ) (bs : List ℕ) → is_blank b ≡ true → Same (inner_with h (b ∷ bs)) unreadable
same_spoilt h b bs e = by_broken h.text h.gap h.broken
  where
    by_broken : (t : List ℕ) (g x : Bool)
        → Same (inner_with (record { text = t; gap = g; broken = x }) (b ∷ bs)) unreadable
    by_broken t g true = same_refl _
    by_broken t g false = same_bad _ (blank_unreadable t bs b e)

-- what is held after a byte where blanks at the ends do not count, and what is held inside parentheses
pub same_outer : (h : Held) (b : ℕ) (bs : List ℕ) → IsHeld h
    → Same (text_with h (b ∷ bs)) (text_with (outer_with h b) bs)
same_outer h b bs k = by_blank (is_blank b) refl
  where
    by_blank : (x : Bool) → is_blank b ≡ x
        → Same (text_with h (b ∷ bs)) (text_with (if x then held_blank h else held_with h b) bs)
    by_blank true e = same_blank h b bs k e
    by_blank false e = same_text h b bs k e

pub same_within : (h : Held) (b : ℕ) (bs : List ℕ) → IsHeld h → h.gap ≡ false
    → Same (inner_with h (b ∷ bs)) (inner_with (within_with h b) bs)
same_within h b bs k n = by_blank (is_blank b) refl
  where
    by_blank : (x : Bool) → is_blank b ≡ x
        → Same (inner_with h (b ∷ bs)) (inner_with (if x then broken_text else held_with h b) bs)
    by_blank true e = same_spoilt h b bs e
    by_blank false e = same_inner h b bs k n e

trim_all : (t : List ℕ) → list_any is_blank t ≡ false → trim (t ++ []) ≡ t
trim_all [] e = refl
trim_all (c ∷ t) e = trim_gap c t [] e ∙ append_nothing (c ∷ t)

-- what is held of a field at its end is its text
pub text_ended : (h : Held) → IsHeld h → text_with h [] ≡ held_text h
text_ended h k = by_broken h.text h.gap h.broken k.clean
  where
    by_broken : (t : List ℕ) (g x : Bool) → list_any is_blank t ≡ false
        → text_with (record { text = t; gap = g; broken = x }) [] ≡ held_text (record { text = t; gap = g; broken = x })
    by_broken t g true c = refl
    by_broken t true false c = refl
    by_broken t false false c = trim_all t c

pub inner_ended : (h : Held) → inner_with h [] ≡ held_text h
inner_ended h = by_broken h.text h.gap h.broken
  where
    by_broken : (t : List ℕ) (g x : Bool)
        → inner_with (record { text = t; gap = g; broken = x }) [] ≡ held_text
        (record { text = t; gap = g; broken = x })
    by_broken t g true = refl
    by_broken t g false = append_nothing t

fits_more : (t : List ℕ) (b : ℕ) → length t ≤ 183 → (length t == 183) ≡ false → length (t ++ b ∷ []) ≤ 183
fits_more t b le ne = let l : length (t ++ b ∷ []) ≡ length t + 1 = length-append t (b ∷ []) in grind (arith, nat_tests)

-- what is held stays clean and fits
pub with_held : (h : Held) (b : ℕ) → IsHeld h → is_blank b ≡ false → IsHeld (held_with h b)
with_held h b k e = by_test (h.broken || (h.gap || length h.text == 183)) refl
  where
    by_test : (x : Bool) → (h.broken || (h.gap || length h.text == 183)) ≡ x
        → IsHeld (if x then broken_text else record { text = h.text ++ b ∷ []; gap = false; broken = false })
    by_test true f = record { clean = refl; fits = omega arith }
    by_test false f =
        let ne : (length h.text == 183) ≡ false = (or_parts h.gap _ (or_parts h.broken _ f).1).1 in
        record { clean = clean_both h.text b k.clean e; fits = fits_more h.text b k.fits ne }

pub within_held : (h : Held) (b : ℕ) → IsHeld h → IsHeld (within_with h b)
within_held h b k = by_blank (is_blank b) refl
  where
    by_blank : (x : Bool) → is_blank b ≡ x → IsHeld (if x then broken_text else held_with h b)
    by_blank true e = record { clean = refl; fits = omega arith }
    by_blank false e = with_held h b k e

pub within_gap : (h : Held) (b : ℕ) → (within_with h b).gap ≡ false
within_gap h b = by_blank (is_blank b) (h.broken || (h.gap || length h.text == 183))
  where
    by_blank : (x y : Bool)
        → (if x then broken_text else (if
        y then broken_text else record { text = h.text ++ b ∷ []; gap = false; broken = false })).gap ≡ false
    by_blank true y = refl
    by_blank false true = refl
    by_blank false false = refl
