-- Where a text is cut: at a head, a parenthesis, a semicolon.
use Rattle.std.proofs.Common.{◌≡◌, ℕ, suc, ◌+◌, Bool, true, false, ◌&&◌, List, [], ◌∷◌, length, take}
use Rattle.std.proofs.Common.{drop, inl, inr, refl, ap, sym, ◌∙◌, arith}
use Rattle.std.specs.Prelude.{◌==◌, if◌then◌else◌, not, Option, Some, None, is_some}
use Rattle.std.proofs.Math.Bool.{and_assoc, and-true}
use Rattle.std.proofs.lemmas.Bool.{and_parts}
use Rattle.std.proofs.lemmas.Bool.Decides.{eqb_tells}
use Rattle.sd_text.specs.Cuts.{all_cuts}
use Rattle.sd_sddl_builder.specs.Line.{Piece, ace, begins_with_colon, byte, cut_at_semicolons, fits_in, front}
use Rattle.sd_sddl_builder.specs.Line.{has_aces, head_at, head_of, is_paired, open_after, pieces_from, sections}
use Rattle.sd_sddl_builder.specs.declared.slot.Head.{Head}
use Rattle.sd_sddl_builder.proofs.laws.Heads.{head-paired, headed}
use Rattle.sd_fault_places.specs.Fields.{PlacedAce, aces_from, pieces_size}
use Rattle.sd_fault_places.specs.Inner.Cutting.{ace_at, before_byte, before_head, first_ace, front_head, head_in}
use Rattle.sd_fault_places.specs.Inner.Cutting.{parts_at, starts_with_colon}

-- 1. Heads.

colon-begins : (bs : List ℕ) → begins_with_colon (pieces_from false bs).after ≡ starts_with_colon bs
colon-begins [] = refl
colon-begins (b ∷ bs) = elim (eqb_tells b 40) [ inl h ↦ rw (h.1) refl | inr h ↦ rw (h.0) refl ]

head-front : (b : ℕ) (bs : List ℕ) → head_at (byte b) (pieces_from false bs).after ≡ head_in b bs
head-front b bs = rw (colon-begins bs) refl

-- the pieces before the first head are those of the text before it, and the others those from there on
abbrev CutsAt : Bool → List ℕ → ℕ → Type 0
CutsAt inside t k =
    ((pieces_from inside t).held ≡ (pieces_from inside (take k t)).held)
    × ((sections (pieces_from inside t).after).before ≡ (pieces_from inside (take k t)).after)
    × ((sections (pieces_from inside t).after).parts ≡ parts_at (drop k t))

cut-inside : (b : ℕ) (bs : List ℕ) → ((x : Bool) → CutsAt x bs (before_head x bs))
    → CutsAt true (b ∷ bs) (suc (before_head (open_after true b) bs))
cut-inside b bs more =
    elim (eqb_tells b 41) [
      | inl h ↦ rw (h.1) (refl, (more false).1, (more false).2)
      | inr h ↦ rw (h.0) (ap (λ (t : List ℕ). b ∷ t) (more true).0, (more true).1, (more true).2)
    ]

cut-outside : (b : ℕ) (bs : List ℕ) → ((x : Bool) → CutsAt x bs (before_head x bs)) → head_in b bs ≡ None
    → CutsAt false (b ∷ bs) (suc (before_head (open_after false b) bs))
cut-outside b bs more none =
    elim (eqb_tells b 40) [
      | inl h ↦ rw (h.1) (refl, rw (← (more true).0, (more true).1) refl, (more true).2)
      | inr h ↦ rw (h.0, head-front b bs, none)
          (refl, ap (λ (ps : List Piece). byte b ∷ ps) (more false).1, (more false).2)
    ]

cut-head : (b : ℕ) (bs : List ℕ) (p : Head) → head_in b bs ≡ Some p → CutsAt false (b ∷ bs) 0
cut-head b [] p e = absurd cc
cut-head b (c ∷ u) p e =
    elim (eqb_tells c 58) [
      | inl h ↦ rw (h.1) (with-colon (rw (h.1) at e))
      | inr h ↦ absurd (let no : head_in b (c ∷ u) ≡ None = rw (h.0) refl in cc)
    ]
  where
    with-colon : head_of b ≡ Some p → CutsAt false (b ∷ 58 ∷ u) 0
    with-colon f =
        let n = no_open in
        (rw n refl, ap (λ s. s.before) (headed b p u f n), rw f (ap (λ s. s.parts) (headed b p u f n)))
      where
        no_open : (b == 40) ≡ false
        no_open = elim (eqb_tells b 40)
            [ inl h ↦ absurd (let no : head_of b ≡ None = rw (h.1) refl in cc) | inr h ↦ h.0 ]

pub cut-at : (t : List ℕ) (inside : Bool) → CutsAt inside t (before_head inside t)
cut-at [] true = (refl, refl, refl)
cut-at [] false = (refl, refl, refl)
cut-at (b ∷ bs) true = cut-inside b bs (cut-at bs)
cut-at (b ∷ bs) false = by_head (cut-at bs) (head_in b bs) refl
  where
    by_head : ((x : Bool) → CutsAt x bs (before_head x bs)) → (x : Option Head) → head_in b bs ≡ x
        → CutsAt false (b ∷ bs) (if is_some x then 0 else suc (before_head (open_after false b) bs))
    by_head more None e = cut-outside b bs more e
    by_head more (Some p) e = cut-head b bs p e

-- parentheses are paired before it and from there on
pub split-paired : (t : List ℕ) (inside : Bool) → is_paired inside t
    ≡ (is_paired inside (take (before_head inside t) t) && is_paired false (drop (before_head inside t) t))
split-paired [] inside = sym (and-true (not inside))
split-paired (b ∷ bs) true =
    rw (split-paired bs (open_after true b)) (sym (and_assoc (fits_in true b) _ _))
split-paired (b ∷ bs) false = by_head (split-paired bs (open_after false b)) (is_some (head_in b bs))
  where
    by_head : is_paired (open_after false b) bs
        ≡ (is_paired (open_after false b) (take (before_head (open_after false b) bs) bs)
        && is_paired false (drop (before_head (open_after false b) bs) bs))
        → (x : Bool) → is_paired false (b ∷ bs)
        ≡ (is_paired false (take (if x then 0 else suc (before_head (open_after false b) bs)) (b ∷ bs))
        && is_paired false (drop (if x then 0 else suc (before_head (open_after false b) bs)) (b ∷ bs)))
    by_head more true = refl
    by_head more false = rw more (sym (and_assoc (fits_in false b) _ _))

-- the first part of a text that begins with a head
pub record FirstPart (text : List ℕ) (p : Head) : Type 0 where
  pub shape : parts_at text ≡ record {
    head = p;
    body = (pieces_from false (take (before_head false (drop 2 text)) (drop 2 text))).after;
  } ∷ parts_at (drop (before_head false (drop 2 text)) (drop 2 text))

pub first-part : (text : List ℕ) (p : Head) → front_head text ≡ Some p → FirstPart text p
first-part text p e =
    let cut = cut-at (drop 2 text) false in record { shape = rw (e, ← cut.1, ← cut.2) refl }

pub paired-behind : (text : List ℕ) (p : Head) → front_head text ≡ Some p → is_paired false text ≡ true
    → is_paired false (drop 2 text) ≡ true
paired-behind [] p e paired = absurd cc
paired-behind (b ∷ []) p e paired = absurd cc
paired-behind (b ∷ c ∷ u) p e paired =
    elim (eqb_tells c 58) [
      | inl h ↦ let k : head_of b ≡ Some p = rw (h.1) at e in
          sym (head-paired b u (not-this k 40 refl) (not-this k 41 refl)) ∙ (rw (h.1) at paired)
      | inr h ↦ absurd (let no : front_head (b ∷ c ∷ u) ≡ None = rw (h.0) refl in cc)
    ]
  where
    not-this : head_of b ≡ Some p → (m : ℕ) → head_of m ≡ None → (b == m) ≡ false
    not-this k m n = elim (eqb_tells b m)
        [ inl h ↦ absurd (let no : head_of b ≡ None = rw (h.1) n in cc) | inr h ↦ h.0 ]

-- 2. Sizes.

abbrev with_held : Bool → List ℕ → ℕ
with_held true held = length held + 1
with_held false held = 0

sized : (t : List ℕ) (inside : Bool) → is_paired inside t ≡ true
    → with_held inside (pieces_from inside t).held + pieces_size (pieces_from inside t).after ≡ length t
sized [] true paired = absurd cc
sized [] false paired = refl
sized (b ∷ bs) true paired =
    let rest = and_parts (fits_in true b) _ paired in
    elim (eqb_tells b 41) [
      | inl h ↦ let more = sized bs false (rw (h.1) at rest.1) in rw (h.1) (omega (arith, more))
      | inr h ↦ let more = sized bs true (rw (h.0) at rest.1) in rw (h.0) (omega (arith, more))
    ]
sized (b ∷ bs) false paired =
    let rest = and_parts (fits_in false b) _ paired in
    elim (eqb_tells b 40) [
      | inl h ↦ let more = sized bs true (rw (h.1) at rest.1) in rw (h.1) (omega (arith, more))
      | inr h ↦ let more = sized bs false (rw (h.0) at rest.1) in rw (h.0) (omega (arith, more))
    ]

pub pieces-sized : (t : List ℕ) → is_paired false t ≡ true → pieces_size (pieces_from false t).after ≡ length t
pieces-sized t paired = let s = sized t false paired in omega (arith, s)

-- 3. ACEs.

pub front-cut : (t : List ℕ) → front (pieces_from false t).after ≡ take (before_byte 40 t) t
front-cut [] = refl
front-cut (b ∷ bs) = elim (eqb_tells b 40)
    [ inl h ↦ rw (h.1) refl | inr h ↦ rw (h.0) (ap (λ (t : List ℕ). b ∷ t) (front-cut bs)) ]

some-ace : (n m : ℕ) (t : List ℕ) → is_some (ace_at n t) ≡ is_some (ace_at m t)
some-ace n m [] = refl
some-ace n m (b ∷ bs) = refl

pub has-first : (t : List ℕ) → has_aces (pieces_from false t).after ≡ is_some (first_ace t)
has-first [] = refl
has-first (b ∷ bs) = elim (eqb_tells b 40)
    [ inl h ↦ rw (h.1) refl | inr h ↦ rw (h.0) (has-first bs ∙ some-ace _ _ (drop (before_byte 40 bs) bs)) ]

held-cut : (t : List ℕ) → (pieces_from true t).held ≡ take (before_byte 41 t) t
held-cut [] = refl
held-cut (b ∷ bs) = elim (eqb_tells b 41)
    [ inl h ↦ rw (h.1) refl | inr h ↦ rw (h.0) (ap (λ (t : List ℕ). b ∷ t) (held-cut bs)) ]

after-cut : (t : List ℕ) → (pieces_from true t).after ≡ (pieces_from false (drop (suc (before_byte 41 t)) t)).after
after-cut [] = refl
after-cut (b ∷ bs) = elim (eqb_tells b 41) [ inl h ↦ rw (h.1) refl | inr h ↦ rw (h.0) (after-cut bs) ]

pub length-cut : (m : ℕ) (t : List ℕ) → length (take (before_byte m t) t) ≡ before_byte m t
length-cut m [] = refl
length-cut m (b ∷ bs) = by_test (length-cut m bs) (b == m)
  where
    by_test : length (take (before_byte m bs) bs) ≡ before_byte m bs → (x : Bool) → length (take
        (if x then 0 else suc (before_byte m bs)) (b ∷ bs))
        ≡ (if x then 0 else suc (before_byte m bs))
    by_test more true = refl
    by_test more false = ap suc more

abbrev pub ace_end : ℕ × List ℕ → ℕ
ace_end a = a.0 + (length a.1 + 2)

abbrev pub aces_behind : ℕ → ℕ → List ℕ → Option (ℕ × List ℕ) → List PlacedAce
aces_behind n at t None = []
aces_behind n at t (Some a) =
    record { number = n; at = at + a.0; text = a.1 }
    ∷ aces_from (n + 1) (at + ace_end a) (pieces_from false (drop (ace_end a) t)).after

-- one byte more before the first ACE
one-before : (n at k : ℕ) (b : ℕ) (bs u : List ℕ)
    → aces_behind n (at + 1) bs (ace_at k u) ≡ aces_behind n at (b ∷ bs) (ace_at (suc k) u)
one-before n at k b bs [] = refl
one-before n at k b bs (c ∷ u) =
    let size = length (take (before_byte 41 u) u) + 2 in
    let first : at + 1 + k ≡ at + suc k = omega arith in
    let next : at + 1 + (k + size) ≡ at + (suc k + size) = omega arith in
    let end : suc k + size ≡ suc (k + size) = omega arith in
    rw (first, next, end) refl

pub aces-first : (t : List ℕ) (n at : ℕ)
    → aces_from n at (pieces_from false t).after ≡ aces_behind n at t (first_ace t)
aces-first [] n at = refl
aces-first (b ∷ bs) n at =
    elim (eqb_tells b 40) [
      | inl h ↦ rw (h.1) (opened bs n at)
      | inr h ↦ rw (h.0)
          (aces-first bs n (at + 1) ∙ one-before n at (before_byte 40 bs) b bs (drop (before_byte 40 bs) bs))
    ]
  where
    opened : (bs : List ℕ) (n at : ℕ) → aces_from n at (ace (pieces_from true bs).held ∷ (pieces_from true bs).after)
        ≡ aces_behind n at (40 ∷ bs) (Some (0, take (before_byte 41 bs) bs))
    opened bs n at =
        let first : at + 0 ≡ at = omega arith in
        let size : 0 + (length (take (before_byte 41 bs) bs) + 2) ≡ suc (suc (before_byte 41 bs)) =
        omega (arith, length-cut 41 bs) in
        let same : length (take (before_byte 41 bs) bs) + 2 ≡ suc (suc (before_byte 41 bs)) =
        omega (arith, length-cut 41 bs) in
        rw (held-cut bs, after-cut bs, first, size, same) refl

-- 4. Semicolons.

abbrev pub cuts_behind : List ℕ → List (List ℕ)
cuts_behind [] = []
cuts_behind (b ∷ bs) = all_cuts (cut_at_semicolons bs)

pub first-cut : (t : List ℕ) → (cut_at_semicolons t).first ≡ take (before_byte 59 t) t
first-cut [] = refl
first-cut (b ∷ bs) = elim (eqb_tells b 59)
    [ inl h ↦ rw (h.1) refl | inr h ↦ rw (h.0) (ap (λ (t : List ℕ). b ∷ t) (first-cut bs)) ]

pub other-cuts : (t : List ℕ) → (cut_at_semicolons t).others ≡ cuts_behind (drop (before_byte 59 t) t)
other-cuts [] = refl
other-cuts (b ∷ bs) = elim (eqb_tells b 59) [ inl h ↦ rw (h.1) refl | inr h ↦ rw (h.0) (other-cuts bs) ]
