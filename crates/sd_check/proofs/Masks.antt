-- Masks by their rights.
use Rattle.std.proofs.Common.{◌≡◌, ◌<◌, ◌≤◌, ℕ, zero, suc, ◌+◌, ◌-◌, ◌*◌, ◌^◌, min, max, Bool, true, false, not, ◌&&◌}
use Rattle.std.proofs.Common.{◌||◌, cond, eqb, refl, sym, ap, ◌∙◌, arith, ⊎_elim, lit<, rules, bit_and, bit_or}
use Rattle.std.specs.Int.{bit_at, bit_not, w32}
use Rattle.std.proofs.lemmas.Bool.{agree_below_at, cases_lt, eq-eqb, eqb-true, ne_eqb}
use Rattle.std.proofs.lemmas.Bool.Decides.{nat_tests}
use Rattle.std.proofs.lemmas.Nat.Bits.{bit_at_and, bit_at_or, bit_at_not, bit_at-lt, bit_at-zero, bit_at_above}
use Rattle.std.proofs.lemmas.Nat.Bits.{same_from_bits, bit_at_cat_low, bit_at_cat_high}
use Rattle.sd_rights.specs.Mapping.{carries, mask_if}
use Rattle.sd_check.specs.Verdict.{rights_below}

min_one : (x y : ℕ) → x < 2 → y < 2 → eqb (min x y) 1 ≡ (eqb x 1 && eqb y 1)
min_one x y p q = grind (arith, nat_tests)

max_one : (x y : ℕ) → x < 2 → y < 2 → eqb (max x y) 1 ≡ (eqb x 1 || eqb y 1)
max_one x y p q = grind (arith, nat_tests)

not_one : (x : ℕ) → x < 2 → eqb (1 - x) 1 ≡ not (eqb x 1)
not_one x p = grind (arith, nat_tests)

pub carries-and : (a b i : ℕ) → carries (bit_and a b) i ≡ (carries a i && carries b i)
carries-and a b i =
    ap (λ (n : ℕ). eqb n 1) (bit_at_and a b i) ∙ min_one (bit_at a i) (bit_at b i) (bit_at-lt a i) (bit_at-lt b i)

pub carries-or : (a b i : ℕ) → carries (bit_or a b) i ≡ (carries a i || carries b i)
carries-or a b i =
    ap (λ (n : ℕ). eqb n 1) (bit_at_or a b i) ∙ max_one (bit_at a i) (bit_at b i) (bit_at-lt a i) (bit_at-lt b i)

carries-not : (a i : ℕ) → a < 2 ^ 32 → i < 32 → carries (bit_not w32 a) i ≡ not (carries a i)
carries-not a i p q = ap (λ (n : ℕ). eqb n 1) (bit_at_not w32 a i p q) ∙ not_one (bit_at a i) (bit_at-lt a i)

pub carries-zero : (i : ℕ) → carries 0 i ≡ false
carries-zero i = ap (λ (n : ℕ). eqb n 1) (bit_at-zero i)

pub carries_above : (a k i : ℕ) → a < 2 ^ k → k ≤ i → carries a i ≡ false
carries_above a k i p q = ap (λ (n : ℕ). eqb n 1) (bit_at_above a k i p q)

same_bit : (x y : ℕ) → x < 2 → y < 2 → eqb x 1 ≡ eqb y 1 → x ≡ y
same_bit x y p q h = grind (arith, nat_tests)

-- masks that carry the same rights are equal
pub same_masks : (a b : ℕ) → ((i : ℕ) → carries a i ≡ carries b i) → a ≡ b
same_masks a b h =
    same_from_bits a b (λ i. same_bit (bit_at a i) (bit_at b i) (bit_at-lt a i) (bit_at-lt b i) (h i))

-- `a & !b`
pub carries-and_not : (a b i : ℕ) → a < 2 ^ 32 → b < 2 ^ 32
    → carries (bit_and a (2 ^ 32 - 1 - b)) i ≡ (carries a i && not (carries b i))
carries-and_not a b i p q =
    carries-and a (2 ^ 32 - 1 - b) i
    ∙ ⊎_elim (λ (below : i < 32). ap (λ (x : Bool). carries a i && x) (carries-not b i q below))
    (λ (above : 32 ≤ i). rw (carries_above a 32 i p above) refl) (cases_lt i 32)

rights_below-lt : (n : ℕ) (test : ℕ → Bool) → rights_below n test < 2 ^ n
unfolding rights_below
rights_below-lt zero test = lit< tt
rights_below-lt (suc n) test =
    let rest = rights_below-lt n test in
    let double : 2 ^ (suc n) ≡ 2 * 2 ^ n = search rules in
    elim (test n) as (λ (b : Bool). (cond b 1 0) * 2 ^ n + rights_below n test < 2 ^ (suc n)) [
      | true ↦ omega arith
      | false ↦ omega arith
    ]

-- the masks of a test
carries-rights_below : (n : ℕ) (test : ℕ → Bool) (i : ℕ) → i < n → carries (rights_below n test) i ≡ test i
unfolding rights_below
carries-rights_below zero test i h = absurd (omega arith)
carries-rights_below (suc n) test i h =
    ⊎_elim (λ (below : i < n).
    ap (λ (k : ℕ). eqb k 1) (bit_at_cat_low (cond (test n) 1 0) n (rights_below n test) i below)
    ∙ carries-rights_below n test i below)
    (λ (above : n ≤ i).
    let here : i ≡ n = omega arith in
    let none : i - n ≡ 0 = omega arith in
    let high = bit_at_cat_high (cond (test n) 1 0) n (rights_below n test) i (rights_below-lt n test) above in
    ap (λ (k : ℕ). eqb k 1) (high ∙ ap (bit_at (cond (test n) 1 0)) none)
    ∙ last (test n) ∙ ap test (sym here))
    (cases_lt i n)
  where
    last : (b : Bool) → eqb (bit_at (cond b 1 0) 0) 1 ≡ b
    last true = refl
    last false = refl

-- a mask is that of a test where it carries the rights that pass
pub is_rights_below : (n m : ℕ) (test : ℕ → Bool) → m < 2 ^ n → ((i : ℕ) → i < n → carries m i ≡ test i)
    → m ≡ rights_below n test
is_rights_below n m test p h = same_masks m (rights_below n test) (λ i.
    ⊎_elim (λ (below : i < n). h i below ∙ sym (carries-rights_below n test i below))
    (λ (above : n ≤ i).
    carries_above m n i p above ∙ sym (carries_above (rights_below n test) n i (rights_below-lt n test) above))
    (cases_lt i n))

pub carries-mask_if : (b : Bool) (m i : ℕ) → carries (mask_if b m) i ≡ (b && carries m i)
carries-mask_if true m i = refl
carries-mask_if false m i = carries-zero i

-- a mask has READ_CONTROL or WRITE_DAC where it meets the mask of the two
pub has_owner_right : (m : ℕ) → not (eqb (bit_and m 0x6_0000) 0) ≡ (carries m 17 || carries m 18)
has_owner_right m = by (carries m 17) (carries m 18) refl refl
  where
    some : (i : ℕ) → carries m i ≡ true → carries 0x6_0000 i ≡ true → bit_and m 0x6_0000 ≡ 0 → ⊥
    some i has one none =
        let both : carries (bit_and m 0x6_0000) i ≡ true = carries-and m 0x6_0000 i ∙ rw (has, one) refl in
        let neither : carries (bit_and m 0x6_0000) i ≡ false = ap (λ (n : ℕ). carries n i) none ∙ carries-zero i in
        absurd (cc)

    two : (i : ℕ) → carries 0x6_0000 i ≡ (eqb i 17 || eqb i 18)
    two i =
        ⊎_elim (λ (below : i < 25). agree_below_at (carries 0x6_0000) (λ n. eqb n 17 || eqb n 18) 25 i refl below)
        (λ (above : 25 ≤ i).
        carries_above 0x6_0000 25 i (lit< tt) above
        ∙ rw (ne_eqb i 17 (λ e. omega (arith, e)), ne_eqb i 18 (λ e. omega (arith, e))) refl)
        (cases_lt i 25)

    meets_none : (c x y : Bool) → (x ≡ true → c ≡ false) → (y ≡ true → c ≡ false) → (c && (x || y)) ≡ false
    meets_none false x y h k = refl
    meets_none true true y h k = h refl
    meets_none true false true h k = k refl
    meets_none true false false h k = refl

    none : carries m 17 ≡ false → carries m 18 ≡ false → bit_and m 0x6_0000 ≡ 0
    none e f = same_masks (bit_and m 0x6_0000) 0 (λ i.
        carries-and m 0x6_0000 i ∙ ap (λ (b : Bool). carries m i && b) (two i)
        ∙ meets_none (carries m i) (eqb i 17) (eqb i 18)
        (λ h. ap (carries m) (eqb-true i 17 h) ∙ e) (λ h. ap (carries m) (eqb-true i 18 h) ∙ f)
        ∙ sym (carries-zero i))

    by : (a b : Bool) → carries m 17 ≡ a → carries m 18 ≡ b → not (eqb (bit_and m 0x6_0000) 0) ≡ (a || b)
    by true b e f = ap not (ne_eqb _ 0 (some 17 e refl))
    by false true e f = ap not (ne_eqb _ 0 (some 18 f refl))
    by false false e f = ap not (eq-eqb _ 0 (none e f))
