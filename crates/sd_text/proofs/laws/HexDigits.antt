-- The hex digits of a mask, from the last one to the first.
use Rattle.std.proofs.Common.{◌≡◌, ℕ, zero, suc, ◌+◌, ◌-◌, ◌/◌, ◌%◌, ◌^◌, ◌<◌, ◌≤◌, Bool, true, false, List, [], ◌∷◌}
use Rattle.std.proofs.Common.{length, arith, ap, ◌∙◌, refl, eq-eqb, ne_eqb, lt-ltb}
use Rattle.std.specs.Prelude.{◌==◌, if◌then◌else◌}
use Rattle.std.specs.Char.{digit_value, is_digit}
use Rattle.std.specs.List.{list_all}
use Rattle.std.specs.Str.Parse.{AllDigits}
use Rattle.std.specs.Fmt.{digits, digits_onto, digit_glyph}
use Rattle.std.proofs.lemmas.Bool.{eqb-false}
use Rattle.std.proofs.Math.Nat.{pow-suc, pow-zero}

-- 1. Digits from the last one on.

pub digits_onto-nil : (n : ℕ) → digits_onto 64 16 false n [] ≡ digits 16 false n
unfolding digits
digits_onto-nil n = refl

pub digits_onto_last : (k n : ℕ) (tail : List ℕ) → 0 < k → n / 16 ≡ 0
    → digits_onto k 16 false n tail ≡ digit_glyph false (n % 16) ∷ tail
digits_onto_last zero n tail some e = absurd (omega arith)
digits_onto_last (suc k) n tail some e =
    ap (λ (b : Bool). if b then digit_glyph false (n % 16) ∷ tail else digits_onto k 16 false (n / 16)
    (digit_glyph false (n % 16) ∷ tail)) (eq-eqb _ 0 e)

pub digits_onto_step : (k n : ℕ) (tail : List ℕ) → 0 < k → (n / 16 ≡ 0 → ⊥)
    → digits_onto k 16 false n tail ≡ digits_onto (k - 1) 16 false (n / 16) (digit_glyph false (n % 16) ∷ tail)
digits_onto_step zero n tail some ne = absurd (omega arith)
digits_onto_step (suc k) n tail some ne =
    ap (λ (b : Bool). if b then digit_glyph false (n % 16) ∷ tail else digits_onto k 16 false (n / 16)
    (digit_glyph false (n % 16) ∷ tail)) (ne_eqb _ 0 ne)
    ∙ ap (λ (j : ℕ). digits_onto j 16 false (n / 16) (digit_glyph false (n % 16) ∷ tail)) {x = k} {y = suc k - 1}
    (omega arith)

-- 2. How many digits there are.

-- one digit fewer without the last one
shift : (n r : ℕ) → r < 16 ^ suc n → r / 16 < 16 ^ n
shift n r small = let e = pow-suc 16 n in omega arith

pub one_less : (n m r : ℕ) → suc m ≡ n → r < 16 ^ n → r / 16 < 16 ^ m
one_less n m r e small = shift m r (rw e small)

length-digits_onto : (k n r : ℕ) (tail : List ℕ) → r < 16 ^ suc n
    → length (digits_onto k 16 false r tail) ≤ suc n + length tail
length-digits_onto zero n r tail small = omega arith
length-digits_onto (suc k) n r tail small =
    by_last n (r / 16 == 0) refl (shift n r small)
    (λ m s. length-digits_onto k m (r / 16) (digit_glyph false (r % 16) ∷ tail) s)
  where
    by_last : (m : ℕ) (b : Bool) → (r / 16 == 0) ≡ b → r / 16 < 16 ^ m
        → ((j : ℕ) → r / 16 < 16 ^ suc j
        → length (digits_onto k 16 false (r / 16) (digit_glyph false (r % 16) ∷ tail)) ≤ suc j + length
        (digit_glyph false (r % 16) ∷ tail))
        → length (if b then digit_glyph false (r % 16) ∷ tail else digits_onto k 16 false (r / 16)
        (digit_glyph false (r % 16) ∷ tail)) ≤ suc m + length tail
    by_last m true e s more = omega arith
    by_last zero false e s more = let ne = eqb-false _ 0 e in absurd (ne (omega (arith, pow-zero 16, s)))
    by_last (suc m) false e s more = let l = more m s in omega (arith, l)

-- a mask has eight digits at most
pub length-digits : (mask : ℕ) → mask < 2 ^ 32 → length (digits 16 false mask) ≤ 8
unfolding digits
length-digits mask small = length-digits_onto 64 7 mask [] (omega arith)

pub all_digits : (base : ℕ) (text : List ℕ) → AllDigits base text → list_all (λ c. is_digit c base) text ≡ true
all_digits base [] a = refl
all_digits base (c ∷ cs) a = rw (lt-ltb (digit_value c) base a.0) (all_digits base cs a.1)
