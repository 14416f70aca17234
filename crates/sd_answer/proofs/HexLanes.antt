-- Digits of hex by vectors.
use Rattle.std.proofs.Common.{◌≡◌, ◌<◌, ℕ, zero, suc, ◌+◌, ◌/◌, ◌%◌, ◌^◌, ◌==◌, nat_lt, true, cond, List, [], ◌∷◌, ◌++◌}
use Rattle.std.proofs.Common.{length, map, replicate, slice_index, refl, subst, arith}
use Rattle.std.specs.Simd.Lanes.{Each1, pick_l, sel_l, top, zip2}
use Rattle.std.proofs.lemmas.Bool.{eqb-true}
use Rattle.std.proofs.lemmas.Simd.{pick_l_whole}
use Rattle.hex.specs.Hex.{encode_with, encode_lower, lower_digits}
use Rattle.base64.proofs.Tables.{all_below_at}
use Rattle.base64.specs.Tables.{all_below}
use Rattle.sd_buffer.proofs.laws.Lanes.{top-mask}

abbrev digit_of : ℕ → ℕ
digit_of v = ((v + 48) % 2 ^ 8 + cond (nat_lt 9 v) 39 0) % 2 ^ 8

digits-all : all_below (λ v. digit_of v == slice_index lower_digits v) 16 ≡ true
digits-all = refl

digit-of : (v : ℕ) → v < 16 → digit_of v ≡ slice_index lower_digits v
digit-of v small = eqb-true _ _ (all_below_at (λ v. digit_of v == slice_index lower_digits v) 16 v digits-all small)

pub digits-of : (n : ℕ) (values : List ℕ) → length values ≡ n → Each1 (λ (v : ℕ). v < 16) values
    → zip2 (λ (a b : ℕ). (a + b) % 2 ^ 8) (zip2 (λ (a b : ℕ). (a + b) % 2 ^ 8) values (replicate n 48))
    (sel_l (map (top 7) (zip2 (λ (a b : ℕ). cond (nat_lt a b) 255 0) (replicate n 9) values)) (replicate n 39)
    (replicate n 0))
    ≡ map (λ (v : ℕ). slice_index lower_digits v) values
digits-of zero [] long small = refl
digits-of zero (v ∷ values) long small = absurd (omega arith)
digits-of (suc n) [] long small = absurd (omega arith)
digits-of (suc n) (v ∷ values) long small =
    rw (top-mask (nat_lt 9 v), digit-of v small.0, digits-of n values (omega arith) small.1) refl

abbrev pub between : List ℕ
between = 0 ∷ 16 ∷ 1 ∷ 17 ∷ 2 ∷ 18 ∷ 3 ∷ 19 ∷ 4 ∷ 20 ∷ 5 ∷ 21 ∷ 6 ∷ 22 ∷ 7 ∷ 23 ∷ 8 ∷ 24 ∷ 9 ∷ 25 ∷ 10 ∷ 26 ∷ 11 ∷ 27
    ∷ 12 ∷ 28 ∷ 13 ∷ 29 ∷ 14 ∷ 30 ∷ 15 ∷ 31 ∷ []

-- the high digits of a block, each with the low digit behind it
pub block-digits : (bytes high low : List ℕ) → length bytes ≡ 16
    → high ≡ map (λ (v : ℕ). slice_index lower_digits v) (zip2 (λ (a b : ℕ). a / b) bytes (replicate 16 16))
    → low ≡ map (λ (v : ℕ). slice_index lower_digits v) (zip2 (λ (a b : ℕ). a % b) bytes (replicate 16 16))
    → pick_l 0 (high ++ low) between ≡ encode_lower bytes
unfolding encode_with
block-digits bytes high low long is-high is-low =
    rw (is-high, is-low) (
    subst (λ (xs : List ℕ). pick_l 0
    (map (λ (v : ℕ). slice_index lower_digits v) (zip2 (λ (a b : ℕ). a / b) xs (replicate 16 16))
    ++ map (λ (v : ℕ). slice_index lower_digits v) (zip2 (λ (a b : ℕ). a % b) xs (replicate 16 16))) between
    ≡ encode_lower xs)
    (pick_l_whole 0 bytes 16 long) refl)
