-- The texts of numbers, and how they are written into cells.
use Rattle.std.proofs.Common.{◌≡◌, ◌≤◌, ◌<◌, ℕ, List, zero, suc, false, true, Bool, ◌&&◌, get_or, eqb-true}
use Rattle.std.proofs.Common.{eq-zero-or-pos, inl, inr, ◌-◌, ◌+◌, ◌*◌, ◌/◌, ◌%◌, ◌^◌, [], ◌∷◌, ◌++◌, length, take}
use Rattle.std.proofs.Common.{subst, ap, refl, ◌∙◌, arith, append_assoc, length-append, length-set, slice_set}
use Rattle.std.specs.Fmt.{decimal, digit_glyph}
use Rattle.std.specs.Prelude.{◌==◌}
use Rattle.std.proofs.lemmas.Bool.{and_parts}
use Rattle.std.proofs.lemmas.Fmt.{decimal_digit, decimal_step}
use Rattle.std.proofs.lemmas.List.{take_more_set}
use Rattle.sd_text.specs.declared.digits.TheConstants.{HEX_PAIRS, PAIRS}
use Rattle.sd_text.specs.Inner.Digits.{IsWritten, four_digits, two_digits}
use Rattle.sd_text.specs.Numbers.{hex_digits}

-- the last two digits
pub decimal-two : (n : ℕ) → 10 ≤ n → n < 100 → decimal n ≡ two_digits n
decimal-two n large small = rw (decimal_step n large (omega arith), decimal_digit (n / 10) (omega arith)) refl

pub decimal-pair : (n : ℕ) → 100 ≤ n → n < 2 ^ 64 → decimal n ≡ decimal (n / 100) ++ two_digits (n % 100)
decimal-pair n large small =
    let tens : n / 10 % 10 ≡ n % 100 / 10 = omega arith in
    let ones : n % 10 ≡ n % 100 % 10 = omega arith in
    let hundreds : n / 10 / 10 ≡ n / 100 = omega arith in
    rw (
      decimal_step n (omega arith) small,
      decimal_step (n / 10) (omega arith) (omega arith),
      append_assoc,
      hundreds,
      tens,
      ones,
    ) refl

-- the last four digits
pub decimal-four : (n : ℕ) → 10000 ≤ n → n < 2 ^ 64 → decimal n ≡ decimal (n / 10000) ++ four_digits (n % 10000)
decimal-four n large small =
    let far : n / 100 / 100 ≡ n / 10000 = omega arith in
    let high : n / 100 % 100 ≡ n % 10000 / 100 = omega arith in
    let low : n % 10000 % 100 ≡ n % 100 = omega arith in
    rw (
      decimal-pair n (omega arith) small,
      decimal-pair (n / 100) (omega arith) (omega arith),
      append_assoc,
      far,
      high,
      low,
    ) refl

-- the last eight digits
pub decimal-eight : (n : ℕ) → 100000000 ≤ n → n < 2 ^ 64
    → decimal n ≡ decimal (n / 100000000) ++ (four_digits (n % 100000000 / 10000)
    ++ four_digits (n % 100000000 % 10000))
decimal-eight n large small =
    let far : n / 10000 / 10000 ≡ n / 100000000 = omega arith in
    let high : n / 10000 % 10000 ≡ n % 100000000 / 10000 = omega arith in
    let low : n % 100000000 % 10000 ≡ n % 10000 = omega arith in
    rw (
      decimal-four n (omega arith) small,
      decimal-four (n / 10000) (omega arith) (omega arith),
      append_assoc (decimal (n / 10000 / 10000)),
      far,
      high,
      low,
    ) refl

-- a text that is written behind another
pub written_then : {at between end : ℕ} {first second old middle new : List ℕ} → IsWritten at first between old middle
    → IsWritten between second end middle new → IsWritten at (first ++ second) end old new
written_then {at} {between} {end} {first} {second} {old} {middle} {new} p q = record {
  ends = omega (arith, p.ends, q.ends, length-append first second);
  written = q.written ∙ ap (λ (t : List ℕ). t ++ second) p.written ∙ append_assoc (take at old) first second;
}

-- the same text in other words
pub written_as : {at end : ℕ} {text other old new : List ℕ} → text ≡ other → IsWritten at text end old new
    → IsWritten at other end old new
written_as {at} {end} {text} {other} {old} {new} e p = subst (λ (t : List ℕ). IsWritten at t end old new) e p

-- the same end in other words
pub written_to : {at end other : ℕ} {text old new : List ℕ} → end ≡ other → IsWritten at text end old new
    → IsWritten at text other old new
written_to {at} {end} {other} {text} {old} {new} e p = subst (λ n. IsWritten at text n old new) e p

-- the table of pairs holds the digits of each number below 100
are_pairs : ℕ → Bool
are_pairs zero = true
are_pairs (suc p) =
    (get_or PAIRS (2 * p) 0 == 48 + p / 10 && get_or PAIRS (2 * p + 1) 0 == 48 + p % 10) && are_pairs p

below : (n p : ℕ) → are_pairs n ≡ true → p < n
    → (get_or PAIRS (2 * p) 0 ≡ 48 + p / 10) × (get_or PAIRS (2 * p + 1) 0 ≡ 48 + p % 10)
unfolding are_pairs
below zero p all h = absurd (omega arith)
below (suc n) p all h =
    let parts = and_parts _ (are_pairs n) all in
    let here = and_parts (get_or PAIRS (2 * n) 0 == 48 + n / 10) _ parts.0 in
    elim (eq-zero-or-pos (n - p)) [
      | inl z ↦ let e : p ≡ n = omega arith in rw e (eqb-true _ _ here.0, eqb-true _ _ here.1)
      | inr g ↦ below n p parts.1 (omega arith)
    ]

pub pair-at : (p : ℕ) → p < 100 → (get_or PAIRS (2 * p) 0 ≡ 48 + p / 10) × (get_or PAIRS (2 * p + 1) 0 ≡ 48 + p % 10)
unfolding are_pairs
pair-at p small = below 100 p refl small

-- two cells that are written from a place on
pub two-cells : (cells : List ℕ) (at x y : ℕ) → at + 2 ≤ length cells
    → take (at + 2) (slice_set (slice_set cells at x) (at + 1) y) ≡ take at cells ++ x ∷ y ∷ []
two-cells cells at x y room =
    let next : at + 1 + 1 ≡ at + 2 = omega arith in
    rw (← next)
    (take_more_set (slice_set cells at x) (at + 1) y (omega (arith, length-set cells at x))
    ∙ ap (λ (t : List ℕ). t ++ y ∷ []) (take_more_set cells at x (omega arith))
    ∙ append_assoc (take at cells) (x ∷ []) (y ∷ []))

-- the table of hex pairs holds both digits of each byte
are_hex_pairs : ℕ → Bool
are_hex_pairs zero = true
are_hex_pairs (suc p) =
    (get_or HEX_PAIRS (2 * p) 0 == digit_glyph false (p / 16)
    && get_or HEX_PAIRS (2 * p + 1) 0 == digit_glyph false (p % 16))
    && are_hex_pairs p

hex-below : (n p : ℕ) → are_hex_pairs n ≡ true → p < n
    → (get_or HEX_PAIRS (2 * p) 0 ≡ digit_glyph false (p / 16))
    × (get_or HEX_PAIRS (2 * p + 1) 0 ≡ digit_glyph false (p % 16))
unfolding are_hex_pairs
hex-below zero p all h = absurd (omega arith)
hex-below (suc n) p all h =
    let parts = and_parts _ (are_hex_pairs n) all in
    let here = and_parts (get_or HEX_PAIRS (2 * n) 0 == digit_glyph false (n / 16)) _ parts.0 in
    elim (eq-zero-or-pos (n - p)) [
      | inl z ↦ let e : p ≡ n = omega arith in rw e (eqb-true _ _ here.0, eqb-true _ _ here.1)
      | inr g ↦ hex-below n p parts.1 (omega arith)
    ]

hex-at : (p : ℕ) → p < 256
    → (get_or HEX_PAIRS (2 * p) 0 ≡ digit_glyph false (p / 16))
    × (get_or HEX_PAIRS (2 * p + 1) 0 ≡ digit_glyph false (p % 16))
unfolding are_hex_pairs
hex-at p small = hex-below 256 p refl small

-- the last two hex digits of a number are those of its last byte
pub hex-pair : (n : ℕ) → (get_or HEX_PAIRS (2 * (n % 256)) 0 ≡ digit_glyph false (n / 16 % 16))
    × (get_or HEX_PAIRS (2 * (n % 256) + 1) 0 ≡ digit_glyph false (n % 16))
hex-pair n =
    let p = hex-at (n % 256) (omega arith) in
    let tall : n % 256 / 16 ≡ n / 16 % 16 = omega arith in
    let low : n % 256 % 16 ≡ n % 16 = omega arith in
    (p.0 ∙ ap (digit_glyph false) tall, p.1 ∙ ap (digit_glyph false) low)

-- eight hex digits are those of four bytes
pub hex-eight : (n : ℕ) → hex_digits 2 (n / 2 ^ 24) ++ (hex_digits 2 (n / 2 ^ 16) ++ (hex_digits 2 (n / 2 ^ 8)
    ++ hex_digits 2 n)) ≡ hex_digits 8 n
hex-eight n =
    let first : n / 2 ^ 24 ≡ n / 16 / 16 / 16 / 16 / 16 / 16 = omega arith in
    let second : n / 2 ^ 16 ≡ n / 16 / 16 / 16 / 16 = omega arith in
    let third : n / 2 ^ 8 ≡ n / 16 / 16 = omega arith in
    rw (first, second, third) refl
