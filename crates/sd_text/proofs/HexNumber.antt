-- The hex digits of a number without leading zeros.
use Rattle.std.proofs.Common.{◌≡◌, ℕ, zero, suc, ◌+◌, ◌-◌, ◌*◌, ◌/◌, ◌%◌, ◌^◌, ◌<◌, ◌≤◌, false, List, [], ◌∷◌, ◌++◌}
use Rattle.std.proofs.Common.{length, take, ap, refl, sym, ◌∙◌, arith, append_assoc, bit_or, length-append}
use Rattle.std.proofs.Common.{slice_set, w32}
use Rattle.std.specs.Fmt.{digit_glyph, digits, digits_onto}
use Rattle.std.specs.Int.{leading_zeros}
use Rattle.std.specs.Int.Bits.{or_add_and}
use Rattle.std.proofs.Math.Nat.{pow-le-pow_right, pow-suc, pow-zero}
use Rattle.std.proofs.lemmas.List.{append-nil, take_all, take-append-le}
use Rattle.std.proofs.lemmas.Nat.{and_mask, leading_top}
use Rattle.sd_text.specs.Inner.Digits.{IsWritten}
use Rattle.sd_text.specs.Numbers.{hex_digits}
use Rattle.sd_text.proofs.FrontDigits.{taken-again}
use Rattle.sd_text.proofs.laws.HexDigits.{digits_onto-nil, digits_onto_last, digits_onto_step, one_less}

-- the first digit is no zero, where there is a second one
exact : (c k n : ℕ) (tail : List ℕ) → c < k → n < 16 ^ suc c → (0 < c → 16 ^ c ≤ n)
    → digits_onto k 16 false n tail ≡ hex_digits (suc c) n ++ tail
exact c zero n tail room small large = absurd (omega arith)
exact zero (suc k) n tail room small large =
    digits_onto_last (suc k) n tail (omega arith) (omega (arith, small, pow-suc 16 zero, pow-zero 16))
exact (suc c) (suc k) n tail room small large =
    let long : 16 ^ suc c ≤ n = large (omega arith) in
    let next : 16 ^ suc c ≡ 16 ^ c * 16 = pow-suc 16 c in
    let base : 0 < 16 = omega arith in
    let least : 0 ≤ c = omega arith in
    let some : 16 ^ 0 ≤ 16 ^ c = pow-le-pow_right base least in
    let last = digit_glyph false (n % 16) in
    let fewer : suc k - 1 ≡ k = omega arith in
    digits_onto_step (suc k) n tail (omega arith) (λ (e : n / 16 ≡ 0). omega (arith, long, next, some, pow-zero 16, e))
    ∙ ap (λ (j : ℕ). digits_onto j 16 false (n / 16) (last ∷ tail)) fewer
    ∙ exact c k (n / 16) (last ∷ tail) (omega arith) (one_less (suc (suc c)) (suc c) n refl small)
    (λ h. omega (arith, long, next))
    ∙ sym (append_assoc (hex_digits (suc c) (n / 16)) (last ∷ []) tail)

four : (c : ℕ) → 16 ^ c ≡ 2 ^ (4 * c)
four zero = refl
four (suc c) =
    let more : 4 * suc c ≡ suc (suc (suc (suc (4 * c)))) = omega arith in
    rw more
    (omega (
      arith,
      four c,
      pow-suc 16 c,
      pow-suc 2 (4 * c),
      pow-suc 2 (suc (4 * c)),
      pow-suc 2 (suc (suc (4 * c))),
      pow-suc 2 (suc (suc (suc (4 * c)))),
    ))

-- a number and the lowest bit
with_one : (n : ℕ) → bit_or n 1 ≡ n / 2 * 2 + 1
with_one n =
    let sum = or_add_and n 1 in
    let low = and_mask n 1 in
    omega (arith, sum, low)

-- the digits that follow the leading zeros
pub without-zeros : (n : ℕ) → n < 2 ^ 32
    → (leading_zeros w32 (bit_or n 1) / 4 ≤ 7)
    × (hex_digits (8 - leading_zeros w32 (bit_or n 1) / 4) n ≡ digits 16 false n)
without-zeros n small =
    let a = bit_or n 1 in
    let is : a ≡ n / 2 * 2 + 1 = with_one n in
    let top = leading_top 32 a (omega (arith, is)) (omega (arith, is)) in
    let j = top.0 in
    let zeros = leading_zeros w32 a / 4 in
    let c = 7 - zeros in
    let few : zeros ≤ 7 = omega (arith, top.1) in
    let count : 8 - zeros ≡ suc c = omega (arith, few) in
    let base : 0 < 2 = omega arith in
    let upper : suc j ≤ 4 * suc c = omega (arith, top.1) in
    let lower : 4 * c ≤ j = omega (arith, top.1) in
    let high : 2 ^ suc j ≤ 2 ^ (4 * suc c) = pow-le-pow_right base upper in
    let low : 2 ^ (4 * c) ≤ 2 ^ j = pow-le-pow_right base lower in
    let below : n < 16 ^ suc c = omega (arith, high, four (suc c), top.3, is) in
    let from : 16 ^ c ≤ a = omega (arith, low, four c, top.2) in
    let whole = exact c 64 n [] (omega arith) below (λ h. starts c n a h is from) in
    (few, ap (λ k. hex_digits k n) count ∙ sym (append-nil _) ∙ sym whole ∙ digits_onto-nil n)
  where
    starts : (c n a : ℕ) → 0 < c → a ≡ n / 2 * 2 + 1 → 16 ^ c ≤ a → 16 ^ c ≤ n
    starts zero n a h is from = absurd (omega arith)
    starts (suc c) n a h is from = omega (arith, pow-suc 16 c, is, from)

length-hex_digits : (k n : ℕ) → length (hex_digits k n) ≡ k
length-hex_digits zero n = refl
length-hex_digits (suc k) n =
    length-append (hex_digits k (n / 16)) (digit_glyph false (n % 16) ∷ [])
    ∙ omega (arith, length-hex_digits k (n / 16))

-- a number without its last digits
abbrev down : ℕ → ℕ → ℕ
down zero n = n
down (suc z) n = down z (n / 16)

first-digits : (z c k n : ℕ) → k ≡ z + c → take c (hex_digits k n) ≡ hex_digits c (down z n)
first-digits zero c k n e =
    let same : k ≡ c = omega (arith, e) in
    rw same (take_all c (hex_digits c n) (omega (arith, length-hex_digits c n)))
first-digits (suc z) c zero n e = absurd (omega arith)
first-digits (suc z) c (suc k) n e =
    take-append-le c (hex_digits k (n / 16)) (digit_glyph false (n % 16) ∷ [])
    (omega (arith, length-hex_digits k (n / 16), e))
    ∙ first-digits z c k (n / 16) (omega arith)

moved : (z n : ℕ) → z ≤ 7 → n < 2 ^ 32 → down z (n * 2 ^ (4 * z) % 2 ^ 64) ≡ n
moved zero n few small = omega arith
moved (suc zero) n few small = omega arith
moved (suc (suc zero)) n few small = omega arith
moved (suc (suc (suc zero))) n few small = omega arith
moved (suc (suc (suc (suc zero)))) n few small = omega arith
moved (suc (suc (suc (suc (suc zero))))) n few small = omega arith
moved (suc (suc (suc (suc (suc (suc zero)))))) n few small = omega arith
moved (suc (suc (suc (suc (suc (suc (suc zero))))))) n few small = omega arith
moved (suc (suc (suc (suc (suc (suc (suc (suc z)))))))) n few small = absurd (omega arith)

-- `0x` in the first two cells
pub hex-prefix : (cells : List ℕ) → 2 ≤ length cells
    → take 2 (slice_set (slice_set cells 0 48) 1 120) ≡ 48 ∷ 120 ∷ []
hex-prefix [] room = absurd (omega arith)
hex-prefix (a ∷ []) room = absurd (omega arith)
hex-prefix (a ∷ b ∷ cells) room = refl

-- eight digits behind `0x`, the first of them the first that is no zero
pub hex-number : (z n : ℕ) (text old new : List ℕ) → z ≤ 7 → n < 2 ^ 32 → take 2 old ≡ 48 ∷ 120 ∷ []
    → IsWritten 2 (hex_digits 8 (n * 2 ^ (4 * z) % 2 ^ 64)) 10 old new → hex_digits (8 - z) n ≡ text
    → take (10 - z) new ≡ 48 ∷ 120 ∷ text
hex-number z n text old new few small front is same =
    let m = n * 2 ^ (4 * z) % 2 ^ 64 in
    let all : take 10 new ≡ 48 ∷ 120 ∷ hex_digits 8 m = is.written ∙ ap (λ (t : List ℕ). t ++ hex_digits 8 m) front in
    let size : length (take 10 new) ≡ 10 = ap length all ∙ omega (arith, length-hex_digits 8 m) in
    let places : 10 - z ≡ suc (suc (8 - z)) = omega arith in
    let eight : 8 ≡ z + (8 - z) = omega arith in
    let digits_first : take (8 - z) (hex_digits 8 m) ≡ hex_digits (8 - z) n =
    first-digits z (8 - z) 8 m eight ∙ ap (hex_digits (8 - z)) (moved z n few small) in
    sym (taken-again (10 - z) 10 new (omega (arith, size)))
    ∙ ap (take (10 - z)) all
    ∙ ap (λ k. take k (48 ∷ 120 ∷ hex_digits 8 m)) places
    ∙ ap (λ (d : List ℕ). 48 ∷ 120 ∷ d) (digits_first ∙ same)
