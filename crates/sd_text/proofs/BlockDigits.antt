-- All bytes of a block are digits, by the highest bits of two words.
use Rattle.std.proofs.Common.{◌≡◌, ℕ, zero, suc, ◌+◌, ◌-◌, ◌*◌, ◌/◌, ◌%◌, ◌^◌, ◌<◌, ◌≤◌, true, List, [], ◌∷◌, length}
use Rattle.std.proofs.Common.{get_or, ap, refl, sym, ◌∙◌, arith, bit_and, bit_or, w64, Bool, false, eqb-true, eq-eqb}
use Rattle.std.specs.Char.{is_digit}
use Rattle.std.specs.Int.{bit_at, from_le_bytes}
use Rattle.std.specs.List.{list_all}
use Rattle.std.specs.Prelude.{max, min, ◌==◌, ◌||◌, ◌&&◌}
use Rattle.std.proofs.lemmas.Bool.{and_parts}
use Rattle.std.proofs.lemmas.Bool.Decides.{nat_tests}
use Rattle.std.proofs.lemmas.Nat.{and_le_r}
use Rattle.std.proofs.lemmas.Nat.Bits.{bit_at-suc, bit_at-zero, bit_at_and, bit_at_or, same_from_bits_below}
use Rattle.sd_text.proofs.FrontDigits.{digit_range, plain_digit}

-- the word of bytes, the first of them lowest
abbrev word_of : List ℕ → ℕ
word_of [] = 0
word_of (c ∷ cs) = c + 256 * word_of cs

-- a byte in each of n places
abbrev in_each : ℕ → ℕ → ℕ
in_each byte zero = 0
in_each byte (suc n) = byte + 256 * in_each byte n

-- a number above n places
abbrev above : ℕ → ℕ → ℕ
above zero x = x
above (suc n) x = 256 * above n x

-- if the highest bit of the lowest byte is clear in both words, it is a digit and carries nothing into the next byte
lowest : (a b c w s t x y : ℕ) → c < 256 → a / 2 ^ 7 % 2 ≡ 0 → b / 2 ^ 7 % 2 ≡ 0
    → a + 256 * x ≡ c + 256 * w + (70 + 256 * s) → b + (48 + 256 * t) ≡ c + 256 * w + 256 * y
    → (48 ≤ c) × (c ≤ 57) × (a / 256 + x ≡ w + s) × (b / 256 + t ≡ w + y)
lowest a b c w s t x y small A B e f =
    let low : (48 ≤ c) × (c ≤ 57) = (omega arith, omega arith) in
    (low.0, low.1, omega (arith, low.0, low.1), omega (arith, low.0, low.1))

-- a bit of half the number
next : (n i k : ℕ) → k ≡ suc i → bit_at n k ≡ bit_at (n / 2) i
next n i k e = rw e (bit_at-suc n i)

-- a bit of the next byte
byte_up : (n i : ℕ) → bit_at n (8 * (i + 1) + 7) ≡ bit_at (n / 256) (8 * i + 7)
byte_up n i =
    let whole : n / 2 / 2 / 2 / 2 / 2 / 2 / 2 / 2 ≡ n / 256 = omega arith in
    next n (8 * i + 14) _ (omega arith)
    ∙ next (n / 2) (8 * i + 13) _ (omega arith)
    ∙ next (n / 2 / 2) (8 * i + 12) _ (omega arith)
    ∙ next (n / 2 / 2 / 2) (8 * i + 11) _ (omega arith)
    ∙ next (n / 2 / 2 / 2 / 2) (8 * i + 10) _ (omega arith)
    ∙ next (n / 2 / 2 / 2 / 2 / 2) (8 * i + 9) _ (omega arith)
    ∙ next (n / 2 / 2 / 2 / 2 / 2 / 2) (8 * i + 8) _ (omega arith)
    ∙ next (n / 2 / 2 / 2 / 2 / 2 / 2 / 2) (8 * i + 7) _ (omega arith)
    ∙ ap (λ m. bit_at m (8 * i + 7)) whole

-- if the highest bits of all bytes are clear in both words, the bytes are digits
each : (n : ℕ) (bs : List ℕ) (a b p q : ℕ) → length bs ≡ n → ((i : ℕ) → get_or bs i 0 < 256)
    → a + above n p ≡ word_of bs + in_each 70 n → b + in_each 48 n ≡ word_of bs + above n q
    → ((i : ℕ) → i < n → bit_at a (8 * i + 7) ≡ 0) → ((i : ℕ) → i < n → bit_at b (8 * i + 7) ≡ 0)
    → list_all (λ c. is_digit c 10) bs ≡ true
each n [] a b p q size bytes e f high low = refl
each zero (c ∷ cs) a b p q size bytes e f high low = absurd (omega arith)
each (suc n) (c ∷ cs) a b p q size bytes e f high low =
    let first = lowest a b c (word_of cs) (in_each 70 n) (in_each 48 n) (above n p) (above n q) (bytes 0)
    (high 0 (omega arith)) (low 0 (omega arith)) e f in
    let digit = plain_digit c first.0 first.1 in
    let others = each n cs (a / 256) (b / 256) p q (omega arith) (λ i. bytes (suc i)) first.2 first.3
    (λ i h. sym (byte_up a i) ∙ high (i + 1) (omega arith)) (λ i h. sym (byte_up b i) ∙ low (i + 1) (omega arith)) in
    rw (digit.0, others) refl

-- a bit that is in neither of two
neither : (x y : ℕ) → min (max x y) 1 ≡ 0 → (x ≡ 0) × (y ≡ 0)
neither zero zero e = (refl, refl)
neither zero (suc y) e = absurd (omega arith)
neither (suc x) zero e = absurd (omega arith)
neither (suc x) (suc y) e = absurd (omega arith)

-- the constant has the highest bit of each byte
highest : (i : ℕ) → i < 8 → bit_at 0x8080808080808080 (8 * i + 7) ≡ 1
highest zero h = refl
highest (suc zero) h = refl
highest (suc (suc zero)) h = refl
highest (suc (suc (suc zero))) h = refl
highest (suc (suc (suc (suc zero)))) h = refl
highest (suc (suc (suc (suc (suc zero))))) h = refl
highest (suc (suc (suc (suc (suc (suc zero)))))) h = refl
highest (suc (suc (suc (suc (suc (suc (suc zero))))))) h = refl
highest (suc (suc (suc (suc (suc (suc (suc (suc i)))))))) h = absurd (omega arith)

-- the highest bit of a byte in two words
both : (a b i : ℕ) → i < 8 → bit_and (bit_or a b) 0x8080808080808080 ≡ 0
    → (bit_at a (8 * i + 7) ≡ 0) × (bit_at b (8 * i + 7) ≡ 0)
both a b i h e =
    neither (bit_at a (8 * i + 7)) (bit_at b (8 * i + 7))
    (sym (bit_at_and (bit_or a b) 0x8080808080808080 (8 * i + 7)
    ∙ rw (bit_at_or a b (8 * i + 7), highest i h) refl)
    ∙ ap (λ n. bit_at n (8 * i + 7)) e ∙ bit_at-zero (8 * i + 7))

word_of_eight : (bs : List ℕ) → length bs ≡ 8 → from_le_bytes w64 bs ≡ word_of bs
word_of_eight [] h = absurd (omega arith)
word_of_eight (a ∷ []) h = absurd (omega arith)
word_of_eight (a ∷ b ∷ []) h = absurd (omega arith)
word_of_eight (a ∷ b ∷ c ∷ []) h = absurd (omega arith)
word_of_eight (a ∷ b ∷ c ∷ f ∷ []) h = absurd (omega arith)
word_of_eight (a ∷ b ∷ c ∷ f ∷ g ∷ []) h = absurd (omega arith)
word_of_eight (a ∷ b ∷ c ∷ f ∷ g ∷ i ∷ []) h = absurd (omega arith)
word_of_eight (a ∷ b ∷ c ∷ f ∷ g ∷ i ∷ j ∷ []) h = absurd (omega arith)
word_of_eight (a ∷ b ∷ c ∷ f ∷ g ∷ i ∷ j ∷ k ∷ l ∷ ls) h = absurd (omega arith)
word_of_eight (a ∷ b ∷ c ∷ f ∷ g ∷ i ∷ j ∷ k ∷ []) h = omega arith

-- a block without any of these bits
all-digits : (bs : List ℕ) (word : ℕ) → length bs ≡ 8 → ((i : ℕ) → get_or bs i 0 < 256)
    → word ≡ from_le_bytes w64 bs
    → bit_and (bit_or ((word + 0x4646464646464646) % 2 ^ 64) ((word + (2 ^ 64 - 0x3030303030303030)) % 2 ^ 64))
    0x8080808080808080 ≡ 0
    → list_all (λ c. is_digit c 10) bs ≡ true
all-digits bs word size bytes is none =
    let a = (word + 0x4646464646464646) % 2 ^ 64 in
    let b = (word + (2 ^ 64 - 0x3030303030303030)) % 2 ^ 64 in
    let w : word ≡ word_of bs = is ∙ word_of_eight bs size in
    each 8 bs a b ((word + 0x4646464646464646) / 2 ^ 64)
    (1 - (word + (2 ^ 64 - 0x3030303030303030)) / 2 ^ 64) size bytes
    (omega (arith, w)) (omega (arith, w)) (λ i h. (both a b i h none).0) (λ i h. (both a b i h none).1)

-- what digits leave in the sum and in the difference, the first of them lowest
sums : List ℕ → ℕ
sums [] = 0
sums (c ∷ cs) = c + 70 + 256 * sums cs

rests : List ℕ → ℕ
rests [] = 0
rests (c ∷ cs) = c - 48 + 256 * rests cs

-- neither carries out of a byte
fits : (n : ℕ) (bs : List ℕ) → length bs ≡ n → list_all (λ c. is_digit c 10) bs ≡ true
    → (word_of bs + in_each 70 n ≡ sums bs) × (rests bs + in_each 48 n ≡ word_of bs) × (sums bs < above n 1)
    × (rests bs < above n 1)
unfolding sums rests
fits zero [] size all = (refl, refl, omega arith, omega arith)
fits (suc n) [] size all = absurd (omega arith)
fits zero (c ∷ cs) size all = absurd (omega arith)
fits (suc n) (c ∷ cs) size all =
    let parts = and_parts (is_digit c 10) _ all in
    let range = digit_range c parts.0 in
    let others = fits n cs (omega arith) parts.1 in (
      omega (arith, others.0),
      omega (arith, others.1, range.0),
      omega (arith, others.2, range.1),
      omega (arith, others.3, range.1),
    )

byte_behind : (n i k : ℕ) → k ≡ i + 1 → bit_at n (8 * k + 7) ≡ bit_at (n / 256) (8 * i + 7)
byte_behind n i k e = rw e (byte_up n i)

-- nor sets the highest bit of one
clear : (bs : List ℕ) (i : ℕ) → list_all (λ c. is_digit c 10) bs ≡ true
    → (bit_at (sums bs) (8 * i + 7) ≡ 0) × (bit_at (rests bs) (8 * i + 7) ≡ 0)
unfolding sums rests
clear [] i all = (bit_at-zero (8 * i + 7), bit_at-zero (8 * i + 7))
clear (c ∷ cs) zero all =
    let range = digit_range c (and_parts (is_digit c 10) _ all).0 in
    (omega (arith, range.0, range.1), omega (arith, range.0, range.1))
clear (c ∷ cs) (suc i) all =
    let parts = and_parts (is_digit c 10) _ all in
    let range = digit_range c parts.0 in
    let others = clear cs i parts.1 in
    let sum : (c + 70 + 256 * sums cs) / 256 ≡ sums cs = omega (arith, range.1) in
    let rest : (c - 48 + 256 * rests cs) / 256 ≡ rests cs = omega (arith, range.1) in (
      byte_behind (c + 70 + 256 * sums cs) i (suc i) (omega arith) ∙ ap (λ n. bit_at n (8 * i + 7)) sum ∙ others.0,
      byte_behind (c - 48 + 256 * rests cs) i (suc i) (omega arith) ∙ ap (λ n. bit_at n (8 * i + 7)) rest ∙ others.1,
    )

-- the constant has no other bit below a place
no_other : ℕ → Bool
no_other zero = true
no_other (suc j) = (j % 8 == 7 || bit_at 0x8080808080808080 j == 0) && no_other j

either : (x y : Bool) → (x || y) ≡ true → x ≡ false → y ≡ true
either true y e f = absurd cc
either false y e f = e

other : (n j : ℕ) → no_other n ≡ true → j < n → (j % 8 ≡ 7 → ⊥) → bit_at 0x8080808080808080 j ≡ 0
unfolding no_other
other zero j all h inside = absurd (omega arith)
other (suc n) j all h inside = by_last (j == n) refl (other n j (and_parts _ (no_other n) all).1)
  where
    by_last : (b : Bool) → (j == n) ≡ b → (j < n → (j % 8 ≡ 7 → ⊥) → bit_at 0x8080808080808080 j ≡ 0)
        → bit_at 0x8080808080808080 j ≡ 0
    by_last true e more =
        let same : j ≡ n = eqb-true j n e in
        let here = (and_parts _ (no_other n) all).0 in
        let last : (n % 8 == 7) ≡ false = grind (arith, nat_tests) in
        rw same (eqb-true _ 0 (either (n % 8 == 7) _ here last))
    by_last false e more = more (grind (arith, nat_tests)) inside

every_other : no_other 64 ≡ true
unfolding no_other
every_other = refl

-- where neither word has one of these bits, no bit of them is left
masked : (a b j : ℕ) → ((i : ℕ) → bit_at a (8 * i + 7) ≡ 0) → ((i : ℕ) → bit_at b (8 * i + 7) ≡ 0) → j < 64
    → bit_at (bit_and (bit_or a b) 0x8080808080808080) j ≡ bit_at 0 j
masked a b j high low h = by_place (j % 8 == 7) refl
  where
    bits : bit_at (bit_and (bit_or a b) 0x8080808080808080) j
        ≡ min (max (bit_at a j) (bit_at b j)) (bit_at 0x8080808080808080 j)
    bits =
        bit_at_and (bit_or a b) 0x8080808080808080 j
        ∙ ap (λ n. min n (bit_at 0x8080808080808080 j)) (bit_at_or a b j)

    by_place : (p : Bool) → (j % 8 == 7) ≡ p → bit_at (bit_and (bit_or a b) 0x8080808080808080) j ≡ bit_at 0 j
    by_place true e =
        let place : 8 * (j / 8) + 7 ≡ j = let seven = eqb-true (j % 8) 7 e in omega (arith, seven) in
        let first : bit_at a j ≡ 0 = ap (bit_at a) (sym place) ∙ high (j / 8) in
        let second : bit_at b j ≡ 0 = ap (bit_at b) (sym place) ∙ low (j / 8) in
        omega (arith, bits, first, second, bit_at-zero j)
    by_place false e =
        let none = other 64 j every_other h (λ seven. grind (arith, nat_tests)) in
        omega (arith, bits, none, bit_at-zero j)

-- a block of digits sets none of these bits
digits-clear : (bs : List ℕ) (word : ℕ) → length bs ≡ 8 → word ≡ from_le_bytes w64 bs
    → list_all (λ c. is_digit c 10) bs ≡ true
    → bit_and (bit_or ((word + 0x4646464646464646) % 2 ^ 64) ((word + (2 ^ 64 - 0x3030303030303030)) % 2 ^ 64))
    0x8080808080808080 ≡ 0
digits-clear bs word size is all =
    let w : word ≡ word_of bs = is ∙ word_of_eight bs size in
    let parts = fits 8 bs size all in
    let a : (word + 0x4646464646464646) % 2 ^ 64 ≡ sums bs = omega (arith, w, parts.0, parts.2) in
    let b : (word + (2 ^ 64 - 0x3030303030303030)) % 2 ^ 64 ≡ rests bs = omega (arith, w, parts.1, parts.3) in
    rw (a, b)
    (same_from_bits_below 64 (bit_and (bit_or (sums bs) (rests bs)) 0x8080808080808080) 0
    (omega (arith, and_le_r (bit_or (sums bs) (rests bs)) 0x8080808080808080)) (omega arith)
    (λ j h. masked (sums bs) (rests bs) j (λ i. (clear bs i all).0) (λ i. (clear bs i all).1) h))

same_test : (p q : Bool) → (p ≡ true → q ≡ true) → (q ≡ true → p ≡ true) → p ≡ q
same_test true q f g = sym (f refl)
same_test false true f g = g refl
same_test false false f g = refl

-- a block has none of these bits if all are digits, and else one
pub are-digits : (bs : List ℕ) (word : ℕ) → length bs ≡ 8 → ((i : ℕ) → get_or bs i 0 < 256)
    → word ≡ from_le_bytes w64 bs
    → (bit_and (bit_or ((word + 0x4646464646464646) % 2 ^ 64) ((word + (2 ^ 64 - 0x3030303030303030)) % 2 ^ 64))
    0x8080808080808080 == 0)
    ≡ list_all (λ c. is_digit c 10) bs
are-digits bs word size bytes is =
    same_test _ _ (λ e. all-digits bs word size bytes is (eqb-true _ 0 e))
    (λ e. eq-eqb _ 0 (digits-clear bs word size is e))
