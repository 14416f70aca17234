-- Vectors of bytes, lane by lane and as words of 32 bits.
use Rattle.std.proofs.Common.{◌≡◌, ◌<◌, ℕ, zero, suc, ◌+◌, ◌*◌, ◌/◌, ◌%◌, ◌^◌, Bool, true, false, cond, List, [], ◌∷◌}
use Rattle.std.proofs.Common.{length, refl, arith}
use Rattle.std.specs.Simd.Lanes.{Each1, digits_l, number_l, top}

-- what a lane of a comparison is read as
pub top-mask : (b : Bool) → top 7 (cond b 255 0) ≡ b
top-mask true = refl
top-mask false = refl

-- a word of each four bytes, of which the first is the lowest
abbrev pub words : List ℕ → List ℕ
words [] = []
words (a ∷ []) = []
words (a ∷ b ∷ []) = []
words (a ∷ b ∷ c ∷ []) = []
words (a ∷ b ∷ c ∷ d ∷ rest) = (a + 256 * (b + 256 * (c + 256 * d))) ∷ words rest

pub words-of-bytes : (n : ℕ) (xs : List ℕ) → length xs ≡ 4 * n → Each1 (λ (x : ℕ). x < 256) xs
    → digits_l (2 ^ 32) n (number_l 256 xs) ≡ words xs
words-of-bytes zero [] long small = refl
words-of-bytes zero (a ∷ xs) long small = absurd (omega arith)
words-of-bytes (suc n) [] long small = absurd (omega arith)
words-of-bytes (suc n) (a ∷ []) long small = absurd (omega arith)
words-of-bytes (suc n) (a ∷ b ∷ []) long small = absurd (omega arith)
words-of-bytes (suc n) (a ∷ b ∷ c ∷ []) long small = absurd (omega arith)
words-of-bytes (suc n) (a ∷ b ∷ c ∷ d ∷ xs) long small =
    let rest = number_l 256 xs in
    let la : a < 256 = small.0 in
    let lb : b < 256 = small.1.0 in
    let lc : c < 256 = small.1.1.0 in
    let ld : d < 256 = small.1.1.1.0 in
    let word : (a + 256 * (b + 256 * (c + 256 * (d + 256 * rest)))) % 2 ^ 32 ≡ a + 256 * (b + 256 * (c + 256 * d)) =
    omega arith in
    let left : (a + 256 * (b + 256 * (c + 256 * (d + 256 * rest)))) / 2 ^ 32 ≡ rest = omega arith in
    rw (word, left, words-of-bytes n xs (omega arith) small.1.1.1.1) refl

-- four for each
abbrev pub fours : ℕ → ℕ
fours zero = 0
fours (suc n) = suc (suc (suc (suc (fours n))))

-- the bytes of a word, and those of the words behind it
pub bytes-of-word : (word rest n : ℕ) → word < 2 ^ 32
    → digits_l 256 (suc (suc (suc (suc n)))) (word + 2 ^ 32 * rest)
    ≡ word % 256 ∷ word / 256 % 256 ∷ word / 65536 % 256 ∷ word / 16777216 ∷ digits_l 256 n rest
bytes-of-word word rest n fits =
    let a : (word + 2 ^ 32 * rest) % 256 ≡ word % 256 = omega arith in
    let b : (word + 2 ^ 32 * rest) / 256 % 256 ≡ word / 256 % 256 = omega arith in
    let c : (word + 2 ^ 32 * rest) / 256 / 256 % 256 ≡ word / 65536 % 256 = omega arith in
    let d : (word + 2 ^ 32 * rest) / 256 / 256 / 256 % 256 ≡ word / 16777216 = omega arith in
    let e : (word + 2 ^ 32 * rest) / 256 / 256 / 256 / 256 ≡ rest = omega arith in
    rw (a, b, c, d, e) refl
