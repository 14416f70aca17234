-- Symbols of base64 by vectors.
use Rattle.std.proofs.Common.{◌≡◌, ◌<◌, ℕ, zero, suc, ◌+◌, ◌-◌, ◌*◌, ◌/◌, ◌%◌, ◌^◌, ◌==◌, nat_le, true, cond, List, []}
use Rattle.std.proofs.Common.{◌∷◌, ◌++◌, length, map, take, replicate, slice_index, refl, sym, subst, ap, ◌∙◌, arith}
use Rattle.std.specs.Simd.Lanes.{Each1, digits_l, number_l, pick_l, sel_l, top, zip2}
use Rattle.std.proofs.lemmas.Bool.{eqb-true}
use Rattle.std.proofs.lemmas.List.{length-take-le}
use Rattle.std.proofs.lemmas.Simd.{Each1-chunk, pick_l_whole}
use Rattle.base64.proofs.Tables.{all_below_at}
use Rattle.base64.specs.Engines.{standard}
use Rattle.base64.specs.GeneralPurpose.{encode_of, engine_symbols}
use Rattle.base64.specs.Rfc4648.{encode_symbols}
use Rattle.base64.specs.Tables.{all_below}
use Rattle.sd_buffer.proofs.laws.SpelledBase64.{encode-whole}
use Rattle.sd_buffer.proofs.laws.Lanes.{bytes-of-word, fours, top-mask, words, words-of-bytes}

-- ---- the symbols of values

abbrev symbol_of : ℕ → ℕ
symbol_of v =
    (((((v + 65) % 2 ^ 8 + cond (nat_le 26 v) 6 0) % 2 ^ 8 + (2 ^ 8 - cond (nat_le 52 v) 75 0)) % 2 ^ 8
    + (2 ^ 8 - cond (nat_le 62 v) 15 0)) % 2 ^ 8 + cond (nat_le 63 v) 3 0) % 2 ^ 8

symbols-all : all_below (λ v. symbol_of v == slice_index (engine_symbols standard) v) 64 ≡ true
symbols-all = refl

symbol-of : (v : ℕ) → v < 64 → symbol_of v ≡ slice_index (engine_symbols standard) v
symbol-of v small =
    eqb-true _ _ (all_below_at (λ v. symbol_of v == slice_index (engine_symbols standard) v) 64 v symbols-all small)

-- a step for the values from one on
abbrev from : ℕ → ℕ → ℕ → List ℕ → List ℕ
from n least step values =
    sel_l (map (top 7) (zip2 (λ (a b : ℕ). cond (nat_le a b) 255 0) (replicate n least) values)) (replicate n step)
    (replicate n 0)

abbrev add : List ℕ → List ℕ → List ℕ
add xs ys = zip2 (λ (a b : ℕ). (a + b) % 2 ^ 8) xs ys

abbrev subtract : List ℕ → List ℕ → List ℕ
subtract xs ys = zip2 (λ (a b : ℕ). (a + (2 ^ 8 - b)) % 2 ^ 8) xs ys

pub symbols-of : (n : ℕ) (values : List ℕ) → length values ≡ n → Each1 (λ (v : ℕ). v < 64) values
    → add (subtract (subtract (add (add values (replicate n 65)) (from n 26 6 values)) (from n 52 75 values))
    (from n 62 15 values)) (from n 63 3 values)
    ≡ map (λ (v : ℕ). slice_index (engine_symbols standard) v) values
symbols-of zero [] long small = refl
symbols-of zero (v ∷ values) long small = absurd (omega arith)
symbols-of (suc n) [] long small = absurd (omega arith)
symbols-of (suc n) (v ∷ values) long small =
    rw (
      top-mask (nat_le 26 v),
      top-mask (nat_le 52 v),
      top-mask (nat_le 62 v),
      top-mask (nat_le 63 v),
      symbol-of v small.0,
      symbols-of n values (omega arith) small.1,
    ) refl

-- ---- the values of bytes

-- a word of three bytes, as four values
abbrev pub split_word : ℕ → ℕ
split_word x =
    (((x / 262144 + x / 4096 % 64 * 256 % 2 ^ 32) % 2 ^ 32
    + x / 64 % 64 * 65536 % 2 ^ 32) % 2 ^ 32
    + x % 64 * 16777216 % 2 ^ 32) % 2 ^ 32

-- each three bytes from the last one on, and a zero
abbrev pub spread : List ℕ → List ℕ
spread [] = []
spread (a ∷ []) = []
spread (a ∷ b ∷ []) = []
spread (a ∷ b ∷ c ∷ rest) = c ∷ b ∷ a ∷ 0 ∷ spread rest

-- the values of each three bytes
abbrev pub six_bits : List ℕ → List ℕ
six_bits [] = []
six_bits (a ∷ []) = []
six_bits (a ∷ b ∷ []) = []
six_bits (a ∷ b ∷ c ∷ rest) = (a / 4) ∷ (a % 4 * 16 + b / 16) ∷ (b % 16 * 4 + c / 64) ∷ (c % 64) ∷ six_bits rest

split-word : (a b c : ℕ) → a < 256 → b < 256 → c < 256
    → split_word (c + 256 * (b + 256 * (a + 256 * 0)))
    ≡ a / 4 + 256 * (a % 4 * 16 + b / 16) + 65536 * (b % 16 * 4 + c / 64) + 16777216 * (c % 64)
split-word a b c la lb lc =
    let x = c + 256 * (b + 256 * (a + 256 * 0)) in
    let p : x / 262144 ≡ a / 4 = omega arith in
    let q : x / 4096 % 64 ≡ a % 4 * 16 + b / 16 = omega arith in
    let r : x / 64 % 64 ≡ b % 16 * 4 + c / 64 = omega arith in
    let s : x % 64 ≡ c % 64 = omega arith in
    rw (p, q, r, s) (omega arith)

joined_back : (p q r s rest n : ℕ) → p < 64 → q < 64 → r < 64 → s < 64
    → digits_l 256 (suc (suc (suc (suc n)))) (p + 256 * q + 65536 * r + 16777216 * s + 2 ^ 32 * rest)
    ≡ p ∷ q ∷ r ∷ s ∷ digits_l 256 n rest
joined_back p q r s rest n lp lq lr ls =
    let y = p + 256 * q + 65536 * r + 16777216 * s in
    let first : y % 256 ≡ p = omega arith in
    let second : y / 256 % 256 ≡ q = omega arith in
    let third : y / 65536 % 256 ≡ r = omega arith in
    let fourth : y / 16777216 ≡ s = omega arith in
    bytes-of-word y rest n (omega arith) ∙ rw (first, second, third, fourth) refl

split-group : (a b c rest n : ℕ) → a < 256 → b < 256 → c < 256
    → digits_l 256 (suc (suc (suc (suc n)))) (split_word (c + 256 * (b + 256 * (a + 256 * 0))) + 2 ^ 32 * rest)
    ≡ (a / 4) ∷ (a % 4 * 16 + b / 16) ∷ (b % 16 * 4 + c / 64) ∷ (c % 64) ∷ digits_l 256 n rest
split-group a b c rest n la lb lc =
    let p = a / 4 in
    let q = a % 4 * 16 + b / 16 in
    let r = b % 16 * 4 + c / 64 in
    let s = c % 64 in
    let lp : p < 64 = omega arith in
    let lq : q < 64 = omega arith in
    let lr : r < 64 = omega arith in
    let ls : s < 64 = omega arith in
    ap (λ (w : ℕ). digits_l 256 (suc (suc (suc (suc n)))) (w + 2 ^ 32 * rest)) (split-word a b c la lb lc)
    ∙ joined_back p q r s rest n lp lq lr ls

split-words : (n : ℕ) (bytes : List ℕ) → length bytes ≡ 3 * n → Each1 (λ (x : ℕ). x < 256) bytes
    → digits_l 256 (fours n) (number_l (2 ^ 32) (map split_word (words (spread bytes)))) ≡ six_bits bytes
split-words zero [] long small = refl
split-words zero (a ∷ bytes) long small = absurd (omega arith)
split-words (suc n) [] long small = absurd (omega arith)
split-words (suc n) (a ∷ []) long small = absurd (omega arith)
split-words (suc n) (a ∷ b ∷ []) long small = absurd (omega arith)
split-words (suc n) (a ∷ b ∷ c ∷ bytes) long small =
    split-group a b c (number_l (2 ^ 32) (map split_word (words (spread bytes)))) (fours n) small.0 small.1.0
    small.1.1.0
    ∙ ap (λ (xs : List ℕ). (a / 4) ∷ (a % 4 * 16 + b / 16) ∷ (b % 16 * 4 + c / 64) ∷ (c % 64) ∷ xs)
    (split-words n bytes (omega arith) small.1.1.1)

length-spread : (n : ℕ) (bytes : List ℕ) → length bytes ≡ 3 * n → length (spread bytes) ≡ 4 * n
length-spread zero [] long = refl
length-spread zero (a ∷ bytes) long = absurd (omega arith)
length-spread (suc n) [] long = absurd (omega arith)
length-spread (suc n) (a ∷ []) long = absurd (omega arith)
length-spread (suc n) (a ∷ b ∷ []) long = absurd (omega arith)
length-spread (suc n) (a ∷ b ∷ c ∷ bytes) long = let more = length-spread n bytes (omega arith) in omega (arith, more)

spread-bytes : (bytes : List ℕ) → Each1 (λ (x : ℕ). x < 256) bytes → Each1 (λ (x : ℕ). x < 256) (spread bytes)
spread-bytes [] small = tt
spread-bytes (a ∷ []) small = tt
spread-bytes (a ∷ b ∷ []) small = tt
spread-bytes (a ∷ b ∷ c ∷ bytes) small =
    (small.1.1.0, (small.1.0, (small.0, (omega arith, spread-bytes bytes small.1.1.1))))

six-small : (bytes : List ℕ) → Each1 (λ (x : ℕ). x < 256) bytes → Each1 (λ (v : ℕ). v < 64) (six_bits bytes)
six-small [] small = tt
six-small (a ∷ []) small = tt
six-small (a ∷ b ∷ []) small = tt
six-small (a ∷ b ∷ c ∷ bytes) small =
    let la : a < 256 = small.0 in
    let lb : b < 256 = small.1.0 in
    let lc : c < 256 = small.1.1.0 in
    (omega arith, (omega arith, (omega arith, (omega arith, six-small bytes small.1.1.1))))

six-encoded : (t : List ℕ) (n : ℕ) (bytes : List ℕ) → length bytes ≡ 3 * n
    → map (λ (v : ℕ). slice_index t v) (six_bits bytes) ≡ encode_symbols t bytes
unfolding encode_symbols
six-encoded t zero [] long = refl
six-encoded t zero (a ∷ bytes) long = absurd (omega arith)
six-encoded t (suc n) [] long = absurd (omega arith)
six-encoded t (suc n) (a ∷ []) long = absurd (omega arith)
six-encoded t (suc n) (a ∷ b ∷ []) long = absurd (omega arith)
six-encoded t (suc n) (a ∷ b ∷ c ∷ bytes) long = rw (six-encoded t n bytes (omega arith)) refl

abbrev pub three_of_four : List ℕ
three_of_four = 2 ∷ 1 ∷ 0 ∷ 16 ∷ 5 ∷ 4 ∷ 3 ∷ 16 ∷ 8 ∷ 7 ∷ 6 ∷ 16 ∷ 11 ∷ 10 ∷ 9 ∷ 16 ∷ []

picked : (bytes : List ℕ) → length bytes ≡ 16
    → pick_l 0 (bytes ++ replicate 16 0) three_of_four ≡ spread (take 12 bytes)
picked bytes long =
    subst (λ (xs : List ℕ). pick_l 0 (xs ++ replicate 16 0) three_of_four ≡ spread (take 12 xs))
    (pick_l_whole 0 bytes 16 long) refl

-- the values of the first twelve bytes of a block
abbrev pub values_in : List ℕ → List ℕ
values_in bytes = digits_l 256 16 (number_l (2 ^ 32) (map split_word (digits_l (2 ^ 32) 4
    (number_l 256 (pick_l 0 (bytes ++ replicate 16 0) three_of_four)))))

values-in : (bytes : List ℕ) → length bytes ≡ 16 → Each1 (λ (x : ℕ). x < 256) bytes
    → values_in bytes ≡ six_bits (take 12 bytes)
values-in bytes long small =
    let twelve = take 12 bytes in
    let size : length twelve ≡ 12 = length-take-le 12 bytes (omega (arith, long)) in
    let few : Each1 (λ (x : ℕ). x < 256) twelve = Each1-chunk (λ (x : ℕ). x < 256) 0 12 bytes small in
    ap (λ (xs : List ℕ). digits_l 256 16 (number_l (2 ^ 32) (map split_word (digits_l (2 ^ 32) 4 (number_l 256 xs)))))
    (picked bytes long)
    ∙ ap (λ (xs : List ℕ). digits_l 256 16 (number_l (2 ^ 32) (map split_word xs)))
    (words-of-bytes 4 (spread twelve) (length-spread 4 twelve size) (spread-bytes twelve few))
    ∙ split-words 4 twelve size few

pub values-small : (bytes : List ℕ) → length bytes ≡ 16 → Each1 (λ (x : ℕ). x < 256) bytes
    → Each1 (λ (v : ℕ). v < 64) (values_in bytes)
values-small bytes long small =
    let few : Each1 (λ (x : ℕ). x < 256) (take 12 bytes) = Each1-chunk (λ (x : ℕ). x < 256) 0 12 bytes small in
    subst (λ (xs : List ℕ). Each1 (λ (v : ℕ). v < 64) xs) (sym (values-in bytes long small))
    (six-small (take 12 bytes) few)

pub block-encoded : (bytes symbols : List ℕ) → length bytes ≡ 16 → Each1 (λ (x : ℕ). x < 256) bytes
    → symbols ≡ map (λ (v : ℕ). slice_index (engine_symbols standard) v) (values_in bytes)
    → symbols ≡ encode_of standard (take 12 bytes)
block-encoded bytes symbols long small is =
    let size : length (take 12 bytes) ≡ 12 = length-take-le 12 bytes (omega (arith, long)) in
    is
    ∙ ap (λ (xs : List ℕ). map (λ (v : ℕ). slice_index (engine_symbols standard) v) xs) (values-in bytes long small)
    ∙ six-encoded (engine_symbols standard) 4 (take 12 bytes) size
    ∙ sym (encode-whole (take 12 bytes) (omega (arith, size)))
