-- Blocks of base64 by vectors: the values of symbols, and the bytes that they make.
use Rattle.std.proofs.Common.{◌≡◌, ◌<◌, ℕ, zero, suc, ◌+◌, ◌-◌, ◌*◌, ◌/◌, ◌%◌, ◌^◌, ◌==◌, ◌&&◌, not, nat_lt, Bool, true}
use Rattle.std.proofs.Common.{false, cond, if◌then◌else◌, List, [], ◌∷◌, length, map, take, replicate, Option, Some}
use Rattle.std.proofs.Common.{None, refl, sym, subst, ap, ◌∙◌, arith, w8}
use Rattle.std.proofs.lemmas.List.{length-map}
use Rattle.std.specs.Simd.Lanes.{Each1, digits_l, mask_l, number_l, pick_l, sel_l, top, zip2}
use Rattle.std.proofs.lemmas.Bool.{and_parts, eqb-true}
use Rattle.std.proofs.lemmas.Simd.{Each1-weaker, bitmask_splat, pick_l_whole, zip2_of_maps}
use Rattle.base64.proofs.Tables.{all_below_at}
use Rattle.base64.specs.Tables.{all_below}
use Rattle.sd_buffer.specs.Inner.Base64Blocks.{AreSixBits, HasOther, joined_groups, symbol_value}
use Rattle.sd_buffer.proofs.laws.Lanes.{bytes-of-word, fours, top-mask, words, words-of-bytes}

-- ---- the values of symbols

-- a shift for the symbols of a run
pub shifts-in : (first count shift n : ℕ) (symbols : List ℕ) → length symbols ≡ n
    → sel_l (map (top 7) (zip2 (λ (a b : ℕ). cond (nat_lt a b) 255 0)
    (zip2 (λ (a b : ℕ). (a + (2 ^ 8 - b)) % 2 ^ 8) symbols (replicate n first)) (replicate n count)))
    (replicate n shift) (replicate n 0)
    ≡ map (λ (c : ℕ). if nat_lt ((c + (2 ^ 8 - first)) % 2 ^ 8) count then shift else 0) symbols
shifts-in first count shift zero [] long = refl
shifts-in first count shift zero (c ∷ symbols) long = absurd (omega arith)
shifts-in first count shift (suc n) [] long = absurd (omega arith)
shifts-in first count shift (suc n) (c ∷ symbols) long =
    rw (
      top-mask (nat_lt ((c + (2 ^ 8 - first)) % 2 ^ 8) count),
      shifts-in first count shift n symbols (omega arith),
    ) refl

pub shifts-at : (symbol shift n : ℕ) (symbols : List ℕ) → length symbols ≡ n
    → sel_l (map (top 7) (zip2 (λ (a b : ℕ). cond (a == b) 255 0) symbols (replicate n symbol)))
    (replicate n shift) (replicate n 0)
    ≡ map (λ (c : ℕ). if c == symbol then shift else 0) symbols
shifts-at symbol shift zero [] long = refl
shifts-at symbol shift zero (c ∷ symbols) long = absurd (omega arith)
shifts-at symbol shift (suc n) [] long = absurd (omega arith)
shifts-at symbol shift (suc n) (c ∷ symbols) long =
    rw (top-mask (c == symbol), shifts-at symbol shift n symbols (omega arith)) refl

-- the shifts of all runs together
abbrev pub shift_of : ℕ → ℕ
shift_of c =
    (((((if nat_lt ((c + (2 ^ 8 - 65)) % 2 ^ 8) 26 then 191 else 0)
    + (if nat_lt ((c + (2 ^ 8 - 97)) % 2 ^ 8) 26 then 185 else 0)) % 2 ^ 8
    + (if nat_lt ((c + (2 ^ 8 - 48)) % 2 ^ 8) 10 then 4 else 0)) % 2 ^ 8
    + (if c == 43 then 19 else 0)) % 2 ^ 8
    + (if c == 47 then 16 else 0)) % 2 ^ 8

abbrev is_shifted : ℕ → Option ℕ → Bool
is_shifted c None = shift_of c == 0
is_shifted c (Some v) = not (shift_of c == 0) && (v == (c + shift_of c) % 2 ^ 8)

shifted-all : all_below (λ c. is_shifted c (symbol_value c)) 256 ≡ true
shifted-all = refl

not_true : (b : Bool) → not b ≡ true → b ≡ false
not_true true is = sym is
not_true false is = refl

shifted : (c : ℕ) (v : Option ℕ) → is_shifted c v ≡ true
    → v ≡ (if shift_of c == 0 then None else Some ((c + shift_of c) % 2 ^ 8))
shifted c None is = rw is refl
shifted c (Some v) is =
    let parts = and_parts (not (shift_of c == 0)) (v == (c + shift_of c) % 2 ^ 8) is in
    let some : (shift_of c == 0) ≡ false = not_true (shift_of c == 0) parts.0 in
    let value = eqb-true v ((c + shift_of c) % 2 ^ 8) parts.1 in
    rw (some, value) refl

-- the value of a symbol is so far above it
pub symbol-shifted : (c : ℕ) → c < 256
    → symbol_value c ≡ (if shift_of c == 0 then None else Some ((c + shift_of c) % 2 ^ 8))
symbol-shifted c byte =
    shifted c (symbol_value c) (all_below_at (λ c. is_shifted c (symbol_value c)) 256 c shifted-all byte)

-- the values of symbols, each so far below its symbol
abbrev pub valued : List ℕ → List ℕ
valued text = zip2 (λ (a b : ℕ). (a + b) % 2 ^ 8) text (map shift_of text)

abbrev pub none_set : List ℕ → ℕ
none_set text = mask_l (map (λ (x : ℕ). x == 0) (map shift_of text))

symbol-more : (c : ℕ) (text : List ℕ) (zero-shift : Bool) → c < 256 → (shift_of c == 0) ≡ zero-shift
    → cond zero-shift 1 0 + 2 * none_set text ≡ 0 → (none_set text ≡ 0 → AreSixBits text (valued text))
    → AreSixBits (c ∷ text) (valued (c ∷ text))
symbol-more c text true byte is none rest = absurd (omega arith)
symbol-more c text false byte is none rest =
    let value : symbol_value c ≡ Some ((c + shift_of c) % 2 ^ 8) = symbol-shifted c byte ∙ rw is refl in
    let all : AreSixBits text (valued text) = rest (omega arith) in
    rw (value, all) refl

-- where no shift is zero, all characters are symbols
pub all-symbols : (text : List ℕ) → Each1 (λ (c : ℕ). c < 256) text → none_set text ≡ 0 → AreSixBits text (valued text)
all-symbols [] bytes none = refl
all-symbols (c ∷ text) bytes none = symbol-more c text (shift_of c == 0) bytes.0 refl none (all-symbols text bytes.1)

other-more : (c : ℕ) (text : List ℕ) (zero-shift : Bool) → c < 256 → (shift_of c == 0) ≡ zero-shift
    → (cond zero-shift 1 0 + 2 * none_set text ≡ 0 → ⊥) → ((none_set text ≡ 0 → ⊥) → HasOther text)
    → HasOther (c ∷ text)
other-more c text true byte is some rest =
    let value : symbol_value c ≡ None = symbol-shifted c byte ∙ rw is refl in
    (0, omega arith, value)
other-more c text false byte is some rest =
    let other = rest (λ none. some (omega (arith, none))) in
    (suc other.0, omega (arith, other.1), other.2)

-- where a shift is zero, its character is no symbol
pub some-other : (text : List ℕ) → Each1 (λ (c : ℕ). c < 256) text → (none_set text ≡ 0 → ⊥) → HasOther text
some-other [] bytes some = absurd (some refl)
some-other (c ∷ text) bytes some = other-more c text (shift_of c == 0) bytes.0 refl some (some-other text bytes.1)

-- the shifts that a block is read by
abbrev pub runs : ℕ → ℕ → ℕ → List ℕ → List ℕ
runs first count shift text = map (λ (c : ℕ). if nat_lt ((c + (2 ^ 8 - first)) % 2 ^ 8) count then shift else 0) text

abbrev pub ones : ℕ → ℕ → List ℕ → List ℕ
ones symbol shift text = map (λ (c : ℕ). if c == symbol then shift else 0) text

abbrev pub added : List ℕ → List ℕ → List ℕ
added xs ys = zip2 (λ (a b : ℕ). (a + b) % 2 ^ 8) xs ys

abbrev pub no_symbols : List ℕ → ℕ
no_symbols shifts = mask_l (map (top 7) (zip2 (λ (a b : ℕ). cond (a == b) 255 0) shifts (replicate 16 0))) % 2 ^ 64

shifts-added : (text a b c d e : List ℕ) → a ≡ runs 65 26 191 text → b ≡ runs 97 26 185 text → c ≡ runs 48 10 4 text
    → d ≡ ones 43 19 text → e ≡ ones 47 16 text → added (added (added (added a b) c) d) e ≡ map shift_of text
shifts-added text a b c d e is-a is-b is-c is-d is-e =
    zip2_of_maps _ _ _ text
    (zip2_of_maps _ _ _ text (zip2_of_maps _ _ _ text (zip2_of_maps _ _ _ text is-a is-b) is-c) is-d)
    is-e

test-shifts : (text shifts : List ℕ) → length text ≡ 16 → shifts ≡ map shift_of text → no_symbols shifts ≡ none_set text
test-shifts text shifts long is =
    rw is
    (bitmask_splat w8 (λ (a b : ℕ). a == b) (map shift_of text) 16 0 (length-map text shift_of ∙ long) (omega arith))

pub values-read : (text whole a b c d e : List ℕ) → text ≡ whole → length text ≡ 16 → Each1 (λ (c : ℕ). c < 256) text
    → a ≡ runs 65 26 191 text → b ≡ runs 97 26 185 text → c ≡ runs 48 10 4 text
    → d ≡ ones 43 19 text → e ≡ ones 47 16 text
    → (no_symbols (added (added (added (added a b) c) d) e) == 0) ≡ true
    → AreSixBits whole (added text (added (added (added (added a b) c) d) e))
values-read text whole a b c d e same long bytes is-a is-b is-c is-d is-e test =
    let is = shifts-added text a b c d e is-a is-b is-c is-d is-e in
    let none : none_set text ≡ 0 = sym (test-shifts text _ long is) ∙ eqb-true _ 0 test in
    subst (λ (xs : List ℕ). AreSixBits xs (added text (added (added (added (added a b) c) d) e))) same
    (rw is (all-symbols text bytes none))

pub other-read : (text a b c d e : List ℕ) → length text ≡ 16 → Each1 (λ (c : ℕ). c < 256) text
    → a ≡ runs 65 26 191 text → b ≡ runs 97 26 185 text → c ≡ runs 48 10 4 text
    → d ≡ ones 43 19 text → e ≡ ones 47 16 text
    → (no_symbols (added (added (added (added a b) c) d) e) == 0) ≡ false
    → HasOther text
other-read text a b c d e long bytes is-a is-b is-c is-d is-e test =
    let is = shifts-added text a b c d e is-a is-b is-c is-d is-e in
    some-other text bytes
    (λ none. let zero : no_symbols (added (added (added (added a b) c) d) e) ≡ 0 = test-shifts text _ long is ∙ none in
    cc (rw zero at test))

-- ---- the bytes of values

-- a word of four values, as twenty-four bits
abbrev pub joined_word : ℕ → ℕ
joined_word x =
    (((x % 256 * 262144 % 2 ^ 32 + x / 256 % 256 * 4096 % 2 ^ 32) % 2 ^ 32
    + x / 65536 % 256 * 64 % 2 ^ 32) % 2 ^ 32
    + x / 16777216) % 2 ^ 32

-- the bytes of each four values, the last one first, and a zero
abbrev pub backwards : List ℕ → List ℕ
backwards [] = []
backwards (a ∷ []) = []
backwards (a ∷ b ∷ []) = []
backwards (a ∷ b ∷ c ∷ []) = []
backwards (a ∷ b ∷ c ∷ d ∷ rest) = (c % 4 * 64 + d) ∷ (b % 16 * 16 + c / 4) ∷ (a * 4 + b / 16) ∷ 0 ∷ backwards rest

joined-word : (a b c d : ℕ) → a < 64 → b < 64 → c < 64 → d < 64
    → joined_word (a + 256 * (b + 256 * (c + 256 * d))) ≡ a * 262144 + b * 4096 + c * 64 + d
joined-word a b c d la lb lc ld =
    let x = a + 256 * (b + 256 * (c + 256 * d)) in
    let xa : x % 256 ≡ a = omega arith in
    let xb : x / 256 % 256 ≡ b = omega arith in
    let xc : x / 65536 % 256 ≡ c = omega arith in
    let xd : x / 16777216 ≡ d = omega arith in
    rw (xa, xb, xc, xd) (omega arith)

joined-group : (a b c d rest n : ℕ) → a < 64 → b < 64 → c < 64 → d < 64
    → digits_l 256 (suc (suc (suc (suc n)))) (joined_word (a + 256 * (b + 256 * (c + 256 * d))) + 2 ^ 32 * rest)
    ≡ (c % 4 * 64 + d) ∷ (b % 16 * 16 + c / 4) ∷ (a * 4 + b / 16) ∷ 0 ∷ digits_l 256 n rest
joined-group a b c d rest n la lb lc ld =
    let y = a * 262144 + b * 4096 + c * 64 + d in
    let word = joined-word a b c d la lb lc ld in
    let first : y % 256 ≡ c % 4 * 64 + d = omega arith in
    let second : y / 256 % 256 ≡ b % 16 * 16 + c / 4 = omega arith in
    let third : y / 65536 % 256 ≡ a * 4 + b / 16 = omega arith in
    let fourth : y / 16777216 ≡ 0 = omega arith in
    ap (λ (w : ℕ). digits_l 256 (suc (suc (suc (suc n)))) (w + 2 ^ 32 * rest)) word
    ∙ bytes-of-word y rest n (omega arith)
    ∙ rw (first, second, third, fourth) refl

joined-words : (n : ℕ) (values : List ℕ) → length values ≡ 4 * n → Each1 (λ (v : ℕ). v < 64) values
    → digits_l 256 (fours n) (number_l (2 ^ 32) (map joined_word (words values))) ≡ backwards values
joined-words zero [] long small = refl
joined-words zero (a ∷ values) long small = absurd (omega arith)
joined-words (suc n) [] long small = absurd (omega arith)
joined-words (suc n) (a ∷ []) long small = absurd (omega arith)
joined-words (suc n) (a ∷ b ∷ []) long small = absurd (omega arith)
joined-words (suc n) (a ∷ b ∷ c ∷ []) long small = absurd (omega arith)
joined-words (suc n) (a ∷ b ∷ c ∷ d ∷ values) long small =
    joined-group a b c d (number_l (2 ^ 32) (map joined_word (words values))) (fours n) small.0 small.1.0 small.1.1.0
    small.1.1.1.0
    ∙ ap (λ (xs : List ℕ). (c % 4 * 64 + d) ∷ (b % 16 * 16 + c / 4) ∷ (a * 4 + b / 16) ∷ 0 ∷ xs)
    (joined-words n values (omega arith) small.1.1.1.1)

abbrev pub positions : List ℕ
positions = 2 ∷ 1 ∷ 0 ∷ 6 ∷ 5 ∷ 4 ∷ 10 ∷ 9 ∷ 8 ∷ 14 ∷ 13 ∷ 12 ∷ 3 ∷ 7 ∷ 11 ∷ 15 ∷ []

forwards : (values : List ℕ) → length values ≡ 16
    → take 12 (pick_l 0 (backwards values) positions) ≡ joined_groups values
forwards values long =
    subst (λ (xs : List ℕ). take 12 (pick_l 0 (backwards xs) positions) ≡ joined_groups xs)
    (pick_l_whole 0 values 16 long) refl

-- what a block of values is joined to
pub joined-block : (values : List ℕ) → length values ≡ 16 → Each1 (λ (v : ℕ). v < 64) values
    → take 12 (pick_l 0
    (digits_l 256 16 (number_l (2 ^ 32) (map joined_word (digits_l (2 ^ 32) 4 (number_l 256 values))))) positions)
    ≡ joined_groups values
joined-block values long small =
    let bytes : Each1 (λ (v : ℕ). v < 256) values =
    Each1-weaker (λ (v : ℕ). v < 64) (λ (v : ℕ). v < 256) (λ v less. omega (arith, less)) values small in
    ap (λ (xs : List ℕ). take 12 (pick_l 0 (digits_l 256 16 (number_l (2 ^ 32) (map joined_word xs))) positions))
    (words-of-bytes 4 values long bytes)
    ∙ ap (λ (xs : List ℕ). take 12 (pick_l 0 xs positions)) (joined-words 4 values long small)
    ∙ forwards values long
