-- Masks in hex, digit by digit from the left, and masks of names.
use Rattle.std.proofs.Common.{◌≡◌, ℕ, zero, suc, ◌+◌, ◌*◌, ◌^◌, ◌<◌, ◌≤◌, length, take, drop, get_or, Bool, true, false}
use Rattle.std.proofs.Common.{List, [], ◌∷◌, ◌++◌, Some, None, refl, sym, ap, ◌∙◌, arith, add-one, eqb-true, lt-ltb}
use Rattle.std.specs.Prelude.{◌==◌, nat_lt, if◌then◌else◌}
use Rattle.std.specs.Option.{option_and_then}
use Rattle.std.specs.Char.{digit_value, is_digit, to_ascii_uppercase}
use Rattle.std.specs.List.{list_all}
use Rattle.std.proofs.Math.Nat.{pow-le-pow_right, pow-suc}
use Rattle.std.proofs.lemmas.Bool.{and_parts}
use Rattle.std.proofs.lemmas.Bool.Decides.{nat_tests}
use Rattle.std.proofs.Math.Seq.{take-append-add}
use Rattle.std.proofs.lemmas.List.{length-take-le, take_more}
use Rattle.std.proofs.lemmas.Str.Ascii.{uppercase_is}
use Rattle.std.proofs.lemmas.Str.Parse.{digit_from_value}
use Rattle.sd_text.specs.Names.{bits_named, joined, run_of}
use Rattle.sd_text.specs.Numbers.{number_after}
use Rattle.sd_text.specs.declared.names.NamedBits.{NamedBits}
use Rattle.sd_rights.specs.HexValues.{has_values, value_of, values_from}
use Rattle.sd_rights.specs.Rights.{after_zero, all_rights, mask_reads, rights_reads, short_rights_reads}
use Rattle.sd_rights.proofs.MaskNumbers.{number_is}

-- 1. A value of the table.

value-from : (first i : ℕ) (values : List ℕ) → values_from first values ≡ true → i < length values
    → get_or values i 0 ≡ value_of (first + i)
value-from first i [] all h = absurd (omega arith)
value-from first zero (v ∷ more) all h =
    let same : first ≡ first + 0 = omega arith in
    eqb-true v (value_of first) (and_parts _ (values_from (suc first) more) all).0 ∙ ap value_of same
value-from first (suc i) (v ∷ more) all h =
    let next : suc first + i ≡ first + suc i = omega arith in
    value-from (suc first) i more (and_parts _ (values_from (suc first) more) all).1 (omega arith) ∙ ap value_of next

pub value-at : (values : List ℕ) (i : ℕ) → has_values values ≡ true → i < length values
    → get_or values i 0 ≡ value_of i
unfolding has_values
value-at values i has h = let same : 0 + i ≡ i = omega arith in value-from 0 i values has h ∙ ap value_of same

-- what is not 16 is a digit's
pub digit-of : (b v : ℕ) → v ≡ value_of b → (v ≡ 16 → ⊥) → (is_digit b 16 ≡ true) × (v ≡ digit_value b)
digit-of b v is other = by_test (is_digit b 16) refl is
  where
    by_test : (d : Bool) → is_digit b 16 ≡ d → v ≡ (if d then digit_value b else 16)
        → (is_digit b 16 ≡ true) × (v ≡ digit_value b)
    by_test true e is = (e, is)
    by_test false e is = absurd (other is)

-- 2. The digits at the front.

one-more : (n b : ℕ) (xs : List ℕ)
    → number_after 16 n (xs ++ b ∷ []) ≡ option_and_then
    (λ m. if is_digit b 16 then Some (m * 16 + digit_value b) else None) (number_after 16 n xs)
one-more n b [] = refl
one-more n b (x ∷ xs) = by_digit (is_digit x 16) (one-more (n * 16 + digit_value x) b xs)
  where
    by_digit : (d : Bool)
        → number_after 16 (n * 16 + digit_value x) (xs ++ b ∷ []) ≡ option_and_then
        (λ m. if is_digit b 16 then Some (m * 16 + digit_value b) else None)
        (number_after 16 (n * 16 + digit_value x) xs)
        → (if d then number_after 16 (n * 16 + digit_value x) (xs ++ b ∷ []) else None) ≡ option_and_then
        (λ m. if is_digit b 16 then Some (m * 16 + digit_value b) else None)
        (if d then number_after 16 (n * 16 + digit_value x) xs else None)
    by_digit true e = e
    by_digit false e = refl

-- the number so far and one digit more
pub hex-more : (text : List ℕ) (i n v : ℕ) → i < length text → number_after 16 0 (take i text) ≡ Some n
    → v ≡ value_of (get_or text i 0) → (v ≡ 16 → ⊥) → number_after 16 0 (take (i + 1) text) ≡ Some (n * 16 + v)
hex-more text i n v h e is other =
    let digit = digit-of (get_or text i 0) v is other in
    rw (take_more text i 0 h, one-more 0 (get_or text i 0) (take i text), e, digit.0, digit.1) refl

pub below-16 : (b v : ℕ) → v ≡ value_of b → (v ≡ 16 → ⊥) → v < 16
below-16 b v is other = let digit = digit-of b v is other in grind (arith, nat_tests)

pub below-more : (i n v : ℕ) → n < 16 ^ i → v < 16 → n * 16 + v < 16 ^ (i + 1)
below-more i n v small few = rw (add-one, pow-suc 16 i) (omega arith)

-- at most eight digits
pub below-word : (i n v : ℕ) → i < 8 → n < 16 ^ i → v < 16 → n * 16 + v < 2 ^ 32
below-word i n v h small few =
    let least : 0 < 16 = omega arith in
    let most : i + 1 ≤ 8 = omega arith in
    let grows : 16 ^ (i + 1) ≤ 16 ^ 8 = pow-le-pow_right least most in
    omega (arith, grows, below-more i n v small few)

-- 3. The text of a mask.

pub mask-at : (text : List ℕ) (count n : ℕ) → 3 ≤ length text → get_or text 0 0 ≡ 48 → get_or text 1 0 ≡ 120
    → count ≤ 8 → count ≤ length (drop 2 text) → (count ≡ 0 → ⊥)
    → number_after 16 0 (take count (drop 2 text)) ≡ Some n → n < 2 ^ 32
    → rights_reads (take (2 + count) text) ≡ Some n
unfolding rights_reads
mask-at (a ∷ b ∷ digits) count n some zero-is x-is few within other number small =
    let size : length (take count digits) ≡ count = length-take-le count digits within in
    let read : mask_reads 16 (take count digits) ≡ Some n =
    sym (number_is 16 (take count digits) (omega (arith, size)))
    ∙ (ap (λ o. option_and_then (λ m. if nat_lt m (2 ^ 32) then Some m else None) o) number
    ∙ rw (lt-ltb n (2 ^ 32) small) refl) in
    let fits : nat_lt 183 (length (48 ∷ 120 ∷ take count digits)) ≡ false = grind (arith, nat_tests) in
    ap rights_reads (ap (λ (t : List ℕ). take (2 + count) t)
    (ap (λ (d : ℕ). d ∷ b ∷ digits) zero-is ∙ ap (λ (d : ℕ). 48 ∷ d ∷ digits) x-is)
    ∙ take-append-add (48 ∷ 120 ∷ []) digits count)
    ∙ ap (λ (x : Bool). if x then None else mask_reads 16 (take count digits)) fits ∙ read
mask-at (a ∷ []) count n some zero-is x-is few within other number small = absurd (omega arith)
mask-at [] count n some zero-is x-is few within other number small = absurd (omega arith)

-- 4. The text of names.

-- the first letter of each name is no digit
are-letters : list_all (λ e. nat_lt 57 e.first) all_rights ≡ true
are-letters = refl

no-digit : (table : List NamedBits) (a b : ℕ) → list_all (λ e. nat_lt 57 e.first) table ≡ true
    → to_ascii_uppercase a ≤ 57 → bits_named table a b ≡ None
no-digit [] a b letters digit = refl
no-digit (e ∷ es) a b letters digit =
    let parts = and_parts (nat_lt 57 e.first) (list_all (λ e. nat_lt 57 e.first) es) letters in
    let first = parts.0 in
    let other : (e.first == to_ascii_uppercase a) ≡ false = grind (arith, nat_tests) in
    rw other (no-digit es a b parts.1 digit)

-- a run of names begins with no digit
no-digit-run : (a : ℕ) (more : List ℕ) → is_digit a 10 ≡ true → run_of all_rights (a ∷ more) ≡ None
unfolding run_of
no-digit-run a [] digit = refl
no-digit-run a (b ∷ more) digit =
    let small : digit_value a < 10 = grind (arith, nat_tests) in
    let range = digit_from_value a small in
    let same : to_ascii_uppercase a ≤ 57 = grind (arith, nat_tests, uppercase_is a) in
    ap (λ o. joined o (run_of all_rights more)) (no-digit all_rights a b are-letters same)

pub names-at : (text : List ℕ) (size mask : ℕ) → size ≤ length text → (size ≡ 0 → ⊥) → size ≤ 183
    → run_of all_rights (take size text) ≡ Some mask → rights_reads (take size text) ≡ Some mask
unfolding rights_reads
names-at text size mask within some fits run = by_text (take size text) (length-take-le size text within) run
  where
    by_text : (t : List ℕ) → length t ≡ size → run_of all_rights t ≡ Some mask
        → (if nat_lt 183 (length t) then None else short_rights_reads t) ≡ Some mask
    by_text [] empty read = absurd (some (sym empty))
    by_text (a ∷ more) whole read =
        let short : nat_lt 183 (length (a ∷ more)) ≡ false = grind (arith, nat_tests) in
        ap (λ (x : Bool). if x then None else short_rights_reads (a ∷ more)) short ∙ by_digit (is_digit a 10) refl
      where
        by_digit : (d : Bool) → is_digit a 10 ≡ d
            → (if d then (if a == 48 then after_zero more else mask_reads 10 (a ∷ more))
            else run_of all_rights (a ∷ more)) ≡ Some mask
        by_digit true e = let none = sym (no-digit-run a more e) ∙ read in absurd cc
        by_digit false e = read
