-- The decimal number at the front of a text, digit by digit from the left.
use Rattle.std.proofs.lemmas.Bool.{true≢false}
use Rattle.std.proofs.Common.{ap, ◌-◌, add-one, lt-ltb, ◌≡◌, ℕ, ◌+◌, ◌*◌, ◌^◌, ◌<◌, ◌≤◌, length, take, take-add, get_or}
use Rattle.std.proofs.Common.{Bool, true, false, List, [], ◌∷◌, ◌++◌, drop, Option, Some, None, refl, sym, ◌∙◌, arith}
use Rattle.std.specs.Prelude.{if◌then◌else◌, nat_lt, ◌&&◌}
use Rattle.std.proofs.Math.Nat.{pow-le-pow_right, pow-suc}
use Rattle.std.specs.Option.{option_and_then}
use Rattle.std.specs.Char.{digit_value, is_digit}
use Rattle.std.specs.List.{list_all}
use Rattle.std.proofs.lemmas.Bool.Decides.{nat_tests}
use Rattle.std.proofs.lemmas.Grind.{common_steps}
use Rattle.std.proofs.lemmas.List.{get_or-drop, get_or-take, length-take-le, take_all, take_more}
use Rattle.std.proofs.lemmas.Str.{digit_value_digit}
use Rattle.sd_text.specs.Numbers.{number_after}

one_more : (base n b : ℕ) (xs : List ℕ)
    → number_after base n (xs ++ b ∷ []) ≡ option_and_then
    (λ m. if is_digit b base then Some (m * base + digit_value b) else None) (number_after base n xs)
one_more base n b [] = refl
one_more base n b (x ∷ xs) = by_digit (is_digit x base) (one_more base (n * base + digit_value x) b xs)
  where
    by_digit : (d : Bool)
        → number_after base (n * base + digit_value x) (xs ++ b ∷ []) ≡ option_and_then
        (λ m. if is_digit b base then Some (m * base + digit_value b) else None)
        (number_after base (n * base + digit_value x) xs)
        → (if d then number_after base (n * base + digit_value x) (xs ++ b ∷ []) else None) ≡ option_and_then
        (λ m. if is_digit b base then Some (m * base + digit_value b) else None)
        (if d then number_after base (n * base + digit_value x) xs else None)
    by_digit true e = e
    by_digit false e = refl

-- the number so far and one digit more
pub digit_more : (before : ℕ) (text : List ℕ) (i n d : ℕ) → i < length text
    → number_after 10 before (take i text) ≡ Some n
    → is_digit (get_or text i 0) 10 ≡ true → d ≡ digit_value (get_or text i 0)
    → number_after 10 before (take (i + 1) text) ≡ Some (n * 10 + d)
digit_more before text i n d h e digit
    is = rw (take_more text i 0 h, one_more 10 before (get_or text i 0) (take i text), e, digit, is) refl

-- the bytes of the ten digits
pub plain_digit : (b : ℕ) → 48 ≤ b → b ≤ 57 → (is_digit b 10 ≡ true) × (b - 48 ≡ digit_value b)
plain_digit b low high =
    let value : digit_value b + 48 ≡ b = digit_value_digit b (low, high) in
    (lt-ltb (digit_value b) 10 (omega arith), omega arith)

-- one digit more
pub below_more : (i n d : ℕ) → n < 10 ^ i → d < 10 → n * 10 + d < 10 ^ (i + 1)
below_more i n d small few = rw (add-one, pow-suc 10 i) (omega arith)

pub taken-again : (i n : ℕ) (xs : List ℕ) → i ≤ length (take n xs) → take i (take n xs) ≡ take i xs
taken-again i n xs h = grind (arith, common_steps)

-- two runs of digits
pub number-append : (n m : ℕ) (xs ys : List ℕ) → number_after 10 n xs ≡ Some m
    → number_after 10 n (xs ++ ys) ≡ number_after 10 m ys
number-append n m [] ys e = ap (λ (o : Option ℕ). option_and_then (λ k. number_after 10 k ys) o) e
number-append n m (x ∷ xs) ys e = by_digit (is_digit x 10) (number-append (n * 10 + digit_value x) m xs ys) e
  where
    by_digit : (d : Bool)
        → (number_after 10 (n * 10 + digit_value x) xs ≡ Some m
        → number_after 10 (n * 10 + digit_value x) (xs ++ ys) ≡ number_after 10 m ys)
        → (if d then number_after 10 (n * 10 + digit_value x) xs else None) ≡ Some m
        → (if d then number_after 10 (n * 10 + digit_value x) (xs ++ ys) else None) ≡ number_after 10 m ys
    by_digit true f e = f e
    by_digit false f e = absurd cc

pub digit_range : (b : ℕ) → is_digit b 10 ≡ true → (48 ≤ b) × (b ≤ 57)
digit_range b e = let small : digit_value b < 10 = grind (arith, nat_tests) in (grind arith, grind arith)

-- the digits that follow a block of eight
pub behind_block : (text : List ℕ) (i n m : ℕ) → i ≤ length (take 2 (drop 8 text))
    → number_after 10 0 (take 8 text) ≡ Some n → number_after 10 n (take i (take 2 (drop 8 text))) ≡ Some m
    → number_after 10 0 (take (8 + i) text) ≡ Some m
behind_block text i n m h e f =
    ap (number_after 10 0) (take-add 8 i text)
    ∙ number-append 0 n (take 8 text) (take i (drop 8 text)) e
    ∙ ap (number_after 10 n) (sym (taken-again i 2 (drop 8 text) h)) ∙ f

-- one digit more behind a block of eight
pub below_more_behind : (i n d : ℕ) → n < 10 ^ (8 + i) → d < 10 → n * 10 + d < 10 ^ (8 + (i + 1))
below_more_behind i n d small few =
    let next : 8 + (i + 1) ≡ 8 + i + 1 = omega arith in
    rw next (below_more (8 + i) n d small few)

-- ten digits behind a block fit in 64 bits
pub fits-behind : (i n d : ℕ) → n < 10 ^ (8 + i) → i < 10 → d < 10 → n * 10 + d < 10 ^ 18
fits-behind i n d small few one =
    let next = below_more_behind i n d small one in
    let ten : 0 < 10 = omega arith in
    let within : 8 + (i + 1) ≤ 18 = omega arith in
    let most : 10 ^ (8 + (i + 1)) ≤ 10 ^ 18 = pow-le-pow_right ten within in
    omega (arith, next, most)

-- a byte that is none of the ten digits
pub no_digit : (b : ℕ) → (48 ≤ b → b ≤ 57 → ⊥) → is_digit b 10 ≡ false
no_digit b outside = by_test (is_digit b 10) refl
  where
    by_test : (d : Bool) → is_digit b 10 ≡ d → d ≡ false
    by_test true e = let range = digit_range b e in absurd (outside range.0 range.1)
    by_test false e = refl

-- what writes a number is digits
pub number-digits : (n m : ℕ) (text : List ℕ) → number_after 10 n text ≡ Some m
    → list_all (λ b. is_digit b 10) text ≡ true
number-digits n m [] e = refl
number-digits n m (c ∷ cs) e = by_digit (is_digit c 10) e (number-digits (n * 10 + digit_value c) m cs)
  where
    by_digit : (d : Bool) → (if d then number_after 10 (n * 10 + digit_value c) cs else None) ≡ Some m
        → (number_after 10 (n * 10 + digit_value c) cs ≡ Some m → list_all (λ b. is_digit b 10) cs ≡ true)
        → (d && list_all (λ b. is_digit b 10) cs) ≡ true
    by_digit true f more = more f
    by_digit false f more = absurd cc

-- a block with another byte ends the number within it
pub ends-in-block : (text : List ℕ) (i n : ℕ) → 8 ≤ length text → i ≤ length (take 8 text)
    → list_all (λ b. is_digit b 10) (take 8 text) ≡ false → number_after 10 0 (take i (take 8 text)) ≡ Some n
    → (i < length (take 8 text) → is_digit (get_or (take 8 text) i 0) 10 ≡ false)
    → is_digit (get_or text i 0) 10 ≡ false
ends-in-block text i n long within other e ends = by_end (nat_lt i 8) refl
  where
    size : length (take 8 text) ≡ 8
    size = length-take-le 8 text long

    by_end : (b : Bool) → nat_lt i 8 ≡ b → is_digit (get_or text i 0) 10 ≡ false
    by_end true f =
        let early : i < 8 = grind (arith, nat_tests) in
        let inside : i < length (take 8 text) = omega (arith, size, early) in
        ap (λ b. is_digit b 10) (sym (get_or-take 8 text i 0 early)) ∙ ends inside
    by_end false f =
        let late : 8 ≤ i = grind (arith, nat_tests) in
        let whole : take i (take 8 text) ≡ take 8 text = take_all i (take 8 text) (omega (arith, size, late)) in
        let all = number-digits 0 n (take 8 text) (ap (number_after 10 0) (sym whole) ∙ e) in
        absurd (true≢false (sym all ∙ other))

-- the byte behind a block and its digits
pub ends-behind : (text : List ℕ) (i : ℕ) → i < 2 → 8 + i < length text
    → (i < length (take 2 (drop 8 text)) → is_digit (get_or (take 2 (drop 8 text)) i 0) 10 ≡ false)
    → is_digit (get_or text (8 + i) 0) 10 ≡ false
ends-behind text i few within ends =
    let inside : i < length (take 2 (drop 8 text)) = grind (arith, common_steps) in
    ap (λ b. is_digit b 10) (sym (get_or-take 2 (drop 8 text) i 0 few ∙ get_or-drop 8 text i 0)) ∙ ends inside
