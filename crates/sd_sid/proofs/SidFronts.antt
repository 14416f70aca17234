-- The letters, digits and dashes at the front of a text.
use Rattle.std.proofs.Common.{◌≡◌, ℕ, ◌+◌, ◌≤◌, Bool, true, false, List, [], ◌∷◌, ◌++◌, length, take, drop}
use Rattle.std.proofs.Common.{get_or, Option, None, Some, refl, ap, subst, take-append-drop, sym, ◌∙◌, arith}
use Rattle.std.proofs.Common.{append-nil, length-append, slice_index}
use Rattle.std.specs.Prelude.{◌==◌, nat_le, nat_lt, not}
use Rattle.std.specs.Char.{is_ascii_alphabetic, is_digit, to_ascii_uppercase}
use Rattle.std.specs.List.{list_all}
use Rattle.std.proofs.lemmas.Bool.Decides.{nat_tests}
use Rattle.std.proofs.lemmas.List.Sums.{take_while-cons}
use Rattle.std.proofs.lemmas.Bool.{and_parts}
use Rattle.sd_sid.specs.SidText.{are_letters, are_numbers, begins_with_s1, has_form, is_sid_byte, cut_at_dashes}
use Rattle.sd_sid.specs.SidText.{decimals_read, numbers_read, sid_front, sid_of_numbers}
use Rattle.sd_sid.specs.Sid.{SecurityId}
use Rattle.std.specs.Option.{option_map}
use Rattle.sd_sid.specs.Inner.Read.{HasBegun}
use Rattle.sd_text.specs.Cuts.{all_cuts}
use Rattle.sd_text.specs.Numbers.{number_after}
use Rattle.sd_sid.proofs.laws.TextLaws.{cut-digits}
use Rattle.sd_sid.proofs.UsualNumbers.{digits}

front-more : (b : ℕ) (bs : List ℕ) → is_sid_byte b ≡ true → sid_front (b ∷ bs) ≡ b ∷ sid_front bs
front-more b bs e = take_while-cons is_sid_byte b bs ∙ rw e refl

digit_byte : (c : ℕ) → is_digit c 10 ≡ true → is_sid_byte c ≡ true
digit_byte c e = grind (arith, nat_tests)

front-digits : (ds rest : List ℕ) → list_all (λ b. is_digit b 10) ds ≡ true
    → sid_front (ds ++ rest) ≡ ds ++ sid_front rest
front-digits [] rest e = refl
front-digits (d ∷ ds) rest e =
    let parts = and_parts (is_digit d 10) _ e in
    front-more d (ds ++ rest) (digit_byte d parts.0) ∙ ap (λ (t : List ℕ). d ∷ t) (front-digits ds rest parts.1)

-- a number, and the pieces that follow it
number-cut-of : (ds rest : List ℕ) → list_all (λ b. is_digit b 10) ds ≡ true
    → (cut_at_dashes (sid_front rest)).first ≡ []
    → cut_at_dashes (sid_front (ds ++ rest)) ≡ record { first = ds; others = (cut_at_dashes (sid_front rest)).others }
number-cut-of ds rest e ends =
    ap cut_at_dashes (front-digits ds rest e) ∙ cut-digits 10 ds (sid_front rest) (omega arith) e
    ∙ ap (λ (t : List ℕ). record { first = ds ++ t; others = (cut_at_dashes (sid_front rest)).others }) ends
    ∙ ap (λ (t : List ℕ). record { first = t; others = (cut_at_dashes (sid_front rest)).others }) (append-nil ds)

number-size-of : (ds rest : List ℕ) → list_all (λ b. is_digit b 10) ds ≡ true
    → length (sid_front (ds ++ rest)) + length rest ≡ length (sid_front rest) + length (ds ++ rest)
number-size-of ds rest e =
    let front : length (sid_front (ds ++ rest)) ≡ length ds + length (sid_front rest) =
    ap length (front-digits ds rest e) ∙ length-append ds (sid_front rest) in
    let whole = length-append ds rest in
    omega arith

pub number-cut : (text : List ℕ) (i n : ℕ) → number_after 10 0 (take i text) ≡ Some n
    → (cut_at_dashes (sid_front (drop i text))).first ≡ []
    → cut_at_dashes (sid_front text)
    ≡ record { first = take i text; others = (cut_at_dashes (sid_front (drop i text))).others }
number-cut text i n e ends =
    ap (λ (t : List ℕ). cut_at_dashes (sid_front t)) (sym (take-append-drop i text))
    ∙ number-cut-of (take i text) (drop i text) (digits 0 n (take i text) e) ends

pub number-size : (text : List ℕ) (i n : ℕ) → number_after 10 0 (take i text) ≡ Some n
    → length (sid_front text) + length (drop i text) ≡ length (sid_front (drop i text)) + length text
number-size text i n e =
    subst (λ (t : List ℕ). length (sid_front t) + length (drop i text) ≡ length (sid_front (drop i text)) + length t)
    (take-append-drop i text) (number-size-of (take i text) (drop i text) (digits 0 n (take i text) e))

letter_byte : (c : ℕ) → is_ascii_alphabetic c ≡ true → is_sid_byte c ≡ true
letter_byte c e = grind (arith, nat_tests)

-- the bytes of `S-1-` stand at the front
s1-front : (text : List ℕ) → begins_with_s1 text ≡ true → 4 ≤ length text
    → sid_front text ≡ slice_index text 0 ∷ 45 ∷ 49 ∷ 45 ∷ sid_front (drop 4 text)
s1-front (a ∷ b ∷ c ∷ d ∷ rest) e long =
    let s : is_sid_byte a ≡ true = grind (arith, nat_tests) in
    let first : b ≡ 45 = grind (arith, nat_tests) in
    let one : c ≡ 49 = grind (arith, nat_tests) in
    let second : d ≡ 45 = grind (arith, nat_tests) in
    rw (first, one, second) (
    front-more a (45 ∷ 49 ∷ 45 ∷ rest) s
    ∙ ap (λ (t : List ℕ). a ∷ t) (front-more 45 (49 ∷ 45 ∷ rest) refl)
    ∙ ap (λ (t : List ℕ). a ∷ 45 ∷ t) (front-more 49 (45 ∷ rest) refl)
    ∙ ap (λ (t : List ℕ). a ∷ 45 ∷ 49 ∷ t) (front-more 45 rest refl))
s1-front (a ∷ b ∷ c ∷ []) e long = absurd (omega arith)
s1-front (a ∷ b ∷ []) e long = absurd (omega arith)
s1-front (a ∷ []) e long = absurd (omega arith)
s1-front [] e long = absurd (omega arith)

front-begins : (text : List ℕ) → begins_with_s1 text ≡ true → 4 ≤ length text → begins_with_s1 (sid_front text) ≡ true
front-begins text e long =
    let s : (to_ascii_uppercase (slice_index text 0) == 83) ≡ true = grind (arith, nat_tests) in
    rw (s1-front text e long, s) refl

-- what follows `S-1-` in the text of a SID at the front
pub s1-behind : (text : List ℕ) → begins_with_s1 text ≡ true → 4 ≤ length text
    → drop 4 (sid_front text) ≡ sid_front (drop 4 text)
s1-behind text e long = ap (drop 4) (s1-front text e long)

pub s1-size : (text : List ℕ) → begins_with_s1 text ≡ true → 4 ≤ length text
    → length (sid_front text) ≡ length (sid_front (drop 4 text)) + 4
s1-size text e long = let whole = ap length (s1-front text e long) in omega (arith, whole)

pub s1-form : (text : List ℕ) → begins_with_s1 text ≡ true → 4 ≤ length text
    → length (sid_front (drop 4 text)) ≤ 179 → are_numbers (cut_at_dashes (sid_front (drop 4 text))) ≡ true
    → has_form (sid_front text) ≡ true
unfolding has_form
s1-form text e long short numbers =
    let size = s1-size text e long in
    let fits : nat_le (length (sid_front text)) 183 ≡ true = grind (arith, nat_tests) in
    rw (fits, front-begins text e long, s1-behind text e long, numbers) refl

letters-front : (text : List ℕ) → 2 ≤ length text → is_ascii_alphabetic (get_or text 0 0) ≡ true
    → is_ascii_alphabetic (get_or text 1 0) ≡ true
    → sid_front text ≡ get_or text 0 0 ∷ get_or text 1 0 ∷ sid_front (drop 2 text)
letters-front (a ∷ b ∷ rest) long first second =
    front-more a (b ∷ rest) (letter_byte a first)
    ∙ ap (λ (t : List ℕ). a ∷ t) (front-more b rest (letter_byte b second))
letters-front (a ∷ []) long first second = absurd (omega arith)
letters-front [] long first second = absurd (omega arith)

-- two letters, and whether more of a SID follows
pub letters-are : (text : List ℕ) (more : Bool) → 2 ≤ length text → is_ascii_alphabetic (get_or text 0 0) ≡ true
    → is_ascii_alphabetic (get_or text 1 0) ≡ true → more ≡ nat_lt 0 (length (sid_front (drop 2 text)))
    → not more ≡ are_letters (sid_front text)
letters-are text more long first second e =
    rw (letters-front text long first second) (by_rest (sid_front (drop 2 text)) more e)
  where
    by_rest : (rest : List ℕ) (more : Bool) → more ≡ nat_lt 0 (length rest)
        → not more ≡ are_letters (get_or text 0 0 ∷ get_or text 1 0 ∷ rest)
    by_rest [] more e = rw (e, first, second) refl
    by_rest (c ∷ cs) more e =
        let some : nat_lt 0 (length (c ∷ cs)) ≡ true = grind (arith, nat_tests) in
        let long : (length (get_or text 0 0 ∷ get_or text 1 0 ∷ c ∷ cs) == 2) ≡ false = grind (arith, nat_tests) in
        rw (e, some, long) refl

-- the authority and what follows the first sub-authority
subs-behind : (a n : ℕ) (read : Option (List ℕ))
    → sid_of_numbers (Some a) (option_map (λ ns. n ∷ ns) read)
    ≡ option_map (λ ns. record { authority = a; subs = n ∷ [] ++ ns }) read
subs-behind a n None = refl
subs-behind a n (Some ns) = refl

-- the numbers of a domain's SID begin
domain-front : (r : List ℕ)
    → HasBegun (53 ∷ 45 ∷ 50 ∷ 49 ∷ 45 ∷ r) (45 ∷ r) (record { authority = 5; subs = 21 ∷ [] })
unfolding numbers_read
domain-front r =
    let dash : sid_front (45 ∷ r) ≡ 45 ∷ sid_front r = front-more 45 r refl in
    let front : sid_front (53 ∷ 45 ∷ 50 ∷ 49 ∷ 45 ∷ r) ≡ 53 ∷ 45 ∷ 50 ∷ 49 ∷ 45 ∷ sid_front r =
    rw (
      front-more 53 (45 ∷ 50 ∷ 49 ∷ 45 ∷ r) refl,
      front-more 45 (50 ∷ 49 ∷ 45 ∷ r) refl,
      front-more 50 (49 ∷ 45 ∷ r) refl,
      front-more 49 (45 ∷ r) refl,
      dash,
    ) refl in
    let count : 0 + length (all_cuts (record { first = 50 ∷ 49 ∷ []; others = all_cuts (cut_at_dashes (sid_front r)) }))
    ≡ 1 + length (all_cuts (cut_at_dashes (sid_front r))) = omega arith in
    record {
      few = omega arith;
      ends = rw dash refl;
      form = rw (front, dash, count) refl;
      numbers = rw (front, dash) (subs-behind 5 21 (decimals_read (cut_at_dashes (45 ∷ sid_front r)).others));
      size = rw (front, dash) (omega arith);
    }

pub domain-begun : (text rest r : List ℕ) (sid : SecurityId) → text ≡ 53 ∷ 45 ∷ 50 ∷ 49 ∷ 45 ∷ r → rest ≡ 45 ∷ r
    → sid ≡ record { authority = 5; subs = 21 ∷ [] }
    → HasBegun text rest sid
domain-begun text rest r sid e f g = rw (e, f, g) (domain-front r)
