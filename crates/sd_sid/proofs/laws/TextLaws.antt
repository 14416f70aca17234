-- What is printed of a SID reads back.
use Rattle.std.proofs.Common.{◌≡◌, ◌<◌, ◌≤◌, ℕ, zero, suc, ◌+◌, ◌*◌, ◌/◌, ◌%◌, ◌^◌, Bool, true, false, ◌&&◌, ◌||◌, List}
use Rattle.std.proofs.Common.{[], ◌∷◌, ◌++◌, length, drop, map, Option, Some, None, Ok, Err, refl, ap, ◌∙◌, arith}
use Rattle.std.proofs.Common.{append-nil, length-append}
use Rattle.std.specs.Prelude.{◌==◌, nat_lt, nat_le, if◌then◌else◌}
use Rattle.std.specs.List.{flat_map, list_all}
use Rattle.std.specs.Option.{option_and_then}
use Rattle.std.specs.Char.{digit_value, is_digit}
use Rattle.std.specs.Fmt.{decimal, digit_glyph}
use Rattle.std.specs.Str.Parse.{AllDigits, digits_value_after}
use Rattle.std.proofs.Math.Nat.{pow-succ'}
use Rattle.std.proofs.lemmas.Bool.Decides.{nat_tests}
use Rattle.std.proofs.lemmas.Fmt.{decimal_is_IsNumeral, length-decimal-le}
use Rattle.std.proofs.lemmas.List.{length-map}
use Rattle.std.proofs.lemmas.List.Folds.{list_all-append}
use Rattle.std.proofs.lemmas.Str.{digit_value-digit_char}
use Rattle.std.proofs.lemmas.Bool.{and_parts}
use Rattle.std.proofs.Math.Bool.{or-true}
use Rattle.sd_text.proofs.laws.HexDigits.{all_digits}
use Rattle.sd_sid.specs.Sid.{SecurityId, IsSid, AreWords}
use Rattle.sd_sid.specs.declared.sid_text.SidFault.TheVariants as faults
use Rattle.sd_text.specs.Cuts.{Cuts, with_byte}
use Rattle.sd_sid.specs.SidText.{decimals_read, are_letters, are_numbers, are_subs, authority_reads, authority_text}
use Rattle.sd_sid.specs.SidText.{decimal_reads, has_form, is_decimal, is_hex, is_sid_byte, numbers_read}
use Rattle.sd_sid.specs.SidText.{or_number_fault, letters_read, cut_at_dashes, sid_of_numbers, sid_reads, sid_text}
use Rattle.sd_sid.specs.SidText.{sub_text}
use Rattle.sd_text.specs.Numbers.{hex_digits, number, number_after}

-- 1. Digits.

value_after : (base n : ℕ) (ds : List ℕ) → AllDigits base ds
    → number_after base n ds ≡ Some (digits_value_after base n ds)
value_after base n [] a = refl
value_after base n (c ∷ cs) a = let yes : is_digit c base ≡ true = grind (arith, nat_tests) in rw yes
    (value_after base (n * base + digit_value c) cs a.1)

-- 2. A decimal number.

decimal-is_decimal : (n : ℕ) → n < 2 ^ 32 → is_decimal (decimal n) ≡ true
decimal-is_decimal n small =
    let numeral = (decimal_is_IsNumeral n (omega arith)).0 in
    let some : nat_lt 0 (length (decimal n)) ≡ true = let h = numeral.0 in grind (arith, nat_tests) in
    ap (λ (b : Bool). b && list_all (λ c. is_digit c 10) (decimal n)) some ∙ all_digits 10 (decimal n) numeral.1

below : (n limit : ℕ) → n < limit → (if nat_lt n limit then Some n else None) ≡ Some n
below n limit small = let yes : nat_lt n limit ≡ true = grind (arith, nat_tests) in rw yes refl

decimal-reads : (n : ℕ) → n < 2 ^ 32 → decimal_reads (decimal n) ≡ Some n
decimal-reads n small =
    let facts = decimal_is_IsNumeral n (omega arith) in
    let longest = length-decimal-le 10 n (omega arith) (omega arith) (omega arith) in
    let short : nat_le (length (decimal n)) 10 ≡ true = grind (arith, nat_tests) in
    let value : number_after 10 0 (decimal n) ≡ Some n = value_after 10 0 (decimal n) facts.0.1 ∙ ap Some facts.1 in
    rw (short, value) (below n (2 ^ 32) small)

-- a short text is no hex authority
short-is_hex : (text : List ℕ) → length text ≤ 10 → is_hex text ≡ false
short-is_hex text short = let no : (length text == 14) ≡ false = grind (arith, nat_tests) in rw no refl

-- 3. Hex digits.

number_after-append : (base n : ℕ) (xs : List ℕ) (c : ℕ)
    → number_after base n (xs ++ c ∷ []) ≡ option_and_then (λ m. number_after base m (c ∷ [])) (number_after base n xs)
number_after-append base n [] c = refl
number_after-append base n (x ∷ xs) c = by_digit (is_digit x base)
    (number_after-append base (n * base + digit_value x) xs c)
  where
    by_digit : (b : Bool)
        → number_after base (n * base + digit_value x) (xs ++ c ∷ []) ≡ option_and_then
        (λ m. number_after base m (c ∷ [])) (number_after base (n * base + digit_value x) xs)
        → (if b then number_after base (n * base + digit_value x) (xs ++ c ∷ []) else None) ≡ option_and_then
        (λ m. number_after base m (c ∷ [])) (if b then number_after base (n * base + digit_value x) xs else None)
    by_digit true e = e
    by_digit false e = refl

hex_value : (d : ℕ) → d < 16 → digit_value (digit_glyph false d) ≡ d
hex_value d small = digit_value-digit_char d (omega arith)

hex_is_digit : (d : ℕ) → d < 16 → is_digit (digit_glyph false d) 16 ≡ true
hex_is_digit d small = let value = hex_value d small in rw value (grind (arith, nat_tests))

hex-reads : (k n : ℕ) → n < 16 ^ k → number_after 16 0 (hex_digits k n) ≡ Some n
hex-reads zero n small = ap Some (omega arith)
hex-reads (suc k) n small =
    let power : 16 ^ suc k ≡ 16 * 16 ^ k = pow-succ' 16 k in
    let ih = hex-reads k (n / 16) (omega arith) in
    let value = hex_value (n % 16) (omega arith) in
    let digit = hex_is_digit (n % 16) (omega arith) in
    let whole : n / 16 * 16 + n % 16 ≡ n = omega arith in
    number_after-append 16 0 (hex_digits k (n / 16)) (digit_glyph false (n % 16))
    ∙ ap (λ o. option_and_then (λ m. number_after 16 m (digit_glyph false (n % 16) ∷ [])) o) ih
    ∙ rw (digit, value, whole) refl

hex_all : (k n : ℕ) → list_all (λ b. is_digit b 16) (hex_digits k n) ≡ true
hex_all zero n = refl
hex_all (suc k) n =
    let digit = hex_is_digit (n % 16) (omega arith) in
    list_all-append (λ b. is_digit b 16) (hex_digits k (n / 16)) (digit_glyph false (n % 16) ∷ [])
    ∙ rw (hex_all k (n / 16), digit) refl

-- 4. The pieces of a text.

not_dash : (base c : ℕ) → base ≤ 36 → is_digit c base ≡ true → (c == 45) ≡ false
not_dash base c low e = by_test (c == 45) refl
  where
    by_test : (b : Bool) → (c == 45) ≡ b → b ≡ false
    by_test false f = refl
    by_test true f =
        let dash : c ≡ 45 = grind (arith, nat_tests) in
        let value : digit_value c ≡ 36 = ap digit_value dash in
        let small : digit_value c < base = grind (arith, nat_tests) in
        absurd (omega arith)

with_digit : (c : ℕ) (p : Cuts) → (c == 45) ≡ false
    → with_byte 45 c p ≡ record { first = c ∷ p.first; others = p.others }
with_digit c p e = rw e refl

pub cut-digits : (base : ℕ) (ds rest : List ℕ) → base ≤ 36 → list_all (λ b. is_digit b base) ds ≡ true
    → cut_at_dashes (ds ++ rest)
    ≡ record { first = ds ++ (cut_at_dashes rest).first; others = (cut_at_dashes rest).others }
cut-digits base [] rest low e = refl
cut-digits base (c ∷ cs) rest low e =
    let parts = and_parts (is_digit c base) _ e in
    ap (with_byte 45 c) (cut-digits base cs rest low parts.1) ∙ with_digit c _ (not_dash base c low parts.0)

decimal_digits : (n : ℕ) → n < 2 ^ 32 → list_all (λ b. is_digit b 10) (decimal n) ≡ true
decimal_digits n small = all_digits 10 (decimal n) (decimal_is_IsNumeral n (omega arith)).0.1

pub AreWords-rest : (n : ℕ) (ns : List ℕ) → AreWords (n ∷ ns) → AreWords ns
AreWords-rest n ns h i = h (suc i)

abbrev cut_after : List ℕ → List ℕ → Cuts
cut_after first ns = record { first = first; others = map decimal ns }

-- digits, and pieces after them
digits-before : (base : ℕ) (ds ns : List ℕ) → base ≤ 36 → list_all (λ b. is_digit b base) ds ≡ true
    → cut_at_dashes (flat_map sub_text ns) ≡ cut_after [] ns
    → cut_at_dashes (ds ++ flat_map sub_text ns) ≡ cut_after ds ns
digits-before base ds ns low e after =
    cut-digits base ds (flat_map sub_text ns) low e
    ∙ ap (λ (p : Cuts). record { first = ds ++ p.first; others = p.others }) after
    ∙ ap (λ (t : List ℕ). record { first = t; others = map decimal ns }) (append-nil ds)

cut-subs : (ns : List ℕ) → AreWords ns → cut_at_dashes (flat_map sub_text ns) ≡ cut_after [] ns
cut-subs [] h = refl
cut-subs (n ∷ ns) h =
    ap (with_byte 45 45) (digits-before 10 (decimal n) ns (omega arith) (decimal_digits n (h 0))
    (cut-subs ns (AreWords-rest n ns h)))

cut-front : (base : ℕ) (ds ns : List ℕ) → base ≤ 36 → list_all (λ b. is_digit b base) ds ≡ true → AreWords ns
    → cut_at_dashes (ds ++ flat_map sub_text ns) ≡ cut_after ds ns
cut-front base ds ns low e h = digits-before base ds ns low e (cut-subs ns h)

-- 5. The authority.

-- its text by the test of its size
abbrev sized_text : Bool → ℕ → List ℕ
sized_text b a = if b then decimal a else 48 ∷ 120 ∷ hex_digits 12 a

record Reads (a : ℕ) (text : List ℕ) : Type 0 where
  whole : authority_reads text ≡ Some a
  form : (is_hex text || is_decimal text) ≡ true
  short : length text ≤ 14
  cut : (ns : List ℕ) → AreWords ns → cut_at_dashes (text ++ flat_map sub_text ns) ≡ cut_after text ns

decimal-Reads : (a : ℕ) → a < 2 ^ 32 → Reads a (decimal a)
decimal-Reads a small =
    let longest = length-decimal-le 10 a (omega arith) (omega arith) (omega arith) in
    let no_hex = short-is_hex (decimal a) longest in
    record {
      whole = ap (λ (b : Bool). if b then number 16 (2 ^ 48) (drop 2 (decimal a)) else decimal_reads (decimal a)) no_hex
          ∙ decimal-reads a small;
      form = ap (λ (b : Bool). is_hex (decimal a) || b) (decimal-is_decimal a small) ∙ or-true (is_hex (decimal a));
      short = omega arith;
      cut = λ ns h. cut-front 10 (decimal a) ns (omega arith) (decimal_digits a small) h;
    }

abbrev authority_hex : ℕ → List ℕ
authority_hex a = 48 ∷ 120 ∷ hex_digits 12 a

hex-is_hex : (a : ℕ) → is_hex (authority_hex a) ≡ true
hex-is_hex a = hex_all 12 a

hex-Reads : (a : ℕ) → a < 2 ^ 48 → Reads a (authority_hex a)
hex-Reads a small =
    let value : number_after 16 0 (hex_digits 12 a) ≡ Some a = hex-reads 12 a (omega arith) in
    record {
      whole =
          ap (λ (b : Bool). if b then number 16 (2 ^ 48) (hex_digits 12 a) else decimal_reads (authority_hex a))
          (hex-is_hex a)
          ∙ ap (λ o. option_and_then (λ n. if nat_lt n (2 ^ 48) then Some n else None) o) value
          ∙ below a (2 ^ 48) small;
      form = ap (λ (b : Bool). b || is_decimal (authority_hex a)) (hex-is_hex a);
      short = omega arith;
      cut = λ ns h. ap (λ (p : Cuts). with_byte 45 48 (with_byte 45 120 p))
          (cut-front 16 (hex_digits 12 a) ns (omega arith) (hex_all 12 a) h);
    }

authority-Reads : (a : ℕ) → a < 2 ^ 48 → Reads a (authority_text a)
authority-Reads a small = by_size (nat_lt a (2 ^ 32)) refl
  where
    by_size : (b : Bool) → nat_lt a (2 ^ 32) ≡ b → Reads a (sized_text b a)
    by_size true e = decimal-Reads a (grind (arith, nat_tests))
    by_size false e = hex-Reads a small

-- 6. The sub-authorities.

decimals-read_back : (ns : List ℕ) → AreWords ns → decimals_read (map decimal ns) ≡ Some ns
decimals-read_back [] h = refl
decimals-read_back (n ∷ ns) h = rw (decimal-reads n (h 0), decimals-read_back ns (AreWords-rest n ns h)) refl

decimals-are : (ns : List ℕ) → AreWords ns → list_all is_decimal (map decimal ns) ≡ true
decimals-are [] h = refl
decimals-are (n ∷ ns) h =
    ap (λ (b : Bool). b && list_all is_decimal (map decimal ns)) (decimal-is_decimal n (h 0))
    ∙ decimals-are ns (AreWords-rest n ns h)

subs-are : (ns : List ℕ) → length ns ≤ 15 → AreWords ns → are_subs 0 (map decimal ns) ≡ true
subs-are ns few h =
    let count = length-map ns decimal in
    let fits : nat_le (0 + length (map decimal ns)) 15 ≡ true = grind (arith, nat_tests) in
    ap (λ (b : Bool). b && list_all is_decimal (map decimal ns)) fits ∙ decimals-are ns h

length-subs : (ns : List ℕ) → AreWords ns → length (flat_map sub_text ns) ≤ 11 * length ns
length-subs [] h = omega arith
length-subs (n ∷ ns) h =
    let longest = length-decimal-le 10 n (omega arith) (omega (arith, h 0)) (omega (arith, h 0)) in
    let ih = length-subs ns (AreWords-rest n ns h) in
    let parts = length-append (decimal n) (flat_map sub_text ns) in
    omega arith

-- 7. The whole text.

pub length-sid_text : (s : SecurityId) → IsSid s → length (sid_text s) ≤ 18 + 11 * length s.subs
length-sid_text s i =
    let front = authority-Reads s.authority i.authority in
    let short = front.short in
    let subs = length-subs s.subs i.subs in
    let parts = length-append (authority_text s.authority) (flat_map sub_text s.subs) in
    omega arith

no_letters : (s : SecurityId) → are_letters (sid_text s) ≡ false
no_letters s = let no : (length (sid_text s) == 2) ≡ false = grind (arith, nat_tests) in rw no refl

text_cut : (s : SecurityId) → IsSid s
    → cut_at_dashes (drop 4 (sid_text s)) ≡ cut_after (authority_text s.authority) s.subs
text_cut s i = (authority-Reads s.authority i.authority).cut s.subs i.subs

text_numbers : (s : SecurityId) → IsSid s → are_numbers (cut_after (authority_text s.authority) s.subs) ≡ true
text_numbers s i =
    ap (λ (b : Bool). b && are_subs 0 (map decimal s.subs)) (authority-Reads s.authority i.authority).form
    ∙ subs-are s.subs i.count i.subs

text_form : (s : SecurityId) → IsSid s → has_form (sid_text s) ≡ true
unfolding has_form
text_form s i =
    let whole = length-sid_text s i in
    let count = i.count in
    let fits : nat_le (length (sid_text s)) 183 ≡ true = grind (arith, nat_tests) in
    ap (λ (b : Bool). (b && true) && are_numbers (cut_at_dashes (drop 4 (sid_text s)))) fits
    ∙ ap are_numbers (text_cut s i)
    ∙ text_numbers s i

text_reads : (s : SecurityId) → IsSid s → numbers_read (cut_at_dashes (drop 4 (sid_text s))) ≡ Some s
unfolding numbers_read
text_reads s i =
    ap numbers_read (text_cut s i)
    ∙ ap (λ o. sid_of_numbers o (decimals_read (map decimal s.subs))) (authority-Reads s.authority i.authority).whole
    ∙ ap (λ o. sid_of_numbers (Some s.authority) o) (decimals-read_back s.subs i.subs)

-- a SID's text reads as the SID, whatever the domain
pub sid_text-reads : (s : SecurityId) → IsSid s → (domain : Option SecurityId) → sid_reads (sid_text s) domain ≡ Ok s
unfolding sid_reads
sid_text-reads s i domain =
    ap (λ (b : Bool). if b then letters_read 83 45
    domain else (if has_form (sid_text s) then or_number_fault
    (numbers_read (cut_at_dashes (drop 4 (sid_text s)))) else Err faults.SidForm)) (no_letters s)
    ∙ ap (λ (b : Bool). if b then or_number_fault (numbers_read (cut_at_dashes (drop 4 (sid_text s)))) else Err
    faults.SidForm) (text_form s i)
    ∙ ap or_number_fault (text_reads s i)

-- 8. Its bytes.

pub list_all-more : (p q : ℕ → Bool) → ((x : ℕ) → p x ≡ true → q x ≡ true) → (xs : List ℕ) → list_all p xs ≡ true
    → list_all q xs ≡ true
list_all-more p q h [] e = refl
list_all-more p q h (x ∷ xs) e = let parts = and_parts (p x) _ e in rw (h x parts.0) (list_all-more p q h xs parts.1)

pub digit_byte : (c : ℕ) → is_digit c 16 ≡ true → is_sid_byte c ≡ true
digit_byte c e = grind (arith, nat_tests)

pub digits_16 : (c : ℕ) → is_digit c 10 ≡ true → is_digit c 16 ≡ true
digits_16 c e = grind (arith, nat_tests)

decimal_bytes : (n : ℕ) → n < 2 ^ 32 → list_all is_sid_byte (decimal n) ≡ true
decimal_bytes n small =
    list_all-more (λ b. is_digit b 10) is_sid_byte (λ c e. digit_byte c (digits_16 c e)) (decimal n)
    (decimal_digits n small)

pub joined_bytes : (xs ys : List ℕ) → list_all is_sid_byte xs ≡ true → list_all is_sid_byte ys ≡ true
    → list_all is_sid_byte (xs ++ ys) ≡ true
joined_bytes xs ys e f = list_all-append is_sid_byte xs ys ∙ rw (e, f) refl

authority_bytes : (a : ℕ) → list_all is_sid_byte (authority_text a) ≡ true
authority_bytes a = by_size (nat_lt a (2 ^ 32)) refl
  where
    by_size : (b : Bool) → nat_lt a (2 ^ 32) ≡ b → list_all is_sid_byte (sized_text b a) ≡ true
    by_size true e = decimal_bytes a (grind (arith, nat_tests))
    by_size false e = list_all-more (λ b. is_digit b 16) is_sid_byte digit_byte (hex_digits 12 a) (hex_all 12 a)

subs_bytes : (ns : List ℕ) → AreWords ns → list_all is_sid_byte (flat_map sub_text ns) ≡ true
subs_bytes [] h = refl
subs_bytes (n ∷ ns) h = joined_bytes (decimal n) (flat_map sub_text ns) (decimal_bytes n (h 0))
    (subs_bytes ns (AreWords-rest n ns h))

pub sid_text-bytes : (s : SecurityId) → IsSid s → list_all is_sid_byte (sid_text s) ≡ true
sid_text-bytes s i = joined_bytes (authority_text s.authority) (flat_map sub_text s.subs) (authority_bytes s.authority)
    (subs_bytes s.subs i.subs)
