-- What reads as a kind, as flags or as access rights consists of letters and digits, and is not too long: so no byte in
-- it ends a field.
use Rattle.std.proofs.Common.{get_or, ◌<◌, ◌∙◌, true≢false, ◌≡◌, ℕ, ◌^◌, ◌≤◌, Bool, true, false, ◌&&◌, ◌||◌, List, []}
use Rattle.std.proofs.Common.{◌∷◌, length, map, Option, Some, None, refl, ap, sym, subst, arith, cond, take, ◌+◌}
use Rattle.std.specs.Option.{option_map}
use Rattle.std.specs.Prelude.{slice_index, suc, ◌==◌, nat_le, nat_lt, if◌then◌else◌, IfSome}
use Rattle.std.specs.Char.{is_digit, to_ascii_lowercase, to_ascii_uppercase}
use Rattle.std.specs.Cmp.Lexicographic.{same_text}
use Rattle.std.specs.List.{list_all, prefix_len}
use Rattle.std.specs.Str.{str_eq_ignore_ascii_case}
use Rattle.std.specs.Str.Parse.{digits_value}
use Rattle.std.proofs.lemmas.Bool.Decides.{nat_tests}
use Rattle.sd_kinds.specs.Flags.{flags_reads}
use Rattle.sd_kinds.specs.Kinds.{kind_letters, is_object}
use Rattle.sd_text.specs.Names.{bits_named, joined, run_of}
use Rattle.sd_rights.specs.Rights.{after_zero, all_rights, mask_reads, rights_reads, short_rights_reads}
use Rattle.sd_kinds.specs.declared.flags.TheConstants.{FLAGS}
use Rattle.sd_kinds.specs.declared.kinds.AceKind.{AceKind}
use Rattle.sd_text.specs.declared.names.NamedBits.{NamedBits}
use Rattle.std.proofs.lemmas.Bool.{and_parts}
use Rattle.sd_kinds.proofs.laws.KindLaws.{kind_named-some, letters-few, letters-pass}
use Rattle.sd_ace.specs.GuidText.{guid_reads}
use Rattle.sd_sid.specs.SidText.{is_sid_byte, sid_front}
use Rattle.sd_sid.proofs.laws.TextLaws.{list_all-more}
use Rattle.uuid.specs.Text.{by_index, byte_of_digits, digit_place, digits_of, has_hyphens, hyphen_place, is_hex_digit}
use Rattle.uuid.specs.Text.{is_hyphen_place, parsed_hyphenated}
use Rattle.uuid.proofs.TextLemmas.{by_index_at, by_index_length}
use Rattle.std.proofs.lemmas.List.Folds.{list_all_at}
use Rattle.sd_sddl_fields.specs.FieldTexts.{kind_reads, object_reads}
use Rattle.sd_sddl_fields.specs.Held.{is_plain_inside}
use Rattle.sd_sddl_fields.specs.FieldFronts.{IsWhole}

-- 1. Bytes.

-- letters, and a digit
plain-letter : (b : ℕ) → 60 ≤ b → is_plain_inside b ≡ true
plain-letter b least = grind (arith, nat_tests)

plain-digit : (b : ℕ) → 48 ≤ b → b ≤ 57 → is_plain_inside b ≡ true
plain-digit b least most = grind (arith, nat_tests)

digit-plain : (b base : ℕ) → base ≤ 36 → is_digit b base ≡ true → is_plain_inside b ≡ true
digit-plain b base most is = by_first (nat_lt b 48) refl
  where
    none : nat_lt 36 base ≡ true → is_plain_inside b ≡ true
    none e = absurd (grind (arith, nat_tests))

    by_third : (x : Bool) → nat_lt b 65 ≡ x → nat_lt b 48 ≡ false → nat_lt b 58 ≡ false → is_plain_inside b ≡ true
    by_third true e first second = none (rw (first, second, e) at is)
    by_third false e first second = plain-letter b (grind (arith, nat_tests))

    by_second : (x : Bool) → nat_lt b 58 ≡ x → nat_lt b 48 ≡ false → is_plain_inside b ≡ true
    by_second true e first = plain-digit b (grind (arith, nat_tests)) (grind (arith, nat_tests))
    by_second false e first = by_third (nat_lt b 65) refl first e

    by_first : (x : Bool) → nat_lt b 48 ≡ x → is_plain_inside b ≡ true
    by_first true e = none (rw e at is)
    by_first false e = by_second (nat_lt b 58) refl e

digits-plain : (base : ℕ) (text : List ℕ) → base ≤ 36 → list_all (λ c. is_digit c base) text ≡ true
    → list_all is_plain_inside text ≡ true
digits-plain base [] most all = refl
digits-plain base (b ∷ bs) most all =
    let parts = and_parts (is_digit b base) _ all in
    rw (digit-plain b base most parts.0) (digits-plain base bs most parts.1)

-- 2. Kinds.

lower-least : (b : ℕ) → 97 ≤ to_ascii_lowercase b → 60 ≤ b
lower-least b least = grind (arith, nat_tests)

-- a text that letters spell in either case
spelled : (letters text : List ℕ) → map to_ascii_lowercase letters ≡ map to_ascii_lowercase text
    → list_all (λ b. nat_le 97 (to_ascii_lowercase b)) letters ≡ true
    → (list_all is_plain_inside text ≡ true) × (length text ≡ length letters)
spelled [] [] is all = (refl, refl)
spelled [] (b ∷ bs) is all = absurd cc
spelled (a ∷ others) [] is all = absurd cc
spelled (a ∷ others) (b ∷ bs) is all =
    let parts = and_parts (nat_le 97 (to_ascii_lowercase a)) _ all in
    let first : to_ascii_lowercase a ≡ to_ascii_lowercase b = cc in
    let next : map to_ascii_lowercase others ≡ map to_ascii_lowercase bs = cc in
    let rest = spelled others bs next parts.1 in
    let least : 97 ≤ to_ascii_lowercase a = (let h = parts.0 in grind (arith, nat_tests)) in
    let plain = plain-letter b (lower-least b (rw first at least)) in
    (rw plain rest.0, ap (λ n. suc n) rest.1)

are_low : List ℕ → Bool
are_low letters = list_all (λ b. nat_le 97 (to_ascii_lowercase b)) letters

letters-low : (k : AceKind) → list_all (λ b. nat_le 97 (to_ascii_lowercase b)) (kind_letters k) ≡ true
unfolding are_low
letters-low k = letters-pass are_low refl k

-- 3. Names of two letters.

is_lettered : NamedBits → Bool
is_lettered e = nat_le 60 e.first && nat_le 60 e.second

upper-least : (a b : ℕ) → nat_le 60 a ≡ true → (a == to_ascii_uppercase b) ≡ true → is_plain_inside b ≡ true
upper-least a b least is = plain-letter b (grind (arith, nat_tests))

named-plain : (table : List NamedBits) → list_all is_lettered table ≡ true → (a b n : ℕ) → bits_named table a b ≡ Some n
    → (is_plain_inside a ≡ true) × (is_plain_inside b ≡ true)
unfolding is_lettered
named-plain [] all a b n is = absurd cc
named-plain (e ∷ es) all a b n is =
    let parts = and_parts (is_lettered e) _ all in
    let least = and_parts (nat_le 60 e.first) (nat_le 60 e.second) parts.0 in
    by_test (e.first == to_ascii_uppercase a && e.second == to_ascii_uppercase b) refl least.0 least.1
    (λ h. named-plain es parts.1 a b n h) is
  where
    by_test : (x : Bool) → (e.first == to_ascii_uppercase a && e.second == to_ascii_uppercase b) ≡ x
        → nat_le 60 e.first ≡ true → nat_le 60 e.second ≡ true
        → (bits_named es a b ≡ Some n → (is_plain_inside a ≡ true) × (is_plain_inside b ≡ true))
        → (if x then Some e.bits else bits_named es a b) ≡ Some n
        → (is_plain_inside a ≡ true) × (is_plain_inside b ≡ true)
    by_test true f first second later g =
        let same = and_parts (e.first == to_ascii_uppercase a) _ f in
        (upper-least e.first a first same.0, upper-least e.second b second same.1)
    by_test false f first second later g = later g

run-plain : (table : List NamedBits) → list_all is_lettered table ≡ true → (text : List ℕ) (n : ℕ)
    → run_of table text ≡ Some n → list_all is_plain_inside text ≡ true
unfolding run_of
run-plain table all [] n is = refl
run-plain table all (a ∷ []) n is = absurd cc
run-plain table all (a ∷ b ∷ rest) n is =
    by_name (bits_named table a b) (run_of table rest) refl refl (λ k f. run-plain table all rest k f) is
  where
    by_name : (x y : Option ℕ) → bits_named table a b ≡ x → run_of table rest ≡ y
        → ((k : ℕ) → run_of table rest ≡ Some k → list_all is_plain_inside rest ≡ true) → joined x y ≡ Some n
        → list_all is_plain_inside (a ∷ b ∷ rest) ≡ true
    by_name None y e f later g = absurd cc
    by_name (Some m) None e f later g = absurd cc
    by_name (Some m) (Some k) e f later g =
        let name = named-plain table all a b m e in
        rw (name.0, name.1) (later k f)

flags-letters : list_all is_lettered FLAGS ≡ true
unfolding is_lettered
flags-letters = refl

rights-letters : list_all is_lettered all_rights ≡ true
unfolding is_lettered
rights-letters = refl

-- 4. Access rights.

number-plain : (base : ℕ) (text : List ℕ) (n : ℕ) → base ≤ 36 → mask_reads base text ≡ Some n
    → list_all is_plain_inside text ≡ true
number-plain base text n most is =
    by_test (nat_lt 0 (length text)) (list_all (λ c. is_digit c base) text) (nat_lt (digits_value base text) (2 ^ 32))
    refl is
  where
    by_test : (some all below : Bool) → list_all (λ c. is_digit c base) text ≡ all
        → (if (some && all) && below then Some (digits_value base text) else None) ≡ Some n
        → list_all is_plain_inside text ≡ true
    by_test some true below e f = digits-plain base text most e
    by_test true false below e f = absurd cc
    by_test false false below e f = absurd cc

after-zero-plain : (text : List ℕ) (n : ℕ) → after_zero text ≡ Some n → list_all is_plain_inside text ≡ true
after-zero-plain [] n is = refl
after-zero-plain (c ∷ cs) n is = by_test (c == 120 || c == 88) refl is
  where
    by_test : (x : Bool) → (c == 120 || c == 88) ≡ x → (if x then mask_reads 16 cs else mask_reads 8 (c ∷ cs)) ≡ Some n
        → list_all is_plain_inside (c ∷ cs) ≡ true
    by_test true e f = rw (plain-letter c (grind (arith, nat_tests))) (number-plain 16 cs n (omega arith) f)
    by_test false e f = number-plain 8 (c ∷ cs) n (omega arith) f

short-plain : (text : List ℕ) (n : ℕ) → short_rights_reads text ≡ Some n → list_all is_plain_inside text ≡ true
short-plain [] n is = refl
short-plain (c ∷ cs) n is = by_test (is_digit c 10) (c == 48) refl refl is
  where
    by_test : (d z : Bool) → is_digit c 10 ≡ d → (c == 48) ≡ z
        → (if d then (if z then after_zero cs else mask_reads 10 (c ∷ cs)) else run_of all_rights (c ∷ cs)) ≡ Some n
        → list_all is_plain_inside (c ∷ cs) ≡ true
    by_test true true d z f = rw (digit-plain c 10 (omega arith) d) (after-zero-plain cs n f)
    by_test true false d z f = number-plain 10 (c ∷ cs) n (omega arith) f
    by_test false z d e f = run-plain all_rights rights-letters (c ∷ cs) n f

-- 5. What reads is whole.

short-enough : {A : Type 0} (text : List ℕ) (o : Option A) (x : A)
    → (if nat_lt 183 (length text) then None else o) ≡ Some x
    → (o ≡ Some x) × (length text ≤ 183)
short-enough text o x is = by_test (nat_lt 183 (length text)) refl is
  where
    by_test : (b : Bool) → nat_lt 183 (length text) ≡ b → (if b then None else o) ≡ Some x
        → (o ≡ Some x) × (length text ≤ 183)
    by_test true e f = absurd cc
    by_test false e f = (f, grind (arith, nat_tests))

pub flags-whole : (text : List ℕ) (flags : ℕ) → flags_reads text ≡ Some flags → IsWhole text
unfolding flags_reads
flags-whole text flags is =
    let short = short-enough text (run_of FLAGS text) flags is in
    record { plain = run-plain FLAGS flags-letters text flags short.0; fits = short.1 }

pub rights-whole : (text : List ℕ) (mask : ℕ) → rights_reads text ≡ Some mask → IsWhole text
unfolding rights_reads
rights-whole text mask is =
    let short = short-enough text (short_rights_reads text) mask is in
    record { plain = short-plain text mask short.0; fits = short.1 }

pub kind-whole : (text : List ℕ) (kind : AceKind) → kind_reads text ≡ Some kind → IsWhole text
unfolding kind_reads
kind-whole text kind is =
    let same = subst (λ (o : Option AceKind). IfSome o (λ k. str_eq_ignore_ascii_case (kind_letters k) text ≡ true)) is
    (kind_named-some text) in
    let texts = same_text (map to_ascii_lowercase (kind_letters kind)) (map to_ascii_lowercase text) (sym same) in
    let read = spelled (kind_letters kind) text texts (letters-low kind) in
    let few = letters-few kind in
    record { plain = read.0; fits = omega (arith, read.1, few.1) }

-- 6. GUIDs.

hex-plain : (c : ℕ) → is_hex_digit c ≡ true → is_plain_inside c ≡ true
hex-plain c is = grind (arith, nat_tests)

all-by-place : (p : ℕ → Bool) (xs : List ℕ) → ((k : ℕ) → k < length xs → p (get_or xs k 0) ≡ true)
    → list_all p xs ≡ true
all-by-place p [] h = refl
all-by-place p (x ∷ xs) h =
    rw (h 0 (omega arith)) (all-by-place p xs (λ k l. h (suc k) (omega arith)))

at-place : (p : ℕ → Bool) (xs : List ℕ) (k : ℕ) → k < length xs → list_all p xs ≡ true → p (get_or xs k 0) ≡ true
at-place p xs k within all = by_test (p (get_or xs k 0)) refl
  where
    by_test : (b : Bool) → p (get_or xs k 0) ≡ b → p (get_or xs k 0) ≡ true
    by_test true e = e
    by_test false e = absurd (true≢false (sym all ∙ list_all_at p xs k 0 within e))

module _ (s : List ℕ) (hyphens : has_hyphens s ≡ true) (digits : list_all is_hex_digit (digits_of s) ≡ true) where
  digit-at : (i : ℕ) → i < 32 → is_plain_inside (get_or s (hyphen_place i) 0) ≡ true
  digit-at i within =
      let long : length (digits_of s) ≡ 32 = by_index_length 32 _ in
      let digit : is_hex_digit (get_or (digits_of s) i 0) ≡ true =
      at-place is_hex_digit (digits_of s) i (omega (arith, long)) digits in
      hex-plain (get_or s (hyphen_place i) 0)
      (rw (by_index_at 32 (λ j. slice_index s (hyphen_place j)) i 0 within) at digit)

  is-hyphen : (k n : ℕ) → (k == n) ≡ true → (slice_index s n == 45) ≡ true → is_plain_inside (get_or s k 0) ≡ true
  is-hyphen k n here hyphen =
      let at : k ≡ n = grind (arith, nat_tests) in
      let is : get_or s n 0 ≡ 45 = grind (arith, nat_tests) in
      rw (at, is) refl

  hyphen-at : (k : ℕ) → is_hyphen_place k ≡ true → is_plain_inside (get_or s k 0) ≡ true
  hyphen-at k is =
      let four = and_parts _ (slice_index s 23 == 45) hyphens in
      let three = and_parts _ (slice_index s 18 == 45) four.0 in
      let two = and_parts (slice_index s 8 == 45) (slice_index s 13 == 45) three.0 in
      by_place two.0 two.1 three.1 four.1 (k == 8) (k == 13) (k == 18) (k == 23) refl refl refl refl
    where
      by_place : (slice_index s 8 == 45) ≡ true → (slice_index s 13 == 45) ≡ true → (slice_index s 18 == 45) ≡ true
          → (slice_index s 23 == 45) ≡ true
          → (a b c d : Bool) → (k == 8) ≡ a → (k == 13) ≡ b → (k == 18) ≡ c → (k == 23) ≡ d
          → is_plain_inside (get_or s k 0) ≡ true
      by_place p q r t true b c d e f g h = is-hyphen k 8 e p
      by_place p q r t false true c d e f g h = is-hyphen k 13 f q
      by_place p q r t false false true d e f g h = is-hyphen k 18 g r
      by_place p q r t false false false true e f g h = is-hyphen k 23 h t
      by_place p q r t false false false false e f g h =
          absurd (let no : false ≡ true = (rw (e, f, g, h) at is) in cc)

  plain-at : (k : ℕ) → k < 36 → is_plain_inside (get_or s k 0) ≡ true
  plain-at k within = by_hyphen (is_hyphen_place k) refl
    where
      by_hyphen : (b : Bool) → is_hyphen_place k ≡ b → is_plain_inside (get_or s k 0) ≡ true
      by_hyphen true e = hyphen-at k e
      by_hyphen false e =
          let back : hyphen_place (digit_place k) ≡ k = grind (arith, nat_tests) in
          rw back at (digit-at (digit_place k) (grind (arith, nat_tests)))

no-digits : {g : List ℕ} (x : Bool) (v : List ℕ) → (if x && false then Some v else None) ≡ Some g → ⊥
no-digits true v e = absurd cc
no-digits false v e = absurd cc

guid-plain : (s g : List ℕ) → parsed_hyphenated s ≡ Some g → (list_all is_plain_inside s ≡ true) × (length s ≡ 36)
guid-plain s g is = by_test (length s == 36) (has_hyphens s) (list_all is_hex_digit (digits_of s)) refl refl refl is
  where
    by_test : (l h d : Bool) → (length s == 36) ≡ l → has_hyphens s ≡ h → list_all is_hex_digit (digits_of s) ≡ d
        → (if l && h then (if (length (digits_of s) == 32) && d
        then Some (by_index 16 (byte_of_digits (digits_of s))) else None) else None) ≡ Some g
        → (list_all is_plain_inside s ≡ true) × (length s ≡ 36)
    by_test true true true l h d e =
        let size : length s ≡ 36 = grind (arith, nat_tests) in
        (all-by-place is_plain_inside s (λ k within. plain-at s h d k (omega (arith, size))), size)
    by_test true true false l h d e = absurd (no-digits (length (digits_of s) == 32) _ e)
    by_test true false d l h f e = absurd cc
    by_test false h d l k f e = absurd cc

pub object-whole : (kind : AceKind) (text : List ℕ) (object : Option (List ℕ)) → object_reads kind text ≡ Some object
    → IsWhole text
unfolding object_reads guid_reads
object-whole kind [] object is = record { plain = refl; fits = omega arith }
object-whole kind (b ∷ bs) object is = by_test (is_object kind) (parsed_hyphenated (b ∷ bs)) refl is
  where
    by_test : (o : Bool) (x : Option (List ℕ)) → parsed_hyphenated (b ∷ bs) ≡ x
        → (if o then option_map (λ guid. Some guid) x else None) ≡ Some object → IsWhole (b ∷ bs)
    by_test true (Some g) e f =
        let found = guid-plain (b ∷ bs) g e in
        record { plain = found.0; fits = omega (arith, found.1) }
    by_test true None e f = absurd cc
    by_test false x e f = absurd cc

-- 7. SIDs.

sid-byte-plain : (b : ℕ) → is_sid_byte b ≡ true → is_plain_inside b ≡ true
sid-byte-plain b is = grind (arith, nat_tests)

-- the text of a SID
pub sid-bytes-plain : (text : List ℕ) → list_all is_sid_byte text ≡ true → list_all is_plain_inside text ≡ true
sid-bytes-plain text all = list_all-more is_sid_byte is_plain_inside sid-byte-plain text all

sid-front-plain : (text : List ℕ) → list_all is_plain_inside (sid_front text) ≡ true
sid-front-plain [] = refl
sid-front-plain (b ∷ bs) = by_test (is_sid_byte b) refl (sid-front-plain bs)
  where
    by_test : (x : Bool) → is_sid_byte b ≡ x → list_all is_plain_inside (sid_front bs) ≡ true
        → list_all is_plain_inside (take (cond x (1 + prefix_len is_sid_byte bs) 0) (b ∷ bs)) ≡ true
    by_test false e later = refl
    by_test true e later =
        let one : 1 + prefix_len is_sid_byte bs ≡ suc (prefix_len is_sid_byte bs) = omega arith in
        rw (one, sid-byte-plain b e) later

-- the text of a SID at the front
pub sid-front-whole : (text : List ℕ) (size : ℕ) → size ≡ length (sid_front text) → size ≤ 183
    → IsWhole (sid_front text)
sid-front-whole text size is fits = record { plain = sid-front-plain text; fits = omega (arith, is) }
