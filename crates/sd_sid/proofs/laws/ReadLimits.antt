-- What a text reads as keeps the limits of SIDs.
use Rattle.std.proofs.Common.{◌≡◌, ◌≤◌, ◌<◌, ℕ, zero, suc, ◌+◌, ◌^◌, Bool, true, false, ◌&&◌, ◌||◌, List, [], ◌∷◌}
use Rattle.std.proofs.Common.{◌++◌, length, take, drop, slice_index, Option, Some, None, IfSome, Result, Ok, Err, IfOk}
use Rattle.std.proofs.Common.{refl, ap, subst, arith, length-append}
use Rattle.std.specs.Prelude.{◌==◌, nat_lt, nat_le, if◌then◌else◌}
use Rattle.std.specs.Char.{to_ascii_uppercase}
use Rattle.std.specs.List.{find, list_all}
use Rattle.std.specs.Option.{option_and_then, option_map}
use Rattle.std.proofs.lemmas.Bool.Decides.{nat_tests}
use Rattle.sd_sid.specs.Sid.{AreWords, IsSid, SecurityId}
use Rattle.sd_sid.specs.SidText.{decimals_read, are_letters, are_numbers, are_subs, authority_reads, begins_with_s1}
use Rattle.sd_alias.specs.Names.{known_named, relative_named}
use Rattle.sd_sid.specs.SidText.{decimal_reads, has_form, is_decimal, is_hex, known_sid, letters_read}
use Rattle.sd_sid.specs.SidText.{name_reads, numbers_read, or_number_fault, cut_at_dashes, sid_in}
use Rattle.sd_sid.specs.SidText.{sid_of_numbers, sid_reads, usable}
use Rattle.sd_text.specs.Numbers.{number_after, number as number_below}
use Rattle.sd_text.specs.Cuts.{Cuts}
use Rattle.sd_alias.specs.declared.table.WellKnown.{WellKnown}
use Rattle.sd_alias.specs.declared.table.DomainRelative.{DomainRelative}
use Rattle.sd_alias.specs.declared.table.TheConstants.{WELL_KNOWN, DOMAIN_RELATIVE}
use Rattle.sd_sid.specs.declared.sid_text.SidFault.{SidFault}
use Rattle.sd_sid.specs.declared.sid_text.SidFault.TheVariants as faults
use Rattle.std.proofs.lemmas.Bool.{and_parts}
use Rattle.sd_text.proofs.laws.Tables.{find-passes}
use Rattle.sd_sid.proofs.laws.TextLaws.{AreWords-rest}

-- what holds of each entry of a table holds of the one that is found
found : {X : Type 0} (p q : X → Bool) (xs : List X) → list_all q xs ≡ true → IfSome (find p xs) (λ x. q x ≡ true)
found {X} p q xs all = by_found (find p xs) refl
  where
    by_found : (o : Option X) → find p xs ≡ o → IfSome o (λ x. q x ≡ true)
    by_found None e = tt
    by_found (Some x) e = (find-passes p q xs x e all).1

-- 1. Numbers.

below : (limit : ℕ) (o : Option ℕ)
    → IfSome (option_and_then (λ n. if nat_lt n limit then Some n else None) o) (λ n. n < limit)
below limit None = tt
below limit (Some n) = by_test (nat_lt n limit) refl
  where
    by_test : (b : Bool) → nat_lt n limit ≡ b → IfSome (if b then Some n else None) (λ m. m < limit)
    by_test true e = grind (arith, nat_tests)
    by_test false e = tt

number-limit : (base limit : ℕ) (text : List ℕ) → IfSome (number_below base limit text) (λ n. n < limit)
number-limit base limit text = below limit (number_after base 0 text)

decimal-limit : (text : List ℕ) → IfSome (decimal_reads text) (λ n. n < 2 ^ 32)
decimal-limit text = by_test (nat_le (length text) 10)
  where
    by_test : (b : Bool) → IfSome (if b then number_below 10 (2 ^ 32) text else None) (λ n. n < 2 ^ 32)
    by_test true = number-limit 10 (2 ^ 32) text
    by_test false = tt

larger : (o : Option ℕ) → IfSome o (λ n. n < 2 ^ 32) → IfSome o (λ n. n < 2 ^ 48)
larger None h = tt
larger (Some n) h = omega arith

authority-limit : (text : List ℕ) → IfSome (authority_reads text) (λ n. n < 2 ^ 48)
authority-limit text = by_test (is_hex text)
  where
    by_test : (b : Bool) → IfSome (if b then number_below 16 (2 ^ 48) (drop 2 text) else decimal_reads text)
        (λ n. n < 2 ^ 48)
    by_test true = number-limit 16 (2 ^ 48) (drop 2 text)
    by_test false = larger (decimal_reads text) (decimal-limit text)

-- 2. SIDs.

no_words : AreWords []
no_words i = omega arith

words-more : (n : ℕ) (ns : List ℕ) → n < 2 ^ 32 → AreWords ns → AreWords (n ∷ ns)
words-more n ns small h zero = small
words-more n ns small h (suc i) = h i

words-push : (ns : List ℕ) (n : ℕ) → AreWords ns → n < 2 ^ 32 → AreWords (ns ++ n ∷ [])
words-push [] n h small = words-more n [] small no_words
words-push (m ∷ ns) n h small = words-more m (ns ++ n ∷ []) (h 0) (words-push ns n (AreWords-rest m ns h) small)

tested-words : (ns : List ℕ) → list_all (λ n. nat_lt n (2 ^ 32)) ns ≡ true → AreWords ns
tested-words [] e = no_words
tested-words (n ∷ ns) e =
    let parts = and_parts (nat_lt n (2 ^ 32)) _ e in
    let small : n < 2 ^ 32 = let t = parts.0 in grind (arith, nat_tests) in
    words-more n ns small (tested-words ns parts.1)

-- as many numbers as texts
AreRead : ℕ → List ℕ → Type 0
AreRead count ns = (length ns ≡ count) × AreWords ns

all-limits : (texts : List (List ℕ)) → IfSome (decimals_read texts) (AreRead (length texts))
unfolding AreRead
all-limits [] = (refl, no_words)
all-limits (t ∷ ts) = joined (decimal_reads t) (decimals_read ts) (decimal-limit t) (all-limits ts)
  where
    joined : (o : Option ℕ) (p : Option (List ℕ)) → IfSome o (λ n. n < 2 ^ 32) → IfSome p (AreRead (length ts))
        → IfSome (option_and_then (λ n. option_map (λ ns. n ∷ ns) p) o) (AreRead (length (t ∷ ts)))
    joined None p h k = tt
    joined (Some n) None h k = tt
    joined (Some n) (Some ns) h k = (ap suc k.0, words-more n ns h k.1)

numbers-limits : (p : Cuts) → length p.others ≤ 15 → IfSome (numbers_read p) IsSid
unfolding numbers_read AreRead
numbers-limits p few = joined (authority_reads p.first) (decimals_read p.others) (authority-limit p.first)
    (all-limits p.others)
  where
    joined : (o : Option ℕ) (q : Option (List ℕ)) → IfSome o (λ n. n < 2 ^ 48) → IfSome q (AreRead (length p.others))
        → IfSome (sid_of_numbers o q) IsSid
    joined None q h k = tt
    joined (Some a) None h k = tt
    joined (Some a) (Some ns) h k = let count = k.0 in record { authority = h; count = omega arith; subs = k.1 }

-- the limits of an entry
known_fits : WellKnown → Bool
known_fits e = nat_lt e.authority
    (2 ^ 48) && (nat_le (length (take e.count e.subs)) 15 && list_all (λ n. nat_lt n (2 ^ 32)) (take e.count e.subs))

known_all : list_all known_fits WELL_KNOWN ≡ true
unfolding known_fits
known_all = refl

relative_all : list_all (λ e. nat_lt e.last (2 ^ 32)) DOMAIN_RELATIVE ≡ true
relative_all = refl

known-limits : (e : WellKnown) → known_fits e ≡ true → IsSid (known_sid e)
unfolding known_fits
known-limits e h =
    let first = and_parts (nat_lt e.authority (2 ^ 48)) _ h in
    let second = and_parts (nat_le (length (take e.count e.subs)) 15) _ first.1 in
    let small : e.authority < 2 ^ 48 = let t = first.0 in grind (arith, nat_tests) in
    let few : length (take e.count e.subs) ≤ 15 = let t = second.0 in grind (arith, nat_tests) in
    record { authority = small; count = few; subs = tested-words (take e.count e.subs) second.1 }

-- a domain with room for one sub-authority more
HasUsableSid : SecurityId → Type 0
HasUsableSid d = IsSid d × (length d.subs < 15)

usable-limits : (domain : Option SecurityId) → IfSome domain IsSid → IfSome (usable domain) HasUsableSid
unfolding HasUsableSid
usable-limits None h = tt
usable-limits (Some d) h = by_test (nat_lt (length d.subs) 15) refl
  where
    by_test : (b : Bool) → nat_lt (length d.subs) 15 ≡ b → IfSome (if b then Some d else None) HasUsableSid
    by_test true e = (h, grind (arith, nat_tests))
    by_test false e = tt

relative-limits : (d : SecurityId) (e : DomainRelative) → HasUsableSid d → nat_lt e.last (2 ^ 32) ≡ true
    → IsSid (sid_in d e)
unfolding HasUsableSid
relative-limits d e h t =
    let small : e.last < 2 ^ 32 = grind (arith, nat_tests) in
    let room = h.1 in
    record {
      authority = h.0.authority;
      count = omega (arith, length-append d.subs (e.last ∷ []), room);
      subs = words-push d.subs e.last h.0.subs small;
    }

letters-limits : (a b : ℕ) (domain : Option SecurityId) → IfSome domain IsSid → IfOk (letters_read a b domain) IsSid
unfolding letters_read
letters-limits a b domain h =
    by_known (known_named a b) (relative_named a b) (usable domain)
    (found (λ e. e.first == to_ascii_uppercase a && e.second == to_ascii_uppercase b) known_fits WELL_KNOWN known_all)
    (found (λ e. e.first == to_ascii_uppercase a && e.second == to_ascii_uppercase b) (λ e. nat_lt e.last (2 ^ 32))
    DOMAIN_RELATIVE relative_all)
    (usable-limits domain h)
  where
    by_known : (o : Option WellKnown) (r : Option DomainRelative) (u : Option SecurityId)
        → IfSome o (λ e. known_fits e ≡ true) → IfSome r (λ e. nat_lt e.last (2 ^ 32) ≡ true) → IfSome u HasUsableSid
        → IfOk (name_reads o r u) IsSid
    by_known (Some e) r u k l m = known-limits e k
    by_known None (Some e) None k l m = tt
    by_known None (Some e) (Some d) k l m = relative-limits d e m l
    by_known None None u k l m = tt

-- a text of the form has at most 15 sub-authorities
pub form-few : (text : List ℕ) → has_form text ≡ true → length (cut_at_dashes (drop 4 text)).others ≤ 15
unfolding has_form
form-few text e =
    let p = cut_at_dashes (drop 4 text) in
    let numbers = (and_parts (nat_le (length text) 183 && begins_with_s1 text) (are_numbers p) e).1 in
    let subs = (and_parts (is_hex p.first || is_decimal p.first) (are_subs 0 p.others) numbers).1 in
    let few = (and_parts (nat_le (0 + length p.others) 15) _ subs).0 in
    grind (arith, nat_tests)

text-limits : (text : List ℕ) (domain : Option SecurityId) → IfSome domain IsSid → IfOk (sid_reads text domain) IsSid
unfolding sid_reads
text-limits text domain h =
    by_letters (are_letters text) (has_form text) (letters-limits (slice_index text 0) (slice_index text 1) domain h)
    (λ e. numbers (numbers_read (cut_at_dashes (drop 4 text)))
    (numbers-limits (cut_at_dashes (drop 4 text)) (form-few text e)))
  where
    numbers : (o : Option SecurityId) → IfSome o IsSid → IfOk (or_number_fault o) IsSid
    numbers None k = tt
    numbers (Some s) k = k

    by_letters : (t f : Bool) → IfOk (letters_read (slice_index text 0) (slice_index text 1) domain) IsSid
        → (f ≡ true → IfOk (or_number_fault (numbers_read (cut_at_dashes (drop 4 text)))) IsSid)
        → IfOk (if t then letters_read (slice_index text 0) (slice_index text 1)
        domain else (if f then or_number_fault (numbers_read (cut_at_dashes (drop 4 text)))
        else Err faults.SidForm)) IsSid
    by_letters true f k l = k
    by_letters false true k l = l refl
    by_letters false false k l = tt

-- under a SID of a domain, or none
pub sid-limits : (text : List ℕ) (domain : Option SecurityId) (s : SecurityId) → IfSome domain IsSid
    → sid_reads text domain ≡ Ok s → IsSid s
sid-limits text domain s h e = subst (λ (x : Result SecurityId SidFault). IfOk x IsSid) e (text-limits text domain h)
