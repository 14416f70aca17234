-- What an alias reads as, and that no SID has two aliases.
use Rattle.std.proofs.Common.{◌≡◌, ℕ, Bool, true, false, ◌&&◌, List, [], ◌∷◌, ◌++◌, take, drop, Option}
use Rattle.std.proofs.Common.{Some, None, IfSome, subst, Ok, Err, refl, sym, ap, ◌∙◌, arith, true≢false}
use Rattle.std.specs.Prelude.{◌==◌, not, if◌then◌else◌}
use Rattle.std.specs.Cmp.Lexicographic.{same_text}
use Rattle.std.specs.Char.{is_ascii_alphabetic, is_ascii_uppercase, to_ascii_uppercase}
use Rattle.std.specs.List.{find, list_all}
use Rattle.std.specs.Option.{option_and_then, option_map, option_or}
use Rattle.std.specs.Str.{bytes_eq}
use Rattle.std.proofs.lemmas.Bool.Decides.{nat_tests}
use Rattle.std.proofs.lemmas.Slice.Eq.{bytes_eq-Decides}
use Rattle.sd_text.proofs.laws.Tables.{find-passes}
use Rattle.std.proofs.lemmas.Bool.{and_parts}
use Rattle.sd_text.proofs.laws.Bools.{and-false}
use Rattle.sd_sid.proofs.AliasLemmas.{find-same, in_domain, relative-test}
use Rattle.sd_sid.specs.Sid.{SecurityId}
use Rattle.sd_alias.specs.declared.table.WellKnown.{WellKnown}
use Rattle.sd_alias.specs.declared.table.DomainRelative.{DomainRelative}
use Rattle.sd_alias.specs.declared.table.TheConstants.{WELL_KNOWN, DOMAIN_RELATIVE}
use Rattle.sd_sid.specs.declared.sid_text.SidFault.TheVariants as faults
use Rattle.sd_alias.specs.Names.{known_named, relative_named}
use Rattle.sd_sid.specs.SidText.{alias_of, has_form, known_alias, known_sid, letters_read, name_reads, numbers_read}
use Rattle.sd_sid.specs.SidText.{or_number_fault, cut_at_dashes, relative_alias, same_sid, sid_in, sid_reads, usable}

-- 1. Tests over the tables.

are_both_letters : ℕ → ℕ → Bool
are_both_letters a b = is_ascii_alphabetic a && is_ascii_alphabetic b

known_is : Option WellKnown → SecurityId → Bool
known_is None s = false
known_is (Some e) s = same_sid (known_sid e) s

last_is : Option WellKnown → Option DomainRelative → ℕ → Bool
last_is (Some k) other n = false
last_is None None n = false
last_is None (Some e) n = e.last == n

-- the letters of an entry name it
known_reads : WellKnown → Bool
known_reads e = are_both_letters e.first e.second && known_is (known_named e.first e.second) (known_sid e)

relative_is_read : DomainRelative → Bool
relative_is_read e = are_both_letters e.first e.second && last_is (known_named e.first e.second)
    (relative_named e.first e.second) e.last

known_all : list_all known_reads WELL_KNOWN ≡ true
unfolding known_reads are_both_letters known_is
known_all = refl

relative_all : list_all relative_is_read DOMAIN_RELATIVE ≡ true
unfolding relative_is_read are_both_letters last_is
relative_all = refl

-- 2. The rule at an entry that was found.

pub same_sid-eq : (s t : SecurityId) → same_sid s t ≡ true → s ≡ t
same_sid-eq s t e =
    let parts = and_parts (s.authority == t.authority) _ e in
    let authority : s.authority ≡ t.authority = let h = parts.0 in grind (arith, nat_tests) in
    let subs : s.subs ≡ t.subs = same_text s.subs t.subs (sym parts.1) in
    ap (λ (a : ℕ). record { authority = a; subs = s.subs }) authority
    ∙ ap (λ (xs : List ℕ). record { authority = t.authority; subs = xs }) subs

same_sid-refl : (s : SecurityId) → same_sid s s ≡ true
same_sid-refl s =
    let subs = (bytes_eq-Decides s.subs s.subs).1 refl in
    rw subs grind (arith, nat_tests)

-- Which of two SIDs comes first makes no difference.
pub same_sid_comm : (s t : SecurityId) → same_sid s t ≡ same_sid t s
same_sid_comm s t = by_test (same_sid s t) (same_sid t s) refl refl
  where
    by_test : (b c : Bool) → same_sid s t ≡ b → same_sid t s ≡ c → b ≡ c
    by_test true true h k = refl
    by_test false false h k = refl
    by_test true false h k = absurd (true≢false (sym (same_sid-refl t) ∙ ap (same_sid t) (sym (same_sid-eq s t h)) ∙ k))
    by_test false true h k = absurd (true≢false (sym (same_sid-refl s) ∙ ap (same_sid s) (sym (same_sid-eq t s k)) ∙ h))

two_read : (a b : ℕ) (domain : Option SecurityId) → are_both_letters a b ≡ true
    → sid_reads (a ∷ b ∷ []) domain ≡ letters_read a b domain
unfolding sid_reads are_both_letters
two_read a b domain e =
    let text = a ∷ b ∷ [] in
    ap (λ (t : Bool). if t then letters_read a b
    domain else (if has_form text then or_number_fault (numbers_read (cut_at_dashes (drop 4 text))) else Err
    faults.SidForm)) e

known_result : (o : Option WellKnown) (r : Option DomainRelative) (d : Option SecurityId) (s : SecurityId)
    → known_is o s ≡ true → name_reads o r d ≡ Ok s
unfolding known_is
known_result None r d s e = absurd cc
known_result (Some k) r d s e = ap Ok (same_sid-eq (known_sid k) s e)

relative_result : (o : Option WellKnown) (r : Option DomainRelative) (e : DomainRelative) (d : SecurityId)
    → last_is o r e.last ≡ true → name_reads o r (Some d) ≡ Ok (sid_in d e)
unfolding last_is
relative_result (Some k) r e d h = absurd cc
relative_result None None e d h = absurd cc
relative_result None (Some f) e d h =
    let same : f.last ≡ e.last = grind (arith, nat_tests) in
    ap (λ (n : ℕ). Ok (record { authority = d.authority; subs = d.subs ++ n ∷ [] })) same

known-back : (s : SecurityId) (domain : Option SecurityId) (e : WellKnown)
    → find (λ k. same_sid (known_sid k) s) WELL_KNOWN ≡ Some e
    → sid_reads (e.first ∷ e.second ∷ []) domain ≡ Ok s
unfolding known_reads letters_read
known-back s domain e h =
    let passes = find-passes (λ k. same_sid (known_sid k) s) known_reads WELL_KNOWN e h known_all in
    let parts = and_parts (are_both_letters e.first e.second) _ passes.1 in
    two_read e.first e.second domain parts.0
    ∙ known_result (known_named e.first e.second) (relative_named e.first e.second) (usable domain)
    (known_sid e) parts.1
    ∙ ap Ok (same_sid-eq (known_sid e) s passes.0)

relative-back : (s d : SecurityId) (domain : Option SecurityId) (e : DomainRelative) → usable domain ≡ Some d
    → find (λ k. same_sid (sid_in d k) s) DOMAIN_RELATIVE ≡ Some e
    → sid_reads (e.first ∷ e.second ∷ []) domain ≡ Ok s
unfolding relative_is_read letters_read
relative-back s d domain e given h =
    let passes = find-passes (λ k. same_sid (sid_in d k) s) relative_is_read DOMAIN_RELATIVE e h relative_all in
    let parts = and_parts (are_both_letters e.first e.second) _ passes.1 in
    two_read e.first e.second domain parts.0
    ∙ ap (name_reads (known_named e.first e.second) (relative_named e.first e.second)) given
    ∙ relative_result (known_named e.first e.second) (relative_named e.first e.second) e d parts.1
    ∙ ap Ok (same_sid-eq (sid_in d e) s passes.0)

-- 3. An alias reads as the SID.

abbrev known_letters : Option WellKnown → Option (List ℕ)
known_letters o = option_map (λ e. e.first ∷ e.second ∷ []) o

abbrev relative_letters : Option DomainRelative → Option (List ℕ)
relative_letters o = option_map (λ e. e.first ∷ e.second ∷ []) o

-- what holds of each entry that may be found holds of the alias
alias_of-entry : (P : List ℕ → Type 0) (s : SecurityId) (domain : Option SecurityId)
    → ((e : WellKnown) → find (λ k. same_sid (known_sid k) s) WELL_KNOWN ≡ Some e → P (e.first ∷ e.second ∷ []))
    → ((d : SecurityId) (e : DomainRelative) → usable domain ≡ Some d
    → find (λ k. same_sid (sid_in d k) s) DOMAIN_RELATIVE ≡ Some e → P (e.first ∷ e.second ∷ []))
    → IfSome (alias_of s domain) P
unfolding alias_of
alias_of-entry P s domain known relative = by_known (find (λ k. same_sid (known_sid k) s) WELL_KNOWN) known
    (by_domain (usable domain) relative)
  where
    by_relative : (d : SecurityId) → (r : Option DomainRelative)
        → ((e : DomainRelative) → r ≡ Some e → P (e.first ∷ e.second ∷ [])) → IfSome (relative_letters r) P
    by_relative d None h = tt
    by_relative d (Some e) h = h e refl

    by_domain : (u : Option SecurityId)
        → ((d : SecurityId) (e : DomainRelative) → u ≡ Some d
        → find (λ k. same_sid (sid_in d k) s) DOMAIN_RELATIVE ≡ Some e → P (e.first ∷ e.second ∷ []))
        → IfSome (option_and_then (relative_alias s) u) P
    by_domain None h = tt
    by_domain (Some d) h = by_relative d (find (λ k. same_sid (sid_in d k) s) DOMAIN_RELATIVE) (λ e. h d e refl)

    by_known : (o : Option WellKnown) → ((e : WellKnown) → o ≡ Some e → P (e.first ∷ e.second ∷ []))
        → IfSome (option_and_then (relative_alias s) (usable domain)) P
        → IfSome (option_or (known_letters o) (option_and_then (relative_alias s) (usable domain))) P
    by_known (Some e) h other = h e refl
    by_known None h other = other

pub alias-back : (s : SecurityId) (domain : Option SecurityId) (r : Option (List ℕ)) → r ≡ alias_of s domain
    → IfSome r (λ name. sid_reads name domain ≡ Ok s)
alias-back s domain r e =
    subst (λ o. IfSome o (λ name. sid_reads name domain ≡ Ok s)) (sym e)
    (alias_of-entry (λ name. sid_reads name domain ≡ Ok s) s domain (known-back s domain)
    (λ d. relative-back s d domain))

-- its letters are capital ones
are_upper : ℕ → ℕ → Bool
are_upper a b = is_ascii_uppercase a && (is_ascii_uppercase b && true)

known_upper : list_all (λ e. are_upper e.first e.second) WELL_KNOWN ≡ true
unfolding are_upper
known_upper = refl

relative_upper : list_all (λ e. are_upper e.first e.second) DOMAIN_RELATIVE ≡ true
unfolding are_upper
relative_upper = refl

pub alias-letters : (s : SecurityId) (domain : Option SecurityId) (r : Option (List ℕ)) → r ≡ alias_of s domain
    → IfSome r (λ name. list_all is_ascii_uppercase name ≡ true)
unfolding are_upper
alias-letters s domain r e =
    subst (λ o. IfSome o (λ name. list_all is_ascii_uppercase name ≡ true)) (sym e)
    (alias_of-entry (λ name. list_all is_ascii_uppercase name ≡ true) s domain
    (λ k h. (find-passes (λ x. same_sid (known_sid x) s) (λ x. are_upper x.first x.second) WELL_KNOWN k h
    known_upper).1)
    (λ d k given h. (find-passes (λ x. same_sid (sid_in d x) s) (λ x. are_upper x.first x.second) DOMAIN_RELATIVE k h
    relative_upper).1))

-- 4. No SID has two aliases.

-- the last element of a list that has one
last_of : List ℕ → ℕ
last_of [] = 0
last_of (x ∷ []) = x
last_of (x ∷ y ∷ ys) = last_of (y ∷ ys)

last_of-push : (xs : List ℕ) (x : ℕ) → last_of (xs ++ x ∷ []) ≡ x
unfolding last_of
last_of-push [] x = refl
last_of-push (y ∷ []) x = refl
last_of-push (y ∷ z ∷ ys) x = last_of-push (z ∷ ys) x

found_first : Option WellKnown → WellKnown → Bool
found_first None e = false
found_first (Some k) e = k.first == e.first && k.second == e.second

found_relative : Option DomainRelative → DomainRelative → Bool
found_relative None e = false
found_relative (Some k) e = k.first == e.first && k.second == e.second

-- an entry is the first one of its SID
first_known : WellKnown → Bool
first_known e = found_first (find (λ k. same_sid (known_sid k) (known_sid e)) WELL_KNOWN) e

ends_otherwise : ℕ → WellKnown → Bool
ends_otherwise n k = not (last_of (take k.count k.subs) == n)

-- no other SID of the tables ends as this one
first_relative : DomainRelative → Bool
first_relative e = list_all (ends_otherwise e.last) WELL_KNOWN && found_relative
    (find (λ k. k.last == e.last) DOMAIN_RELATIVE) e

known_first : list_all first_known WELL_KNOWN ≡ true
unfolding first_known found_first
known_first = refl

relative_first : list_all first_relative DOMAIN_RELATIVE ≡ true
unfolding first_relative ends_otherwise found_relative last_of
relative_first = refl

same_letters : (a b c d : ℕ) → (a == c && b == d) ≡ true → Some (a ∷ b ∷ []) ≡ Some (c ∷ d ∷ [])
same_letters a b c d h =
    let parts = and_parts (a == c) _ h in
    let first : a ≡ c = let t = parts.0 in grind (arith, nat_tests) in
    let second : b ≡ d = let t = parts.1 in grind (arith, nat_tests) in
    rw (first, second) refl

known_letters-of : (o : Option WellKnown) (e : WellKnown) → found_first o e ≡ true
    → known_letters o ≡ Some (e.first ∷ e.second ∷ [])
unfolding found_first
known_letters-of None e h = absurd cc
known_letters-of (Some k) e h = same_letters k.first k.second e.first e.second h

relative_letters-of : (o : Option DomainRelative) (e : DomainRelative) → found_relative o e ≡ true
    → relative_letters o ≡ Some (e.first ∷ e.second ∷ [])
unfolding found_relative
relative_letters-of None e h = absurd cc
relative_letters-of (Some k) e h = same_letters k.first k.second e.first e.second h

-- a SID that ends otherwise is none in the domain
other_end : (k : WellKnown) (d : SecurityId) (e : DomainRelative) → ends_otherwise e.last k ≡ true
    → same_sid (known_sid k) (sid_in d e) ≡ false
unfolding ends_otherwise
other_end k d e h = by_test (same_sid (known_sid k) (sid_in d e)) refl
  where
    by_test : (b : Bool) → same_sid (known_sid k) (sid_in d e) ≡ b → b ≡ false
    by_test false f = refl
    by_test true f =
        let same : take k.count k.subs ≡ d.subs
        ++ e.last ∷ [] = ap (λ (s : SecurityId). s.subs) (same_sid-eq (known_sid k) (sid_in d e) f) in
        let last : last_of (take k.count k.subs) ≡ e.last = ap last_of same ∙ last_of-push d.subs e.last in
        grind (arith, nat_tests)

none_known : (ks : List WellKnown) (d : SecurityId) (e : DomainRelative) → list_all (ends_otherwise e.last) ks ≡ true
    → find (λ k. same_sid (known_sid k) (sid_in d e)) ks ≡ None
none_known [] d e h = refl
none_known (k ∷ ks) d e h =
    let parts = and_parts (ends_otherwise e.last k) _ h in
    rw (other_end k d e parts.0) (none_known ks d e parts.1)

same_domain : (d : SecurityId) (e : DomainRelative) → in_domain d (sid_in d e) d.subs ≡ true
same_domain d e =
    let authority : (d.authority == d.authority) ≡ true = grind (arith, nat_tests) in
    ap (λ (b : Bool). b && bytes_eq d.subs d.subs) authority ∙ (bytes_eq-Decides d.subs d.subs).1 refl

by_last : (d : SecurityId) (e : DomainRelative)
    → find (λ k. same_sid (sid_in d k) (sid_in d e)) DOMAIN_RELATIVE ≡ find (λ k. k.last == e.last) DOMAIN_RELATIVE
by_last d e =
    find-same (λ k. same_sid (sid_in d k) (sid_in d e)) (λ k. k.last == e.last) DOMAIN_RELATIVE
    (λ k. relative-test d (sid_in d e) d.subs e.last k refl
    ∙ ap (λ (b : Bool). b && k.last == e.last) (same_domain d e))

-- an entry that letters name in either case
abbrev upper : ℕ → ℕ → List ℕ
upper a b = to_ascii_uppercase a ∷ to_ascii_uppercase b ∷ []

known-only : (s : SecurityId) (domain : Option SecurityId) (a b : ℕ) (e : WellKnown) → known_named a b ≡ Some e
    → known_sid e ≡ s → alias_of s domain ≡ Some (upper a b)
unfolding alias_of first_known
known-only s domain a b e named is =
    let passes = find-passes (λ k. k.first == to_ascii_uppercase a && k.second == to_ascii_uppercase b) first_known
    WELL_KNOWN e named known_first in
    let other = option_and_then (relative_alias s) (usable domain) in
    let here = known_letters-of (find (λ k. same_sid (known_sid k) (known_sid e)) WELL_KNOWN) e passes.1 in
    ap (λ (t : SecurityId). option_or (known_alias t) other) (sym is)
    ∙ ap (λ o. option_or o other) here
    ∙ same_letters e.first e.second (to_ascii_uppercase a) (to_ascii_uppercase b) passes.0

relative-only : (s d : SecurityId) (domain : Option SecurityId) (a b : ℕ) (e : DomainRelative)
    → relative_named a b ≡ Some e → usable domain ≡ Some d → sid_in d e ≡ s
    → alias_of s domain ≡ Some (upper a b)
unfolding alias_of first_relative
relative-only s d domain a b e named given is =
    let passes = find-passes (λ k. k.first == to_ascii_uppercase a && k.second == to_ascii_uppercase b) first_relative
    DOMAIN_RELATIVE e named relative_first in
    let parts = and_parts (list_all (ends_otherwise e.last) WELL_KNOWN) _ passes.1 in
    let here = ap relative_letters (by_last d e)
    ∙ relative_letters-of (find (λ k. k.last == e.last) DOMAIN_RELATIVE) e parts.1 in
    ap (λ (t : SecurityId). option_or (known_alias t) (option_and_then (relative_alias t) (usable domain))) (sym is)
    ∙ ap (λ o. option_or (known_letters o) (option_and_then (relative_alias (sid_in d e)) (usable domain)))
    (none_known WELL_KNOWN d e parts.0)
    ∙ ap (λ o. option_and_then (relative_alias (sid_in d e)) o) given
    ∙ here
    ∙ same_letters e.first e.second (to_ascii_uppercase a) (to_ascii_uppercase b) passes.0

letters-only : (s : SecurityId) (domain : Option SecurityId) (a b : ℕ) → letters_read a b domain ≡ Ok s
    → alias_of s domain ≡ Some (upper a b)
unfolding letters_read
letters-only s domain a b h = by_known (known_named a b) refl (relative_named a b) refl (usable domain) refl h
  where
    by_known : (o : Option WellKnown) → known_named a b ≡ o → (r : Option DomainRelative) → relative_named a b ≡ r
        → (u : Option SecurityId) → usable domain ≡ u
        → name_reads o r u ≡ Ok s → alias_of s domain ≡ Some (upper a b)
    by_known (Some e) named r other u given g = known-only s domain a b e named cc
    by_known None none None other u given g = absurd cc
    by_known None none (Some e) named None given g = absurd cc
    by_known None none (Some e) named (Some d) given g = relative-only s d domain a b e named given cc

-- two bytes that are not both letters have no form
no_form : (a b : ℕ) (domain : Option SecurityId) → are_both_letters a b ≡ false
    → sid_reads (a ∷ b ∷ []) domain ≡ Err faults.SidForm
unfolding sid_reads are_both_letters has_form
no_form a b domain e =
    let text = a ∷ b ∷ [] in
    ap (λ (t : Bool). if t then letters_read a b
    domain else (if has_form text then or_number_fault (numbers_read (cut_at_dashes (drop 4 text))) else Err
    faults.SidForm)) e
    ∙ ap (λ (t : Bool). if t then or_number_fault (numbers_read (cut_at_dashes (drop 4 text))) else Err faults.SidForm)
    (and-false _)

-- two letters that read as the SID are its alias, in upper case
pub alias-only : (s : SecurityId) (domain : Option SecurityId) (r : Option (List ℕ)) → r ≡ alias_of s domain
    → (a b : ℕ) → sid_reads (a ∷ b ∷ []) domain ≡ Ok s → r ≡ Some (to_ascii_uppercase a ∷ to_ascii_uppercase b ∷ [])
alias-only s domain r e a b h = by_letters (are_both_letters a b) refl
  where
    by_letters : (t : Bool) → are_both_letters a b ≡ t → r ≡ Some (upper a b)
    by_letters true f = e ∙ letters-only s domain a b (sym (two_read a b domain f) ∙ h)
    by_letters false f = let fault = no_form a b domain f in absurd cc
