-- The entry of two letters stands at their place, and that of a SID too.
use Rattle.std.proofs.Common.{◌≡◌, ◌<◌, ◌≤◌, ◌-◌, get_or, ℕ, zero, suc, ◌+◌, Bool, true, false, cond, ◌&&◌, List}
use Rattle.std.proofs.Common.{[], ◌∷◌, length, Option, Some, None, refl, sym, ap, ◌∙◌, arith}
use Rattle.std.specs.Prelude.{◌==◌, slice_get, take}
use Rattle.std.specs.Char.{is_ascii_uppercase}
use Rattle.std.specs.List.{find, list_all}
use Rattle.std.proofs.lemmas.Bool.{and_parts}
use Rattle.std.proofs.lemmas.Bool.Decides.{nat_tests}
use Rattle.std.proofs.lemmas.Slice.Eq.{bytes_eq-Decides}
use Rattle.sd_text.specs.Names.{IsSameCapital}
use Rattle.sd_text.proofs.laws.Capitals.{find-same}
use Rattle.sd_alias.specs.Inner.Places.{place_of, sid_place}
use Rattle.sd_alias.specs.NameOfSid.{is_name_of, last_of, passing}
use Rattle.sd_alias.specs.declared.table.DomainRelative.{DomainRelative}
use Rattle.sd_alias.specs.declared.table.TheConstants.{DOMAIN_RELATIVE, WELL_KNOWN}
use Rattle.sd_alias.specs.declared.table.WellKnown.{WellKnown}
use Rattle.sd_alias.specs.declared.places.TheConstants.{NO}

-- each element has the place at which it stands, where the list begins at the place i
placed : {X : Type 0} → (X → ℕ) → ℕ → List X → Bool
placed place i [] = true
placed place i (x ∷ xs) = place x == i && placed place (suc i) xs

same_number : (m n : ℕ) → (m == n) ≡ true → m ≡ n
same_number m n e = grind (arith, nat_tests)

-- what passes has one place only; a list that begins behind it has no such element
none-behind : {X : Type 0} (p : X → Bool) (place : X → ℕ) (at : ℕ) → ((x : X) → p x ≡ true → place x ≡ at)
    → (i : ℕ) (xs : List X) → placed place i xs ≡ true → at < i → find p xs ≡ None
unfolding placed
none-behind p place at only i [] all behind = refl
none-behind p place at only i (x ∷ xs) all behind =
    let parts = and_parts (place x == i) _ all in
    by_test (p x) refl (same_number (place x) i parts.0)
    (none-behind p place at only (suc i) xs parts.1 (omega arith))
  where
    by_test : (b : Bool) → p x ≡ b → place x ≡ i → find p xs ≡ None → cond b (Some x) (find p xs) ≡ None
    by_test true e here later = let other = only x e in absurd (omega arith)
    by_test false e here later = later

-- the element at that place is found, if it passes
find-placed : {X : Type 0} (p : X → Bool) (place : X → ℕ) (at : ℕ) → ((x : X) → p x ≡ true → place x ≡ at)
    → (i k : ℕ) (xs : List X) → placed place i xs ≡ true → at ≡ i + k → find p xs ≡ passing p (slice_get xs k)
unfolding placed
find-placed p place at only i k [] all is = refl
find-placed p place at only i zero (x ∷ xs) all is =
    let parts = and_parts (place x == i) _ all in
    ap (λ o. cond (p x) (Some x) o) (none-behind p place at only (suc i) xs parts.1 (omega arith))
find-placed p place at only i (suc k) (x ∷ xs) all is =
    let parts = and_parts (place x == i) _ all in
    by_test (p x) refl (same_number (place x) i parts.0)
    (find-placed p place at only (suc i) k xs parts.1 (omega arith))
  where
    by_test : (b : Bool) → p x ≡ b → place x ≡ i → find p xs ≡ passing p (slice_get xs k)
        → cond b (Some x) (find p xs) ≡ passing p (slice_get xs k)
    by_test true e here later = let other = only x e in absurd (omega arith)
    by_test false e here later = later

-- the letters of an entry, against others
abbrev has_letters : ℕ → ℕ → ℕ → ℕ → Bool
has_letters a b first second = first == a && second == b

only_place : (a b first second : ℕ) → has_letters a b first second ≡ true → place_of first second ≡ place_of a b
only_place a b first second e =
    let parts = and_parts (first == a) _ e in
    rw (same_number first a parts.0, same_number second b parts.1) refl

known_placed : placed (λ e. place_of e.first e.second) 0 WELL_KNOWN ≡ true
unfolding placed place_of
known_placed = refl

relative_placed : placed (λ e. place_of e.first e.second) (length WELL_KNOWN) DOMAIN_RELATIVE ≡ true
unfolding placed place_of
relative_placed = refl

abbrev is_known : ℕ → ℕ → WellKnown → Bool
is_known a b e = e.first == a && e.second == b

abbrev is_relative : ℕ → ℕ → DomainRelative → Bool
is_relative a b e = e.first == a && e.second == b

known-at : (a b : ℕ) → find (is_known a b) WELL_KNOWN ≡ passing (is_known a b) (slice_get WELL_KNOWN (place_of a b))
known-at a b =
    find-placed (is_known a b) (λ e. place_of e.first e.second) (place_of a b)
    (λ e. only_place a b e.first e.second) 0 (place_of a b) WELL_KNOWN known_placed (omega arith)

relative-at : (a b k : ℕ) → place_of a b ≡ length WELL_KNOWN + k
    → find (is_relative a b) DOMAIN_RELATIVE ≡ passing (is_relative a b) (slice_get DOMAIN_RELATIVE k)
relative-at a b k is =
    find-placed (is_relative a b) (λ e. place_of e.first e.second) (place_of a b)
    (λ e. only_place a b e.first e.second) (length WELL_KNOWN) k DOMAIN_RELATIVE relative_placed is

known-capitals : list_all (λ e. is_ascii_uppercase e.first && is_ascii_uppercase e.second) WELL_KNOWN ≡ true
known-capitals = refl

relative-capitals : list_all (λ e. is_ascii_uppercase e.first && is_ascii_uppercase e.second) DOMAIN_RELATIVE ≡ true
relative-capitals = refl

-- what is looked up at the place of the capitals of two letters, and its test
pub known-looked-up : (a b x y i : ℕ) (found : Option WellKnown) → IsSameCapital a x → IsSameCapital b y
    → i ≡ place_of a b → found ≡ slice_get WELL_KNOWN i → passing (is_known a b) found ≡ find (is_known x y) WELL_KNOWN
known-looked-up a b x y i found first second at e =
    ap (passing (is_known a b)) (e ∙ ap (slice_get WELL_KNOWN) at)
    ∙ sym (known-at a b)
    ∙ find-same (λ e. e.first) (λ e. e.second) a b x y WELL_KNOWN first second known-capitals

same-relative : (a b x y : ℕ) → IsSameCapital a x → IsSameCapital b y
    → find (is_relative a b) DOMAIN_RELATIVE ≡ find (is_relative x y) DOMAIN_RELATIVE
same-relative a b x y first second =
    find-same (λ e. e.first) (λ e. e.second) a b x y DOMAIN_RELATIVE first second relative-capitals

pub relative-looked-up : (a b x y i : ℕ) (found : Option DomainRelative) → IsSameCapital a x → IsSameCapital b y
    → i ≡ place_of a b → length WELL_KNOWN ≤ i → found ≡ slice_get DOMAIN_RELATIVE (i - length WELL_KNOWN)
    → passing (is_relative a b) found ≡ find (is_relative x y) DOMAIN_RELATIVE
relative-looked-up a b x y i found first second at late e =
    ap (passing (is_relative a b)) e
    ∙ sym (relative-at a b (i - length WELL_KNOWN) (omega (arith, at)))
    ∙ same-relative a b x y first second

pub relative-before : (a b x y i : ℕ) → IsSameCapital a x → IsSameCapital b y → i ≡ place_of a b → i < length WELL_KNOWN
    → None ≡ find (is_relative x y) DOMAIN_RELATIVE
relative-before a b x y i first second at low =
    sym (none-behind (is_relative a b) (λ e. place_of e.first e.second) (place_of a b)
    (λ e. only_place a b e.first e.second) (length WELL_KNOWN) DOMAIN_RELATIVE relative_placed (omega (arith, at)))
    ∙ same-relative a b x y first second

-- an entry with both letters passes, and one with another letter does not
pub passes : {X : Type 0} (m n x y : ℕ) (e : X) → m ≡ x → n ≡ y → Some e ≡ cond (m == x && n == y) (Some e) None
passes m n x y e first second =
    let test : (m == x && n == y) ≡ true = grind (arith, nat_tests) in
    ap (λ (t : Bool). cond t (Some e) None) (sym test)

pub fails-first : {X : Type 0} (m n x y : ℕ) (e : X) → (m ≡ x → ⊥) → None ≡ cond (m == x && n == y) (Some e) None
fails-first m n x y e other =
    let test : (m == x && n == y) ≡ false = grind (arith, nat_tests) in
    ap (λ (t : Bool). cond t (Some e) None) (sym test)

pub fails-second : {X : Type 0} (m n x y : ℕ) (e : X) → (n ≡ y → ⊥) → None ≡ cond (m == x && n == y) (Some e) None
fails-second m n x y e other =
    let test : (m == x && n == y) ≡ false = grind (arith, nat_tests) in
    ap (λ (t : Bool). cond t (Some e) None) (sym test)

-- a value of a list, and the default behind its end
default-some : (xs : List ℕ) (i v d : ℕ) → slice_get xs i ≡ Some v → get_or xs i d ≡ v
default-some [] i v d e = absurd cc
default-some (x ∷ xs) zero v d e = cc
default-some (x ∷ xs) (suc i) v d e = default-some xs i v d e

default-none : (xs : List ℕ) (i d : ℕ) → slice_get xs i ≡ None → get_or xs i d ≡ d
default-none [] i d e = refl
default-none (x ∷ xs) zero d e = absurd cc
default-none (x ∷ xs) (suc i) d e = default-none xs i d e

pub place-some : (cells : List ℕ) (cell v n : ℕ) → Some v ≡ slice_get cells cell → n ≡ v → n ≡ get_or cells cell NO
place-some cells cell v n found is = is ∙ sym (default-some cells cell v NO (sym found))

pub place-none : (cells : List ℕ) (cell n : ℕ) → None ≡ slice_get cells cell → n ≡ NO → n ≡ get_or cells cell NO
place-none cells cell n found is = is ∙ sym (default-none cells cell NO (sym found))

-- An entry and its SID.

abbrev place_of_entry : WellKnown → ℕ
place_of_entry e = sid_place e.authority (last_of (take e.count e.subs))

sids_placed : placed place_of_entry 0 WELL_KNOWN ≡ true
unfolding placed sid_place
sids_placed = refl

only_entry : (authority : ℕ) (subs : List ℕ) (e : WellKnown) → is_name_of authority subs e ≡ true
    → place_of_entry e ≡ sid_place authority (last_of subs)
only_entry authority subs e is =
    let parts = and_parts (e.authority == authority) _ is in
    rw (same_number e.authority authority parts.0, (bytes_eq-Decides (take e.count e.subs) subs).0 parts.1) refl

pub known-sid-at : (authority last i : ℕ) (found : Option WellKnown) → i ≡ sid_place authority last
    → found ≡ slice_get WELL_KNOWN i → (subs : List ℕ) → last_of subs ≡ last
    → find (is_name_of authority subs) WELL_KNOWN ≡ passing (is_name_of authority subs) found
known-sid-at authority last i found at e subs is =
    find-placed (is_name_of authority subs) place_of_entry (sid_place authority (last_of subs))
    (only_entry authority subs) 0
    (sid_place authority (last_of subs)) WELL_KNOWN sids_placed (omega arith)
    ∙ ap (λ k. passing (is_name_of authority subs) (slice_get WELL_KNOWN (sid_place authority k))) is
    ∙ ap (λ k. passing (is_name_of authority subs) (slice_get WELL_KNOWN k)) (sym at)
    ∙ ap (passing (is_name_of authority subs)) (sym e)
