-- The bits of two letters in the cells of a table.
use Rattle.std.proofs.Common.{◌≡◌, ◌<◌, ℕ, zero, suc, ◌+◌, ◌/◌, ◌%◌, Bool, true, false, List, [], ◌∷◌, length}
use Rattle.std.proofs.Common.{get_or, Option, Some, None, arith, refl, sym, ap, ◌∙◌, eqb-true}
use Rattle.std.specs.Prelude.{◌==◌, ◌&&◌, not, if◌then◌else◌, unwrap_or}
use Rattle.std.specs.Char.{is_ascii_alphabetic, is_ascii_uppercase, to_ascii_uppercase}
use Rattle.std.specs.List.{list_all}
use Rattle.std.proofs.lemmas.Bool.{and_parts, not-true, true≢false}
use Rattle.std.proofs.lemmas.Bool.Decides.{nat_tests}
use Rattle.std.proofs.lemmas.Str.Ascii.{uppercase_is}
use Rattle.sd_text.specs.declared.names.NamedBits.{NamedBits}
use Rattle.sd_text.specs.Names.{bits_named, cells_from, has_capitals, has_cells, name_cell}

-- a name of capitals that stands for bits
abbrev is_row : NamedBits → Bool
is_row e = has_capitals e && not (e.bits == 0)

-- the capital of a letter, by its lowest five bits
capital-is : (a : ℕ) → is_ascii_alphabetic a ≡ true → to_ascii_uppercase a ≡ 64 + a % 32
capital-is a h = grind (arith, nat_tests, uppercase_is a)

capital-again : (a : ℕ) → is_ascii_alphabetic a ≡ true → to_ascii_uppercase (64 + a % 32) ≡ 64 + a % 32
capital-again a h = grind (arith, nat_tests, uppercase_is (64 + a % 32))

-- what is no letter has no capital
no-capital : (a : ℕ) → is_ascii_alphabetic a ≡ false → is_ascii_uppercase (to_ascii_uppercase a) ≡ false
no-capital a h = grind (arith, nat_tests, uppercase_is a)

-- two letters in either case stand for the same
same-capitals : (table : List NamedBits) (a b x y : ℕ) → to_ascii_uppercase a ≡ to_ascii_uppercase x
    → to_ascii_uppercase b ≡ to_ascii_uppercase y → bits_named table a b ≡ bits_named table x y
same-capitals [] a b x y first second = refl
same-capitals (e ∷ es) a b x y first second = rw (first, second, same-capitals es a b x y first second) refl

-- the cell at a place has the bits of its letters
at-place : (place i : ℕ) (table : List NamedBits) (cells : List ℕ) → cells_from place table cells ≡ true
    → i < length cells
    → get_or cells i 0 ≡ unwrap_or (bits_named table (64 + (place + i) / 32) (64 + (place + i) % 32)) 0
at-place place i table [] all h = absurd (omega arith)
at-place place zero table (bits ∷ more) all h =
    let same : place ≡ place + 0 = omega arith in
    eqb-true bits _ (and_parts _ (cells_from (suc place) table more) all).0
    ∙ ap (λ n. unwrap_or (bits_named table (64 + n / 32) (64 + n % 32)) 0) same
at-place place (suc i) table (bits ∷ more) all h =
    let next : suc place + i ≡ place + suc i = omega arith in
    let found =
    at-place (suc place) i table more (and_parts _ (cells_from (suc place) table more) all).1 (omega arith) in
    found ∙ ap (λ n. unwrap_or (bits_named table (64 + n / 32) (64 + n % 32)) 0) next

-- a capital is no other byte
differs : (x y : ℕ) → is_ascii_uppercase x ≡ true → is_ascii_uppercase y ≡ false → (x == y) ≡ false
differs x y h k = by_test (x == y) refl
  where
    by_test : (b : Bool) → (x == y) ≡ b → b ≡ false
    by_test true e = absurd (true≢false (sym h ∙ (ap is_ascii_uppercase (eqb-true x y e) ∙ k)))
    by_test false e = refl

none-first : (table : List NamedBits) (a b : ℕ) → list_all is_row table ≡ true
    → is_ascii_uppercase (to_ascii_uppercase a) ≡ false → bits_named table a b ≡ None
none-first [] a b rows h = refl
none-first (e ∷ es) a b rows h =
    let parts = and_parts (is_row e) _ rows in
    let capitals = (and_parts (has_capitals e) _ parts.0).0 in
    let first = (and_parts (is_ascii_uppercase e.first) _ capitals).0 in
    let other : (e.first == to_ascii_uppercase a) ≡ false = differs e.first (to_ascii_uppercase a) first h in
    rw other (none-first es a b parts.1 h)

none-second : (table : List NamedBits) (a b : ℕ) → list_all is_row table ≡ true
    → is_ascii_uppercase (to_ascii_uppercase b) ≡ false → bits_named table a b ≡ None
none-second [] a b rows h = refl
none-second (e ∷ es) a b rows h =
    let parts = and_parts (is_row e) _ rows in
    let capitals = (and_parts (has_capitals e) _ parts.0).0 in
    let second = (and_parts (is_ascii_uppercase e.first) _ capitals).1 in
    let other = differs e.second (to_ascii_uppercase b) second h in
    by_first (e.first == to_ascii_uppercase a) other (none-second es a b parts.1 h)
  where
    by_first : (x : Bool) → (e.second == to_ascii_uppercase b) ≡ false → bits_named es a b ≡ None
        → (if x && e.second == to_ascii_uppercase b then Some e.bits else bits_named es a b) ≡ None
    by_first true other more = rw other more
    by_first false other more = more

-- what is found stands for bits
some-bits : (table : List NamedBits) (a b n : ℕ) → list_all is_row table ≡ true → bits_named table a b ≡ Some n
    → (n == 0) ≡ false
some-bits [] a b n rows found = absurd cc
some-bits (e ∷ es) a b n rows found =
    let parts = and_parts (is_row e) _ rows in
    by_name (e.first == to_ascii_uppercase a && e.second == to_ascii_uppercase b) found
    (not-true (e.bits == 0) (and_parts (has_capitals e) _ parts.0).1) (some-bits es a b n parts.1)
  where
    by_name : (x : Bool) → (if x then Some e.bits else bits_named es a b) ≡ Some n → (e.bits == 0) ≡ false
        → (bits_named es a b ≡ Some n → (n == 0) ≡ false) → (n == 0) ≡ false
    by_name true f here more = let same : e.bits ≡ n = cc in ap (λ m. m == 0) (sym same) ∙ here
    by_name false f here more = more f

-- the option that a number other than 0 stands for
pub is-none : (o : Option ℕ) (n : ℕ) → n ≡ unwrap_or o 0 → n ≡ 0 → ((m : ℕ) → o ≡ Some m → (m == 0) ≡ false) → None ≡ o
is-none None n is none some = refl
is-none (Some m) n is none some = let other = some m refl in absurd (grind (arith, nat_tests))

pub is-some : (o : Option ℕ) (n : ℕ) → n ≡ unwrap_or o 0 → (n ≡ 0 → ⊥) → Some n ≡ o
is-some None n is other = absurd (other is)
is-some (Some m) n is other = ap Some is

-- 1. For the rows of a table and its cells.

-- the cell of two letters
pub at-letters : (table : List NamedBits) (cells : List ℕ) (a b i : ℕ) → has_cells table cells ≡ true
    → is_ascii_alphabetic a ≡ true → is_ascii_alphabetic b ≡ true → i ≡ name_cell a b → i < length cells
    → get_or cells i 0 ≡ unwrap_or (bits_named table a b) 0
unfolding has_cells
at-letters table cells a b i has first second at h =
    let found = at-place 0 i table cells (and_parts (list_all is_row table) _ has).1 h in
    let row : 64 + (0 + i) / 32 ≡ 64 + a % 32 = omega (arith, at) in
    let column : 64 + (0 + i) % 32 ≡ 64 + b % 32 = omega (arith, at) in
    found ∙ ap (λ n. unwrap_or (bits_named table n (64 + (0 + i) % 32)) 0) row
    ∙ ap (λ n. unwrap_or (bits_named table (64 + a % 32) n) 0) column
    ∙ ap (λ o. unwrap_or o 0) (same-capitals table (64 + a % 32) (64 + b % 32) a b
    (capital-again a first ∙ sym (capital-is a first)) (capital-again b second ∙ sym (capital-is b second)))

pub no-first : (table : List NamedBits) (cells : List ℕ) (a b : ℕ) → has_cells table cells ≡ true
    → is_ascii_alphabetic a ≡ false → None ≡ bits_named table a b
unfolding has_cells
no-first table cells a b has other =
    sym (none-first table a b (and_parts (list_all is_row table) _ has).0 (no-capital a other))

pub no-second : (table : List NamedBits) (cells : List ℕ) (a b : ℕ) → has_cells table cells ≡ true
    → is_ascii_alphabetic b ≡ false → None ≡ bits_named table a b
unfolding has_cells
no-second table cells a b has other =
    sym (none-second table a b (and_parts (list_all is_row table) _ has).0 (no-capital b other))

pub found-bits : (table : List NamedBits) (cells : List ℕ) (a b n : ℕ) → has_cells table cells ≡ true
    → bits_named table a b ≡ Some n → (n == 0) ≡ false
unfolding has_cells
found-bits table cells a b n has found = some-bits table a b n (and_parts (list_all is_row table) _ has).0 found
