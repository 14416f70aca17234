-- Texts of names of two letters that stand for bits.
use Rattle.std.specs.Prelude.{◌≡◌, ℕ, Bool, true, ◌&&◌, ◌==◌, if◌then◌else◌, List, [], ◌∷◌, Option, Some, None}
use Rattle.std.specs.Prelude.{suc, ◌+◌, ◌*◌, ◌/◌, ◌%◌, bit_and, bit_or, not, unwrap_or}
use Rattle.std.specs.List.{list_all}
use Rattle.std.specs.Char.{is_ascii_uppercase, to_ascii_uppercase}
use Rattle.sd_text.specs.declared.names.NamedBits.{NamedBits}

-- 1. Reading.

-- the bits that two letters, in either case, stand for in a table
abbrev pub bits_named : List NamedBits → ℕ → ℕ → Option ℕ
bits_named [] a b = None
bits_named (e ∷ es) a b =
    if e.first == to_ascii_uppercase a && e.second == to_ascii_uppercase b then Some e.bits else bits_named es a b

-- the bits of both, where both are known
abbrev pub joined : Option ℕ → Option ℕ → Option ℕ
joined None more = None
joined (Some bits) None = None
joined (Some bits) (Some more) = Some (bit_or bits more)

-- the bits of a run of names
unfoldable pub run_of : List NamedBits → List ℕ → Option ℕ
run_of table [] = Some 0
run_of table (a ∷ []) = None
run_of table (a ∷ b ∷ rest) = joined (bits_named table a b) (run_of table rest)

-- 2. Printing.

-- the names in a table of the bits of a mask, in the table's order
abbrev pub names_of : List NamedBits → ℕ → List ℕ
names_of [] mask = []
names_of (e ∷ es) mask = if bit_and mask e.bits == 0 then names_of es mask else e.first ∷ e.second ∷ names_of es mask

-- the bits of those names
abbrev pub named_bits : List NamedBits → ℕ → ℕ
named_bits [] mask = 0
named_bits (e ∷ es) mask = if bit_and mask e.bits == 0 then named_bits es mask else bit_or e.bits (named_bits es mask)

-- 3. Tables.

-- both letters of a name are capitals
abbrev pub has_capitals : NamedBits → Bool
has_capitals e = is_ascii_uppercase e.first && is_ascii_uppercase e.second

-- where the bits of two letters are: there are 32 cells for each first letter
abbrev pub name_cell : ℕ → ℕ → ℕ
name_cell a b = a % 32 * 32 + b % 32

-- the cells from a place on have the bits of the capitals that belong there, and 0 where these are no name
abbrev pub cells_from : ℕ → List NamedBits → List ℕ → Bool
cells_from place table [] = true
cells_from place table (bits ∷ more) =
    bits == unwrap_or (bits_named table (64 + place / 32) (64 + place % 32)) 0 && cells_from (suc place) table more

-- the cells of a table whose names are capitals and stand for bits
unfoldable pub has_cells : List NamedBits → List ℕ → Bool
has_cells table cells = list_all (λ e. has_capitals e && not (e.bits == 0)) table && cells_from 0 table cells

-- two bytes are the same capital, or neither is a capital
abbrev pub IsSameCapital : ℕ → ℕ → Type 0
IsSameCapital x y = (c : ℕ) → is_ascii_uppercase c ≡ true → (c == x) ≡ (c == y)

-- a name, and the bits that it stands for
abbrev pub named_row : NamedBits → List ℕ × ℕ
named_row e = (e.first ∷ e.second ∷ [], e.bits)
