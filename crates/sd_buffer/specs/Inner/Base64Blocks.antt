-- The values of base64's symbols, and the bytes that groups of four of them make.
use Rattle.std.specs.Prelude.{◌≡◌, ◌<◌, ℕ, ◌+◌, ◌-◌, ◌*◌, ◌/◌, ◌%◌, ◌==◌, ◌&&◌, nat_le, if◌then◌else◌, List, [], ◌∷◌}
use Rattle.std.specs.Prelude.{map, length, slice_index, Option, Some, None}

-- the value of a symbol, by the order of the characters
abbrev pub symbol_value : ℕ → Option ℕ
symbol_value c =
    if c == 47 then Some 63
    else if c == 43 then Some 62
    else if nat_le 48 c && nat_le c 57 then Some (c + 4)
    else if nat_le 65 c && nat_le c 90 then Some (c - 65)
    else if nat_le 97 c && nat_le c 122 then Some (c - 71)
    else None

-- each character is a symbol with this value
abbrev pub AreSixBits : List ℕ → List ℕ → Type 0
AreSixBits text values = map symbol_value text ≡ map Some values

-- a character is no symbol
abbrev pub HasOther : List ℕ → Type 0
HasOther text = (k : ℕ) × (k < length text) × (symbol_value (slice_index text k) ≡ None)

-- the bytes of each four values of six bits
abbrev pub joined_groups : List ℕ → List ℕ
joined_groups [] = []
joined_groups (a ∷ []) = []
joined_groups (a ∷ b ∷ []) = []
joined_groups (a ∷ b ∷ c ∷ []) = []
joined_groups (a ∷ b ∷ c ∷ d ∷ rest) =
    (a * 4 + b / 16) ∷ (b % 16 * 16 + c / 4) ∷ (c % 4 * 64 + d) ∷ joined_groups rest
