-- The values of digits, the bytes that pairs of them make, and blocks of digits.
use Rattle.std.specs.Prelude.{◌≡◌, ◌<◌, ℕ, ◌+◌, ◌-◌, ◌*◌, ◌/◌, ◌%◌, ◌^◌, List, [], ◌∷◌, map, Some, None, length, drop}
use Rattle.std.specs.Prelude.{take, min, slice_index}
use Rattle.hex.specs.Hex.{hex_digit_value}

-- each character is a digit with this value
abbrev pub AreValues : List ℕ → List ℕ → Type 0
AreValues digits values = map hex_digit_value digits ≡ map Some values

-- a character is no digit
abbrev pub HasOther : List ℕ → Type 0
HasOther digits = (k : ℕ) × (k < length digits) × (hex_digit_value (slice_index digits k) ≡ None)

-- the 32 digits behind those of so many bytes, or the last 32 where fewer are left
abbrev pub block_behind : List ℕ → ℕ → List ℕ
block_behind pairs done = take 32 (drop (2 * min done (length pairs / 2 - 16)) pairs)

-- the byte of each two values, in eight bits
abbrev pub joined_pairs : List ℕ → List ℕ
joined_pairs [] = []
joined_pairs (high ∷ []) = []
joined_pairs (high ∷ low ∷ rest) = (high * 16 % 2 ^ 8 + low) % 2 ^ 8 ∷ joined_pairs rest
