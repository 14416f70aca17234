-- The values of hex digits, in a table by their bytes.
use Rattle.std.specs.Prelude.{ℕ, suc, Bool, true, ◌&&◌, ◌==◌, if◌then◌else◌, List, [], ◌∷◌}
use Rattle.std.specs.Char.{digit_value, is_digit}

-- the value of a hex digit, and 16 for any other byte
abbrev pub value_of : ℕ → ℕ
value_of b = if is_digit b 16 then digit_value b else 16

abbrev pub values_from : ℕ → List ℕ → Bool
values_from byte [] = true
values_from byte (value ∷ more) = value == value_of byte && values_from (suc byte) more

-- a table has the value of each byte, from 0 on
unfoldable pub has_values : List ℕ → Bool
has_values values = values_from 0 values
