-- The digits of numbers, and the numbers that digits write.
use Rattle.std.specs.Prelude.{ℕ, zero, suc, ◌+◌, ◌*◌, ◌/◌, ◌%◌, false, nat_lt, if◌then◌else◌, List, [], ◌∷◌, ◌++◌}
use Rattle.std.specs.Prelude.{Option, Some, None}
use Rattle.std.specs.Char.{digit_value, is_digit}
use Rattle.std.specs.Fmt.{digit_glyph}
use Rattle.std.specs.Option.{option_and_then}

-- the last k hex digits of a number
abbrev pub hex_digits : ℕ → ℕ → List ℕ
hex_digits zero n = []
hex_digits (suc k) n = hex_digits k (n / 16) ++ digit_glyph false (n % 16) ∷ []

-- the number that digits in a base write after another, where each is a digit
abbrev pub number_after : ℕ → ℕ → List ℕ → Option ℕ
number_after base n [] = Some n
number_after base n (c ∷ cs) = if is_digit c base then number_after base (n * base + digit_value c) cs else None

-- the same from the first digit on, where it is below the limit
abbrev pub number : ℕ → ℕ → List ℕ → Option ℕ
number base limit text = option_and_then (λ n. if nat_lt n limit then Some n else None) (number_after base 0 text)
