-- Digits that are written into cells from the first to the last, before they are printed.
use Rattle.std.specs.Prelude.{◌≡◌, ℕ, ◌+◌, ◌/◌, ◌%◌, List, [], ◌∷◌, ◌++◌, length, take}

-- a text was written from a place on: what is before it is as it was
pub record IsWritten (at : ℕ) (text : List ℕ) (end : ℕ) (old new : List ℕ) : Type 0 where
  pub ends : end ≡ at + length text
  pub written : take end new ≡ take at old ++ text

-- both digits of a number below 100
abbrev pub two_digits : ℕ → List ℕ
two_digits n = (48 + n / 10) ∷ (48 + n % 10) ∷ []

-- the four digits of a number below 10,000
abbrev pub four_digits : ℕ → List ℕ
four_digits n = two_digits (n / 100) ++ two_digits (n % 100)

-- the eight digits of a number below 10 ^ 8
abbrev pub eight_digits : ℕ → List ℕ
eight_digits n = four_digits (n / 10000) ++ four_digits (n % 10000)
