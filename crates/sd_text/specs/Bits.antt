-- Bits of a word, each given by its mask, a power of two.
use Rattle.std.specs.Prelude.{ℕ, ◌*◌, ◌/◌, ◌%◌, ◌==◌, Bool}

-- whether a bit is set
abbrev pub has_bit : ℕ → ℕ → Bool
has_bit bit word = word / bit % 2 == 1

-- the bit where it is set, and 0 elsewhere
abbrev pub bit_of : ℕ → ℕ → ℕ
bit_of bit word = word / bit % 2 * bit
