-- S-1-1-0 (MS-DTYP 2.4.2.4) and its bytes (2.4.2.2), for the worked rows of the crates above.
use Rattle.std.proofs.Common.{ℕ, zero, suc, List, [], ◌∷◌, ◌++◌, refl, arith}
use Rattle.sd_sid.specs.Sid.{AreWords, BeginsWithSid, IsSid, SecurityId}

unfoldable pub everyone : SecurityId
everyone = record { authority = 1; subs = 0 ∷ [] }

unfoldable pub everyones_bytes : List ℕ
everyones_bytes = 1 ∷ 1 ∷ 0 ∷ 0 ∷ 0 ∷ 0 ∷ 0 ∷ 1 ∷ 0 ∷ 0 ∷ 0 ∷ 0 ∷ []

zero_is_a_word : AreWords (0 ∷ [])
zero_is_a_word zero = omega arith
zero_is_a_word (suc i) = omega arith

pub everyone_is_a_sid : IsSid everyone
unfolding everyone
everyone_is_a_sid = record { authority = omega arith; count = omega arith; subs = zero_is_a_word }

pub everyone_stands : (rest : List ℕ) → BeginsWithSid (everyones_bytes ++ rest) everyone
unfolding everyone everyones_bytes
everyone_stands rest = record { limits = everyone_is_a_sid; rest = rest; shape = refl }
