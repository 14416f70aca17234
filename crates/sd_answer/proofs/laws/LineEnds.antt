-- A line with one byte more at its end.
use Rattle.std.proofs.Common.{◌≡◌, ◌==◌, ℕ, List, [], ◌∷◌, ◌++◌, false, refl, ap}
use Rattle.sd_answer.specs.LineEnd.{without_cr}

-- one CR goes
pub with-cr : (front : List ℕ) → without_cr (front ++ 13 ∷ []) ≡ front
unfolding without_cr
with-cr [] = refl
with-cr (b ∷ []) = refl
with-cr (b ∷ c ∷ front) = ap (λ (l : List ℕ). b ∷ l) (with-cr (c ∷ front))

alone : (last : ℕ) → (last == 13) ≡ false → without_cr (last ∷ []) ≡ last ∷ []
unfolding without_cr
alone last e = rw e

-- another byte stays
pub without-cr : (front : List ℕ) (last : ℕ) → (last == 13) ≡ false
    → without_cr (front ++ last ∷ []) ≡ front ++ last ∷ []
unfolding without_cr
without-cr [] last e = alone last e
without-cr (b ∷ []) last e = ap (λ (l : List ℕ). b ∷ l) (alone last e)
without-cr (b ∷ c ∷ front) last e = ap (λ (l : List ℕ). b ∷ l) (without-cr (c ∷ front) last e)
