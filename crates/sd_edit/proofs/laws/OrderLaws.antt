-- Where an order ends.
use Rattle.std.proofs.Common.{◌≡◌, ◌≤◌, ◌<◌, ℕ, ◌+◌, Bool, true, false, cond, nat_lt, List, [], ◌∷◌, length}
use Rattle.std.proofs.Common.{Option, Some, None, option_map, refl, arith}
use Rattle.sd_edit.specs.Order.{first_fall}

some_within : (o : Option ℕ) (m k : ℕ) → ((j : ℕ) → o ≡ Some j → j < m)
    → option_map (λ (n : ℕ). 1 + n) o ≡ Some k → k < 1 + m
some_within (Some j) m k within e = let is : 1 + j ≡ k = cc in omega (arith, within j refl, is)
some_within None m k within e = absurd (cc)

here_within : (b : Bool) (o : Option ℕ) (m k : ℕ) → ((j : ℕ) → o ≡ Some j → j < m) → 1 ≤ m
    → cond b (Some 1) (option_map (λ (n : ℕ). 1 + n) o) ≡ Some k → k < 1 + m
here_within true o m k within some e = let is : 1 ≡ k = cc in omega (arith, some, is)
here_within false o m k within some e = some_within o m k within e

-- it is the place of a rank
pub fall_within : (ns : List ℕ) (k : ℕ) → first_fall ns ≡ Some k → k < length ns
fall_within [] k e = absurd (cc)
fall_within (a ∷ []) k e = absurd (cc)
fall_within (a ∷ b ∷ ns) k e =
    let within = here_within (nat_lt b a) (first_fall (b ∷ ns)) (length (b ∷ ns)) k (fall_within (b ∷ ns))
    (omega arith) e in
    omega (arith, within)
