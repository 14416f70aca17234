-- A text cut at a place.
use Rattle.std.proofs.Common.{◌≡◌, ℕ, ◌+◌, ◌<◌, ◌-◌, List, ◌∷◌, ◌++◌, length, take, drop, arith, get_or}
use Rattle.std.proofs.lemmas.Grind.{common_steps}

-- a field that ends at this place
pub cut-at : (text : List ℕ) (place end : ℕ) → place < length text → get_or text place 0 ≡ end
    → text ≡ take place text ++ end ∷ take (length text - (place + 1)) (drop (place + 1) text)
cut-at text place end within is = grind (arith, common_steps)
