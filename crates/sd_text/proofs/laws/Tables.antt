-- The rule of a table at an entry that was found.
use Rattle.std.proofs.Common.{◌≡◌, Bool, true, false, cond, List, [], ◌∷◌, Some, refl, sym, ap, ◌∙◌}
use Rattle.std.specs.List.{find, list_all}
use Rattle.std.proofs.lemmas.Bool.{and_parts}

some_injective : {X : Type 0} (x y : X) → Some x ≡ Some y → x ≡ y
some_injective x y e = cc

pub find-passes : {X : Type 0} (p q : X → Bool) (xs : List X) (x : X) → find p xs ≡ Some x → list_all q xs ≡ true
    → (p x ≡ true) × (q x ≡ true)
find-passes p q [] x e all = absurd cc
find-passes p q (y ∷ ys) x e all =
    let parts = and_parts (q y) _ all in
    by_test (p y) refl e parts.0 (λ g. find-passes p q ys x g parts.1)
  where
    by_test : (b : Bool) → p y ≡ b → cond b (Some y) (find p ys) ≡ Some x → q y ≡ true
        → (find p ys ≡ Some x → (p x ≡ true) × (q x ≡ true)) → (p x ≡ true) × (q x ≡ true)
    by_test true f g here later = let same : y ≡ x = some_injective y x
        g in (ap p (sym same) ∙ f, ap q (sym same) ∙ here)
    by_test false f g here later = later g
