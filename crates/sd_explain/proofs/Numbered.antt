-- The items of a list, numbered.
use Rattle.std.proofs.Common.{◌≡◌, ℕ, ◌+◌, List, [], ◌∷◌, ◌++◌, length, ap, ◌∙◌, arith}
use Rattle.std.specs.List.{enumerate_from}

-- one more at the end
pub enumerate_from-last : {X : Type 0} (n : ℕ) (xs : List X) (x : X)
    → enumerate_from n (xs ++ x ∷ []) ≡ enumerate_from n xs ++ (n + length xs, x) ∷ []
enumerate_from-last {X} n [] x = ap (λ (k : ℕ). (k, x) ∷ []) {x = n} {y = n + 0} (omega arith)
enumerate_from-last {X} n (y ∷ ys) x =
    let place : n + 1 + length ys ≡ n + length (y ∷ ys) = omega arith in
    ap (λ (t : List (ℕ × X)). (n, y) ∷ t)
    (enumerate_from-last (n + 1) ys x ∙ ap (λ (k : ℕ). enumerate_from (n + 1) ys ++ (k, x) ∷ []) place)
