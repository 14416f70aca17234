-- Cells that are written over a list from a place on.
use Rattle.std.proofs.Common.{List, ℕ, ◌++◌, ◌+◌, ◌≤◌, ap, arith, sym, ◌∙◌, ◌≡◌, length, take}
use Rattle.std.proofs.Math.Seq.{take-append-add}
use Rattle.std.proofs.lemmas.List.{length-take-le, take-take}

-- the first of the cells are those that stand there
pub take-front : {X : Type 0} (n k m : ℕ) (over xs cells : List X) → n ≤ length xs → k ≤ m
    → take (n + m) over ≡ take n xs ++ take m cells
    → take (n + k) over ≡ take n xs ++ take k cells
take-front n k m over xs cells within few e =
    let taken : length (take n xs) ≡ n = length-take-le n xs within in
    sym (take-take (n + k) (n + m) over (omega arith))
    ∙ ap (take (n + k)) e
    ∙ ap (λ (j : ℕ). take (j + k) (take n xs ++ take m cells)) (sym taken)
    ∙ take-append-add (take n xs) (take m cells) k
    ∙ ap (λ t. take n xs ++ t) (take-take k m cells few)
