-- Answers that are written one after the other.
use Rattle.std.proofs.Common.{◌≡◌, ◌<◌, ◌+◌, ℕ, List, [], ◌∷◌, ◌++◌, length, take, drop, get_or, map, sym, ap, ◌∙◌}
use Rattle.std.proofs.Common.{append_assoc, arith}
use Rattle.std.proofs.Math.ListN.{set}
use Rattle.std.proofs.lemmas.List.{drop_more, length-map, length-take, map_more, set_at}

-- one more is written
pub written_more : {X Y : Type 0} (f : X → Y) (xs : List X) (old ys : List Y) (i : ℕ) (d : X) (v : Y) → i < length xs
    → i < length old → ys ≡ map f (take i xs) ++ drop i old → v ≡ f (get_or xs i d)
    → set ys i v ≡ map f (take (i + 1) xs) ++ drop (i + 1) old
written_more {X} {Y} f xs old ys i d v within room h is =
    let front : List Y = map f (take i xs) in
    let long : length front ≡ i = length-map (take i xs) f ∙ omega (arith, length-take i xs) in
    let parts : ys ≡ front ++ get_or old i v ∷ drop (i + 1) old = h
    ∙ ap (λ (l : List Y). front ++ l) (drop_more old i v room) in
    ap (λ (l : List Y). set l i v) parts ∙ set_at front _ _ v i long ∙ sym (append_assoc front (v ∷ []) _)
    ∙ ap (λ (l : List Y). l ++ drop (i + 1) old) (ap (λ (y : Y). front ++ y ∷ []) is ∙ sym (map_more f xs i d within))
