-- The texts of a list's items, printed one after another.
use Rattle.std.proofs.Common.{◌≡◌, ◌<◌, ℕ, suc, ◌+◌, List, [], ◌∷◌, ◌++◌, length, take, get_or, sym, ap, ◌∙◌}
use Rattle.std.proofs.Common.{append_assoc, arith, subst}
use Rattle.std.proofs.Math.Seq.{take-suc}
use Rattle.std.proofs.lemmas.Grind.{flat_map-append}
use Rattle.std.proofs.lemmas.List.{append-nil}
use Rattle.std.specs.List.{flat_map}
use Rattle.sd_sink.specs.Print.{PrintTold, Prints}
use Rattle.sd_sink.proofs.laws.PrintLemmas.{prints_then}

-- the next one is no longer left
pub moved : {X : Type 0} (done left next all : List X) (x : X) → done ++ left ≡ all → left ≡ x ∷ next → (done ++ x ∷ [])
    ++ next ≡ all
moved {X} done left next all x e h = append_assoc done (x ∷ []) next ∙ ap (λ (t : List X). done ++ t) (sym h) ∙ e

one_more : {X : Type 0} (f : X → List ℕ) (done : List X) (x : X) → flat_map f done ++ f x ≡ flat_map f (done ++ x ∷ [])
one_more f done x = ap (λ (t : List ℕ). flat_map f done ++ t) (sym (append-nil (f x)))
    ∙ sym (flat_map-append f done (x ∷ []))

-- one more was printed
pub Prints-item : {X : Type 0} (f : X → List ℕ) (a b c : PrintTold) (done : List X) (x : X)
    → Prints a b (flat_map f done) → Prints b c (f x)
    → Prints a c (flat_map f (done ++ x ∷ []))
Prints-item f a b c done x p q = subst (λ (t : List ℕ). Prints a c t) (one_more f done x) (prints_then p q)

one_more-taken : {X : Type 0} (xs : List X) (i : ℕ) (d : X) → i < length xs → take i xs
    ++ get_or xs i d ∷ [] ≡ take (i + 1) xs
one_more-taken xs i d within =
    let more : suc i ≡ i + 1 = omega arith in
    sym (take-suc xs i d within) ∙ ap (λ (k : ℕ). take k xs) more

-- one more of a slice was printed
pub Prints-next : {X : Type 0} (f : X → List ℕ) (a b c : PrintTold) (xs : List X) (i : ℕ) (d : X) → i < length xs
    → Prints a b (flat_map f (take i xs)) → Prints b c (f (get_or xs i d)) → Prints a c (flat_map f (take (i + 1) xs))
Prints-next f a b c xs i d within p q =
    subst (λ (t : List _). Prints a c (flat_map f t)) (one_more-taken xs i d within)
    (Prints-item f a b c (take i xs) (get_or xs i d) p q)
