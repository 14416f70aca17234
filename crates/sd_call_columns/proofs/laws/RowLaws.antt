-- The rows of a column, and the answers to them.
use Rattle.std.proofs.Common.{◌≡◌, ◌<◌, ◌+◌, ℕ, suc, zero, List, [], ◌∷◌, length, get_or, map, Result, Ok, Err, refl}
use Rattle.std.proofs.Common.{ap, ◌∙◌, add-one, arith}
use Rattle.std.proofs.lemmas.List.{get_or-map, length-map}
use Rattle.sd_text.specs.Chains.{and_then}
use Rattle.sd_call.specs.Columns.{row_between, rows, rows_from}
use Rattle.sd_call.specs.declared.outcome.CallFault.{CallFault}
use Rattle.sd_call_columns.specs.Answered.{answers_by}

row_from : (bytes : List ℕ) (from : ℕ) (ends : List ℕ) (i : ℕ) (d : Result (List ℕ) CallFault) → i < length ends
    → get_or (rows_from bytes from ends) i d ≡ row_between bytes (get_or (from ∷ ends) i 0) (get_or ends i 0)
row_from bytes from [] i d less = absurd (omega (arith, less))
row_from bytes from (to ∷ others) zero d less = refl
row_from bytes from (to ∷ others) (suc i) d less = row_from bytes to others i d (omega (arith, less))

pub row_is : (bytes offsets : List ℕ) (i : ℕ) (d : Result (List ℕ) CallFault) → i + 1 < length offsets
    → get_or (rows bytes offsets) i d ≡ row_between bytes (get_or offsets i 0) (get_or offsets (i + 1) 0)
row_is bytes [] i d less = absurd (omega (arith, less))
row_is bytes (from ∷ others) i d less = rw add-one (row_from bytes from others i d (omega (arith, less)))

count_from : (bytes : List ℕ) (from : ℕ) (ends : List ℕ) → length (rows_from bytes from ends) ≡ length ends
count_from bytes from [] = refl
count_from bytes from (to ∷ others) = ap suc (count_from bytes to others)

pub count_rows : (bytes offsets : List ℕ) → 0 < length offsets → length (rows bytes offsets) + 1 ≡ length offsets
count_rows bytes [] less = absurd (omega (arith, less))
count_rows bytes (from ∷ others) less = let n = count_from bytes from others in omega (arith, n)

pub answer_count : (answer : List ℕ → Result (List ℕ) CallFault) (bytes offsets : List ℕ) → 0 < length offsets
    → length (answers_by answer bytes offsets) + 1 ≡ length offsets
answer_count answer bytes offsets less =
    let n = count_rows bytes offsets less in
    let m = length-map (rows bytes offsets) (λ (row : Result (List ℕ) CallFault). and_then row answer) in
    omega (arith, n, m)

pub answer_at : (answer : List ℕ → Result (List ℕ) CallFault) (bytes offsets : List ℕ) (i : ℕ) → i + 1 < length offsets
    → get_or (answers_by answer bytes offsets) i (Ok [])
    ≡ and_then (row_between bytes (get_or offsets i 0) (get_or offsets (i + 1) 0)) answer
answer_at answer bytes offsets i less =
    let n = count_rows bytes offsets (omega (arith, less)) in
    get_or-map (λ (row : Result (List ℕ) CallFault). and_then row answer) (rows bytes offsets) i (Ok []) (Ok [])
    (omega (arith, less, n))
    ∙ ap (λ (row : Result (List ℕ) CallFault). and_then row answer) (row_is bytes offsets i (Ok []) less)

pub map_same : {X Y : Type 0} (f g : X → Y) → ((x : X) → f x ≡ g x) → (xs : List X) → map f xs ≡ map g xs
map_same f g same [] = refl
map_same {X} {Y} f g same (x ∷ xs) = ap (λ (y : Y). y ∷ map f xs) (same x)
    ∙ ap (λ (ys : List Y). g x ∷ ys) (map_same f g same xs)

same_row : (f g : List ℕ → Result (List ℕ) CallFault) → ((bytes : List ℕ) → f bytes ≡ g bytes)
    → (row : Result (List ℕ) CallFault) → and_then row f ≡ and_then row g
same_row f g same (Ok bytes) = same bytes
same_row f g same (Err fault) = refl

-- Where the answers to all bytes are the same, those to the rows are.
pub answers_same : (f g : List ℕ → Result (List ℕ) CallFault) → ((bytes : List ℕ) → f bytes ≡ g bytes)
    → (bytes offsets : List ℕ) → answers_by f bytes offsets ≡ answers_by g bytes offsets
answers_same f g same bytes offsets =
    map_same (λ (row : Result (List ℕ) CallFault). and_then row f)
    (λ (row : Result (List ℕ) CallFault). and_then row g) (same_row f g same) (rows bytes offsets)
