-- Two texts whose ends are the same, where the ends overlap.
use Rattle.std.proofs.Common.{◌≡◌, ◌≤◌, ℕ, ◌+◌, ◌-◌, List, ◌++◌, take, drop, sym, ap, ◌∙◌, arith}
use Rattle.std.proofs.Math.Seq.{take-add}
use Rattle.std.proofs.lemmas.Grind.{common_steps}

shorter : (n m : ℕ) (xs : List ℕ) → n ≤ m → take n (take m xs) ≡ take n xs
shorter n m xs h = grind (arith, common_steps)

pub both-ends : (text cells : List ℕ) (size a b : ℕ) → 16 ≤ size → size ≤ 48 → 16 ≤ a → 16 ≤ b
    → take 32 text ≡ take 32 cells
    → take 16 (take a (drop (size - 16) text)) ≡ take 16 (take b (drop (size - 16) cells))
    → take size text ≡ take size cells
both-ends text cells size a b some few a16 b16 front back =
    let n = size - 16 in
    let whole : size ≡ n + 16 = omega arith in
    let short : n ≤ 32 = omega arith in
    let first : take n text ≡ take n cells =
    sym (shorter n 32 text short) ∙ ap (λ (t : List ℕ). take n t) front ∙ shorter n 32 cells short in
    let last : take 16 (drop n text) ≡ take 16 (drop n cells) =
    sym (shorter 16 a (drop n text) a16) ∙ back ∙ shorter 16 b (drop n cells) b16 in
    ap (λ (m : ℕ). take m text) whole ∙ take-add n 16 text
    ∙ ap (λ (t : List ℕ). t ++ take 16 (drop n text)) first
    ∙ ap (λ (t : List ℕ). take n cells ++ t) last
    ∙ sym (take-add n 16 cells) ∙ ap (λ (m : ℕ). take m cells) (sym whole)
