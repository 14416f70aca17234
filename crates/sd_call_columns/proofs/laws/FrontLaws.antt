-- What is written to the front of an output.
use Rattle.std.proofs.Common.{◌≡◌, ◌++◌, ℕ, List, length, take, drop, ap, ◌∙◌, inl, inr, min, arith}
use Rattle.std.proofs.lemmas.List.{append-nil, drop_all, take_all, take_at}
use Rattle.std.proofs.lemmas.Bool.{cases_lt}

-- what is written to the front of some bytes
pub front_kept : (most size : ℕ) (old part : List ℕ) → size ≡ min most (length old) → length part ≡ size
    → take most (part ++ drop size old) ≡ part
front_kept most size old part is long = elim (cases_lt most (length old)) [
  | inl past ↦ take_at part (drop size old) most (omega (arith, is, long, past))
  | inr within ↦ (
      let whole : size ≡ length old = omega (arith, is, within) in
      let none = drop_all size old (omega (arith, whole)) in
      ap (λ (rest : List ℕ). take most (part ++ rest)) none ∙ ap (λ (l : List ℕ). take most l) (append-nil part)
      ∙ take_all most part (omega (arith, long, whole, within)))
]
