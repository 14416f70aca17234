-- The fixed array of a SID is given back by its sub-authorities.
use Rattle.std.specs.Prelude.{◌≡◌, ◌≤◌, ℕ, ◌-◌, List, ◌++◌, length, take, drop, replicate}
use Rattle.sd_text.specs.Limits.{most_subs}
use Rattle.std.proofs.Common.{arith, sym, ◌∙◌, ap, take-append-drop, length-take-le}

pub kept_length : (n : ℕ) (xs : List ℕ) → n ≤ most_subs → length xs ≡ most_subs → length (take n xs) ≡ n
kept_length n xs small full = length-take-le n xs (omega arith)

pub refilled : (n : ℕ) (xs : List ℕ) → n ≤ most_subs → length xs ≡ most_subs → drop n xs ≡ replicate (most_subs - n) 0
    → take n xs ++ replicate (most_subs - length (take n xs)) 0 ≡ xs
refilled n xs small full zeros =
    let kept = kept_length n xs small full in
    rw kept (ap (λ (ys : List ℕ). take n xs ++ ys) (sym zeros) ∙ take-append-drop n xs)
