-- A number that grew too large stays too large.
use Rattle.std.proofs.Common.{◌≡◌, ℕ, ◌+◌, ◌*◌, ◌≤◌, Bool, true, false, List, [], ◌∷◌, Some, None, refl, arith}
use Rattle.std.specs.Prelude.{nat_lt, if◌then◌else◌}
use Rattle.std.specs.Option.{option_and_then}
use Rattle.std.specs.Char.{digit_value, is_digit}
use Rattle.std.proofs.Math.Nat.{mul-le-mul_left}
use Rattle.std.proofs.lemmas.Bool.Decides.{nat_tests}
use Rattle.sd_text.specs.Numbers.{number_after}

not_below : (limit n : ℕ) → limit ≤ n → nat_lt n limit ≡ false
not_below limit n h = grind (arith, nat_tests)

grows : (base n d limit : ℕ) → 1 ≤ base → limit ≤ n → limit ≤ n * base + d
grows base n d limit b h = omega (arith, mul-le-mul_left n b)

pub too_big : (base limit n : ℕ) (bs : List ℕ) → 1 ≤ base → limit ≤ n
    → option_and_then (λ m. if nat_lt m limit then Some m else None) (number_after base n bs) ≡ None
too_big base limit n [] b h = rw (not_below limit n h) refl
too_big base limit n (c ∷ cs) b h = by_digit (is_digit c base)
    (too_big base limit (n * base + digit_value c) cs b (grows base n (digit_value c) limit b h))
  where
    by_digit : (x : Bool)
        → option_and_then (λ m. if nat_lt m limit then Some m else None)
        (number_after base (n * base + digit_value c) cs) ≡ None
        → option_and_then (λ m. if nat_lt m limit then Some m else None)
        (if x then number_after base (n * base + digit_value c) cs else None) ≡ None
    by_digit true e = e
    by_digit false e = refl
