-- One digit or more write the same number in a SID and in rights.
use Rattle.std.proofs.Common.{◌≡◌, ℕ, ◌+◌, ◌*◌, ◌^◌, ◌<◌, length, Bool, true, false, List, [], ◌∷◌, Option, Some}
use Rattle.std.proofs.Common.{None, refl, lt-ltb}
use Rattle.std.specs.Prelude.{nat_lt, ◌&&◌, if◌then◌else◌}
use Rattle.std.specs.Option.{option_and_then}
use Rattle.std.specs.Char.{digit_value, is_digit}
use Rattle.std.specs.List.{list_all}
use Rattle.std.specs.Str.Parse.{digits_value_after}
use Rattle.sd_rights.specs.Rights.{mask_reads}
use Rattle.sd_text.specs.Numbers.{number_after, number as number_below}

abbrev below : ℕ → ℕ → Option ℕ
below limit n = if nat_lt n limit then Some n else None

after_is : (base n : ℕ) (text : List ℕ)
    → number_after base n
    text ≡ (if list_all (λ c. is_digit c base) text then Some (digits_value_after base n text) else None)
after_is base n [] = refl
after_is base n (c ∷ cs) = by_digit (is_digit c base) (after_is base (n * base + digit_value c) cs)
  where
    by_digit : (x : Bool)
        → number_after base (n * base + digit_value c)
        cs ≡ (if list_all (λ b. is_digit b base) cs then Some
        (digits_value_after base (n * base + digit_value c) cs) else None)
        → (if x then number_after base (n * base + digit_value c) cs else None) ≡ (if x && list_all
        (λ b. is_digit b base) cs then Some (digits_value_after base (n * base + digit_value c) cs) else None)
    by_digit true e = e
    by_digit false e = refl

tested : (a : Bool) (n : ℕ)
    → option_and_then (below (2 ^ 32)) (if a then Some n else None) ≡ (if a && nat_lt n (2 ^ 32) then Some n else None)
tested true n = refl
tested false n = refl

pub number_is : (base : ℕ) (text : List ℕ) → 0 < length text → number_below base (2 ^ 32) text ≡ mask_reads base text
number_is base text some =
    rw (after_is base 0 text, lt-ltb 0 (length text) some)
    (tested (list_all (λ b. is_digit b base) text) (digits_value_after base 0 text))
