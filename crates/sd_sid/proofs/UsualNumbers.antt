-- A decimal number of a SID, from the digits that write it.
use Rattle.std.proofs.Common.{ℕ, ◌+◌, ◌*◌, ◌^◌, ◌<◌, ◌≤◌, ◌≡◌, Bool, true, false, ◌&&◌, List, [], ◌∷◌, length}
use Rattle.std.proofs.Common.{Some, None, refl, arith}
use Rattle.std.specs.Prelude.{nat_lt, nat_le, if◌then◌else◌}
use Rattle.std.specs.Char.{digit_value, is_digit}
use Rattle.std.specs.List.{list_all}
use Rattle.std.proofs.lemmas.Bool.Decides.{nat_tests}
use Rattle.sd_sid.specs.SidText.{decimal_reads, is_decimal}
use Rattle.sd_text.specs.Numbers.{number_after}

pub digits : (n m : ℕ) (text : List ℕ) → number_after 10 n text ≡ Some m → list_all (λ b. is_digit b 10) text ≡ true
digits n m [] e = refl
digits n m (c ∷ cs) e = by_digit (is_digit c 10) (digits (n * 10 + digit_value c) m cs) e
  where
    by_digit : (d : Bool)
        → (number_after 10 (n * 10 + digit_value c) cs ≡ Some m → list_all (λ b. is_digit b 10) cs ≡ true)
        → (if d then number_after 10 (n * 10 + digit_value c) cs else None) ≡ Some m
        → (d && list_all (λ b. is_digit b 10) cs) ≡ true
    by_digit true f e = f e
    by_digit false f e = absurd cc

pub decimal_is : (m : ℕ) (text : List ℕ) → 0 < length text → number_after 10 0 text ≡ Some m → is_decimal text ≡ true
decimal_is m text some e =
    let l : nat_lt 0 (length text) ≡ true = grind (arith, nat_tests) in
    rw (l, digits 0 m text e) refl

pub reads_is : (m : ℕ) (text : List ℕ) → length text ≤ 10 → m < 2 ^ 32 → number_after 10 0 text ≡ Some m
    → decimal_reads text ≡ Some m
reads_is m text short small e =
    let l : nat_le (length text) 10 ≡ true = grind (arith, nat_tests) in
    let s : nat_lt m (2 ^ 32) ≡ true = grind (arith, nat_tests) in
    rw (l, e, s) refl
