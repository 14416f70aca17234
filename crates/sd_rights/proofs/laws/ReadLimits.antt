-- What a text reads as keeps the limits of access rights and flags.
use Rattle.std.proofs.Common.{◌≡◌, ◌<◌, ℕ, ◌/◌, ◌%◌, ◌^◌, Bool, true, false, ◌&&◌, ◌||◌, List, [], ◌∷◌, length, Option}
use Rattle.std.proofs.Common.{Some, None, IfSome, refl, sym, arith, eqb-true}
use Rattle.std.specs.Prelude.{◌==◌, nat_lt, if◌then◌else◌}
use Rattle.std.specs.Char.{is_digit}
use Rattle.std.specs.List.{list_all}
use Rattle.std.specs.Str.Parse.{digits_value}
use Rattle.std.proofs.lemmas.Bool.Decides.{nat_tests}
use Rattle.std.proofs.lemmas.Nat.{le_or_l}
use Rattle.sd_kinds.specs.Flags.{flags_reads}
use Rattle.sd_text.specs.Names.{run_of}
use Rattle.sd_rights.specs.Rights.{after_zero, all_rights, mask_reads, rights_reads, short_rights_reads}
use Rattle.sd_kinds.specs.declared.flags.TheConstants.{FLAGS}
use Rattle.sd_text.proofs.laws.Options.{some-is}
use Rattle.sd_kinds.proofs.laws.FlagLaws.{flags-clear}
use Rattle.sd_text.proofs.laws.NameLaws.{among, run-among}

-- 1. Access rights.

all_words : list_all (λ e. among 0xffffffff e.bits) all_rights ≡ true
all_words = refl

among-word : (n : ℕ) → among 0xffffffff n ≡ true → n < 2 ^ 32
among-word n h = omega (arith, le_or_l n 0xffffffff, eqb-true _ 0xffffffff h)

run-limit : (text : List ℕ) → IfSome (run_of all_rights text) (λ n. n < 2 ^ 32)
run-limit text = cases (run_of all_rights text) (run-among 0xffffffff all_rights text all_words)
  where
    cases : (o : Option ℕ) → IfSome o (λ n. among 0xffffffff n ≡ true) → IfSome o (λ n. n < 2 ^ 32)
    cases None h = tt
    cases (Some n) h = among-word n h

numeral-limit : (base : ℕ) (text : List ℕ) → IfSome (mask_reads base text) (λ n. n < 2 ^ 32)
numeral-limit base text = by_test (list_all (λ c. is_digit c base) text) (nat_lt 0 (length text))
    (nat_lt (digits_value base text) (2 ^ 32)) refl
  where
    by_test : (d s b : Bool) → nat_lt (digits_value base text) (2 ^ 32) ≡ b
        → IfSome (if (s && d) && b then Some (digits_value base text) else None) (λ n. n < 2 ^ 32)
    by_test true true true e = grind (arith, nat_tests)
    by_test true true false e = tt
    by_test true false b e = tt
    by_test false true b e = tt
    by_test false false b e = tt

zero-limit : (text : List ℕ) → IfSome (after_zero text) (λ n. n < 2 ^ 32)
zero-limit [] = omega arith
zero-limit (c ∷ cs) = by_test (c == 120 || c == 88)
  where
    by_test : (b : Bool) → IfSome (if b then mask_reads 16 cs else mask_reads 8 (c ∷ cs)) (λ n. n < 2 ^ 32)
    by_test true = numeral-limit 16 cs
    by_test false = numeral-limit 8 (c ∷ cs)

short-limit : (text : List ℕ) → IfSome (short_rights_reads text) (λ n. n < 2 ^ 32)
short-limit [] = omega arith
short-limit (c ∷ cs) = by_test (is_digit c 10) (c == 48)
  where
    by_test : (d z : Bool)
        → IfSome (if d then (if z then after_zero cs else mask_reads 10 (c ∷ cs)) else run_of all_rights (c ∷ cs))
        (λ n. n < 2 ^ 32)
    by_test true true = zero-limit cs
    by_test true false = numeral-limit 10 (c ∷ cs)
    by_test false z = run-limit (c ∷ cs)

pub rights-limit : (text : List ℕ) (mask : ℕ) → rights_reads text ≡ Some mask → mask < 2 ^ 32
unfolding rights_reads
rights-limit text mask e = some-is (λ n. n < 2 ^ 32) _ mask (by_test (nat_lt 183 (length text))) e
  where
    by_test : (b : Bool) → IfSome (if b then None else short_rights_reads text) (λ n. n < 2 ^ 32)
    by_test true = tt
    by_test false = short-limit text

-- 2. Flags.

pub flags-limits : (text : List ℕ) (flags : ℕ) → flags_reads text ≡ Some flags → (flags < 256) × (flags / 0x20 % 2 ≡ 0)
unfolding flags_reads
flags-limits text flags e = by_test (nat_lt 183 (length text)) e
  where
    by_test : (b : Bool) → (if b then None else run_of FLAGS text) ≡ Some flags → (flags < 256) × (flags / 0x20 % 2 ≡ 0)
    by_test true f = absurd cc
    by_test false f = flags-clear text flags (sym f)
