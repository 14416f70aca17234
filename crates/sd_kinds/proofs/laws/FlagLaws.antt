-- A flag among those of an ACE, and that these read back from their names.
use Rattle.std.proofs.Common.{◌≡◌, ◌≤◌, ℕ, ◌*◌, ◌/◌, ◌%◌, ◌^◌, ◌<◌, zero, suc, Bool, true, false, List, [], ◌∷◌, length}
use Rattle.std.proofs.Common.{Some, bit_and, arith, refl, sym, ap, ◌∙◌, subst, eqb-true, zero-mul}
use Rattle.std.specs.Prelude.{Option, IfSome, None, not, ◌==◌, ◌&&◌, ◌||◌, nat_lt, if◌then◌else◌}
use Rattle.std.specs.Int.{IsPowerOfTwo, bit_at}
use Rattle.std.specs.List.{list_all, list_any}
use Rattle.std.proofs.lemmas.Bool.Decides.{nat_tests}
use Rattle.std.proofs.lemmas.Nat.{le_or_l, pow_pos}
use Rattle.std.proofs.lemmas.Nat.Bits.{and_pow}
use Rattle.sd_text.specs.Bits.{has_bit}
use Rattle.sd_text.specs.Names.{run_of, names_of, named_bits}
use Rattle.sd_kinds.specs.Flags.{flags_reads, flags_text, is_flag}
use Rattle.sd_kinds.specs.declared.flags.TheConstants.{FLAGS}
use Rattle.sd_text.specs.declared.names.NamedBits.{NamedBits}
use Rattle.sd_text.proofs.laws.NameLaws.{is_single, single-power, reads_in, run-names, run-among, among, length-names}
use Rattle.sd_text.proofs.laws.NameLaws.{and_first, and_second}

-- a test of each number below another
abbrev passes_below : ℕ → (ℕ → Bool) → Bool
passes_below zero test = true
passes_below (suc n) test = test n && passes_below n test

at_below : (n : ℕ) (test : ℕ → Bool) (k : ℕ) → k < n → passes_below n test ≡ true → test k ≡ true
at_below zero test k h e = absurd (omega arith)
at_below (suc n) test k h e = by_last (k == n) refl (at_below n test k)
  where
    by_last : (b : Bool) → (k == n) ≡ b → (k < n → passes_below n test ≡ true → test k ≡ true) → test k ≡ true
    by_last true f more = ap test (eqb-true k n f) ∙ and_first (test n) _ e
    by_last false f more = more (grind (arith, nat_tests)) (and_second (test n) _ e)

-- `&` with one bit tells whether it is set
times-bit : (bit n : ℕ) → bit < 2 → 0 < n → not (bit * n == 0) ≡ (bit == 1)
times-bit zero n h p = rw (zero-mul n) refl
times-bit (suc bit) n h p = let one : bit ≡ 0 = omega arith in rw one (grind (arith, nat_tests))

and-bit : (place word : ℕ) → not (bit_and word (2 ^ place) == 0) ≡ has_bit (2 ^ place) word
and-bit place word =
    rw (and_pow word place) (times-bit (bit_at word place) (2 ^ place) (omega arith) (pow_pos place))

-- each flag is one bit
flags_single : list_all is_single FLAGS ≡ true
unfolding is_single
flags_single = refl

one_bit : (flag : ℕ) (table : List NamedBits) → list_all is_single table ≡ true
    → list_any (λ e. e.bits == flag) table ≡ true → IsPowerOfTwo flag
one_bit flag [] each found = absurd cc
one_bit flag (e ∷ es) each found =
    by_first (e.bits == flag) refl found (one_bit flag es (and_second (is_single e) _ each))
  where
    by_first : (b : Bool) → (e.bits == flag) ≡ b → (b || list_any (λ e. e.bits == flag) es) ≡ true
        → (list_any (λ e. e.bits == flag) es ≡ true → IsPowerOfTwo flag) → IsPowerOfTwo flag
    by_first true same here later =
        subst IsPowerOfTwo (eqb-true e.bits flag same) (single-power e (and_first (is_single e) _ each))
    by_first false other there later = later there

pub and-flag : (flag flags : ℕ) → is_flag flag ≡ true → not (bit_and flags flag == 0) ≡ has_bit flag flags
and-flag flag flags h =
    let one = one_bit flag FLAGS flags_single h in
    rw one.1 (and-bit one.0 flags)

flags_read : list_all (reads_in FLAGS) FLAGS ≡ true
unfolding reads_in
flags_read = refl

-- every bit but 0x20 has a name
all_named : ℕ → Bool
all_named f = f / 0x20 % 2 == 1 || named_bits FLAGS f == f

every_named : passes_below 256 all_named ≡ true
unfolding all_named
every_named = refl

named : (f : ℕ) → f / 0x20 % 2 ≡ 0 → all_named f ≡ true → named_bits FLAGS f ≡ f
unfolding all_named
named f clear h = grind (arith, nat_tests)

pub flags_text-length : (f : ℕ) → length (flags_text f) ≤ 14
unfolding flags_text
flags_text-length f = length-names FLAGS f

pub flags_read_back : (f : ℕ) → f < 256 → f / 0x20 % 2 ≡ 0 → flags_reads (flags_text f) ≡ Some f
unfolding flags_reads flags_text
flags_read_back f small clear =
    let short : nat_lt 183 (length (names_of FLAGS f)) ≡ false = let l = length-names FLAGS f in grind
    (arith, nat_tests) in
    rw short (run-names FLAGS FLAGS f flags_read ∙ ap Some (named f clear (at_below 256 all_named f small every_named)))

-- No name has bit 0x20.

all_among : list_all (λ e. among 0xdf e.bits) FLAGS ≡ true
all_among = refl

clear_among : ℕ → Bool
clear_among f = not (among 0xdf f) || f / 0x20 % 2 == 0

every_clear : passes_below 256 clear_among ≡ true
unfolding clear_among
every_clear = refl

clear : (f : ℕ) → among 0xdf f ≡ true → clear_among f ≡ true → f / 0x20 % 2 ≡ 0
unfolding clear_among
clear f h k = grind (arith, nat_tests)

pub flags-clear : (text : List ℕ) (f : ℕ) → Some f ≡ run_of FLAGS text → (f < 256) × (f / 0x20 % 2 ≡ 0)
flags-clear text f e =
    let h : among 0xdf f ≡ true = subst (λ (o : Option ℕ). IfSome o (λ n. among 0xdf n ≡ true)) (sym e)
    (run-among 0xdf FLAGS text all_among) in
    let small : f < 256 = omega (arith, le_or_l f 0xdf, eqb-true _ 0xdf h) in
    (small, clear f h (at_below 256 clear_among f small every_clear))

pub reads-clear : (text : List ℕ) (f : ℕ) → flags_reads text ≡ Some f → f / 0x20 % 2 ≡ 0
unfolding flags_reads
reads-clear text f e = by_size (nat_lt 183 (length text)) e
  where
    by_size : (b : Bool) → (if b then None else run_of FLAGS text) ≡ Some f → f / 0x20 % 2 ≡ 0
    by_size true e = absurd cc
    by_size false e = (flags-clear text f (sym e)).1
