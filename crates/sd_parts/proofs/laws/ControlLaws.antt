-- The flags of an ACL beside the other bits of a control word.
use Rattle.std.proofs.Common.{◌≡◌, ◌≤◌, ◌<◌, ℕ, ◌+◌, ◌*◌, ◌/◌, ◌%◌, ◌^◌, eqb, Bool, true, false, bit_or, refl, sym, ap}
use Rattle.std.proofs.Common.{◌∙◌, arith}
use Rattle.std.specs.Int.{bit_at}
use Rattle.std.proofs.lemmas.Bool.Decides.{nat_tests}
use Rattle.std.proofs.lemmas.Nat.{or_disjoint}
use Rattle.std.proofs.lemmas.Nat.Bits.{and_pow, bit_at_or, bit_at-pow_other}
use Rattle.sd_text.specs.Bits.{has_bit}
use Rattle.sd_parts.specs.Control.{acl_flags, all_flags, bit_if, control_of, flag_bits, no_flags, other_acl}
use Rattle.sd_parts.specs.Control.{dacl_present, sacl_present, self_relative}
use Rattle.sd_parts.specs.declared.part.Which.{Which}
use Rattle.sd_parts.specs.declared.part.Which.TheVariants as lists
use Rattle.sd_parts.specs.declared.control.AclFlags.{AclFlags}

-- a bit more, where it is clear
add-bit : (n k : ℕ) → bit_at n k ≡ 0 → bit_or n (2 ^ k) ≡ n + 2 ^ k
add-bit n k e = or_disjoint n (2 ^ k) (and_pow n k ∙ ap (λ (b : ℕ). b * 2 ^ k) e ∙ omega arith)

add-other : (n k i : ℕ) → bit_at n k ≡ 0 → (i ≡ k → ⊥) → bit_at (n + 2 ^ k) i ≡ bit_at n i
add-other n k i e other =
    ap (λ (m : ℕ). bit_at m i) (sym (add-bit n k e)) ∙ omega (arith, bit_at_or n (2 ^ k) i, bit_at-pow_other k i other)

-- the same where it may be added
put-other : (s : Bool) (n k i : ℕ) → bit_at n k ≡ 0 → (i ≡ k → ⊥) → bit_at (n + bit_if s (2 ^ k)) i ≡ bit_at n i
put-other true n k i e other = add-other n k i e other
put-other false n k i e other = ap (λ (m : ℕ). bit_at m i) (omega arith)

-- three bits, each where it is clear
put-three : (a b c : Bool) (n k l m i : ℕ) → bit_at n k ≡ 0 → bit_at n l ≡ 0 → bit_at n m ≡ 0 → (l ≡ k → ⊥)
    → (m ≡ k → ⊥)
    → (m ≡ l → ⊥) → (i ≡ k → ⊥) → (i ≡ l → ⊥) → (i ≡ m → ⊥)
    → bit_at (n + (bit_if a (2 ^ k) + bit_if b (2 ^ l) + bit_if c (2 ^ m))) i ≡ bit_at n i
put-three a b c n k l m i e f g lk mk ml ik il im =
    let one = n + bit_if a (2 ^ k) in
    let two = one + bit_if b (2 ^ l) in
    let clear_l : bit_at one l ≡ 0 = put-other a n k l e lk ∙ f in
    let clear_m : bit_at two m ≡ 0 = put-other b one l m clear_l ml ∙ put-other a n k m e mk ∙ g in
    ap (λ (w : ℕ). bit_at w i) (omega arith) ∙ put-other c two m i clear_m im ∙ put-other b one l i clear_l il
    ∙ put-other a n k i e ik

-- what stands where a bit may be set
pub bit_if-times : (b : Bool) (n k : ℕ) → bit_if b (n * k) ≡ n * bit_if b k
bit_if-times true n k = refl
bit_if-times false n k = omega arith

pub bit_if-most : (b : Bool) (n : ℕ) → bit_if b n ≤ n
bit_if-most true n = omega arith
bit_if-most false n = omega arith

-- a bit that is not set
clear-bit : (n : ℕ) → n < 2 → eqb n 1 ≡ false → n ≡ 0
clear-bit n small e = grind (arith, nat_tests)

-- the flags that a word does not have
record Clear (n k l m : ℕ) : Type 0 where
  first : bit_at n k ≡ 0
  second : bit_at n l ≡ 0
  third : bit_at n m ≡ 0

sacl-clear : (n : ℕ) → acl_flags lists.Sacl n ≡ no_flags → Clear n 13 9 11
sacl-clear n e = record {
  first = clear-bit (bit_at n 13) (omega arith) (ap (λ (f : AclFlags). f.protected) e);
  second = clear-bit (bit_at n 9) (omega arith) (ap (λ (f : AclFlags). f.auto_inherit_required) e);
  third = clear-bit (bit_at n 11) (omega arith) (ap (λ (f : AclFlags). f.auto_inherited) e);
}

dacl-clear : (n : ℕ) → acl_flags lists.Dacl n ≡ no_flags → Clear n 12 8 10
dacl-clear n e = record {
  first = clear-bit (bit_at n 12) (omega arith) (ap (λ (f : AclFlags). f.protected) e);
  second = clear-bit (bit_at n 8) (omega arith) (ap (λ (f : AclFlags). f.auto_inherit_required) e);
  third = clear-bit (bit_at n 10) (omega arith) (ap (λ (f : AclFlags). f.auto_inherited) e);
}

-- a bit is not one of those that a word has
elsewhere : (word bit k : ℕ) → has_bit (2 ^ k) word ≡ true → has_bit (2 ^ bit) word ≡ false → bit ≡ k → ⊥
elsewhere word bit k e none at =
    let same : has_bit (2 ^ bit) word ≡ has_bit (2 ^ k) word = ap (λ (p : ℕ). has_bit (2 ^ p) word) at in
    let no : true ≡ false = sym e ∙ sym same ∙ none in
    cc

-- the other bits are as they were
pub bits-same : (w : Which) (f : AclFlags) (others bit : ℕ) → acl_flags w others ≡ no_flags
    → has_bit (2 ^ bit) (flag_bits w all_flags) ≡ false
    → has_bit (2 ^ bit) (others + flag_bits w f) ≡ has_bit (2 ^ bit) others
bits-same lists.Sacl f others bit e none =
    let clear = sacl-clear others e in
    let mask = flag_bits lists.Sacl all_flags in
    ap (λ (b : ℕ). eqb b 1)
    (put-three f.protected f.auto_inherit_required f.auto_inherited others 13 9 11 bit clear.first clear.second
    clear.third
    (λ x. omega (arith, x)) (λ x. omega (arith, x)) (λ x. omega (arith, x)) (elsewhere mask bit 13 refl none)
    (elsewhere mask bit 9 refl none) (elsewhere mask bit 11 refl none))
bits-same lists.Dacl f others bit e none =
    let clear = dacl-clear others e in
    let mask = flag_bits lists.Dacl all_flags in
    ap (λ (b : ℕ). eqb b 1)
    (put-three f.protected f.auto_inherit_required f.auto_inherited others 12 8 10 bit clear.first clear.second
    clear.third
    (λ x. omega (arith, x)) (λ x. omega (arith, x)) (λ x. omega (arith, x)) (elsewhere mask bit 12 refl none)
    (elsewhere mask bit 8 refl none) (elsewhere mask bit 10 refl none))

abbrev flags : Bool → Bool → Bool → AclFlags
flags p r i = record { protected = p; auto_inherit_required = r; auto_inherited = i }

same-flags : (p q r s t u : Bool) → p ≡ q → r ≡ s → t ≡ u → flags p r t ≡ flags q s u
same-flags p q r s t u e f g = rw (e, f, g) refl

-- and so are the flags of the other ACL
pub flags-apart : (w : Which) (f : AclFlags) (others : ℕ) → acl_flags w others ≡ no_flags
    → acl_flags (other_acl w) (others + flag_bits w f) ≡ acl_flags (other_acl w) others
flags-apart lists.Sacl f others e =
    same-flags _ _ _ _ _ _ (bits-same lists.Sacl f others 12 e refl) (bits-same lists.Sacl f others 8 e refl)
    (bits-same lists.Sacl f others 10 e refl)
flags-apart lists.Dacl f others e =
    same-flags _ _ _ _ _ _ (bits-same lists.Dacl f others 13 e refl) (bits-same lists.Dacl f others 9 e refl)
    (bits-same lists.Dacl f others 11 e refl)

-- the control word of ACLs that stand or not
pub record IsControl (word : ℕ) (s d : Bool) : Type 0 where
  pub small : word < 2 ^ 16
  pub relative : self_relative word ≡ true
  pub sacl : sacl_present word ≡ s
  pub dacl : dacl_present word ≡ d

bit-test : (n : ℕ) (b : Bool) → n ≡ bit_if b 1 → eqb n 1 ≡ b
bit-test n true e = rw e refl
bit-test n false e = rw e refl

pub control-bits : (flags : ℕ) (sacl dacl : Bool) → flags < 2 ^ 16 → IsControl (control_of flags sacl dacl) sacl dacl
control-bits flags sacl dacl h =
    let word = control_of flags sacl dacl in
    let s = bit_if-times sacl 0x10 1 in
    let d = bit_if-times dacl 0x4 1 in
    let s_most = bit_if-most sacl 1 in
    let d_most = bit_if-most dacl 1 in
    let first : word / 0x8000 % 2 ≡ 1 = omega arith in
    let second : word / 0x10 % 2 ≡ bit_if sacl 1 = omega arith in
    let third : word / 0x4 % 2 ≡ bit_if dacl 1 = omega arith in
    record {
      small = omega arith;
      relative = bit-test _ true first;
      sacl = bit-test _ sacl second;
      dacl = bit-test _ dacl third;
    }
