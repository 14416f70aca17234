-- The bits of a table's names, one entry after another.
use Rattle.std.proofs.Common.{◌≡◌, ◌≤◌, ℕ, zero, suc, ◌*◌, ◌^◌, ◌<◌, Bool, true, false, List, [], ◌∷◌}
use Rattle.std.proofs.Common.{length, bit_and, bit_or, Some, None, arith, sym, ap, ◌∙◌, refl, eq-eqb}
use Rattle.std.proofs.Common.{eqb-true, ne_eqb, ◌+◌, ◌++◌, take, get_or, append-nil, append_assoc}
use Rattle.std.proofs.lemmas.List.{take_more}
use Rattle.std.specs.Prelude.{Option, IfSome, ◌==◌, ◌&&◌, ◌||◌, if◌then◌else◌}
use Rattle.std.specs.Char.{to_ascii_uppercase}
use Rattle.std.specs.Int.{IsPowerOfTwo, bit_at}
use Rattle.std.specs.List.{list_all}
use Rattle.std.proofs.lemmas.Nat.{or_comm, pow_pos}
use Rattle.std.proofs.lemmas.Nat.Bits.{and_pow, bit_at-lt}
use Rattle.sd_text.specs.declared.names.NamedBits.{NamedBits}
use Rattle.sd_text.specs.Names.{bits_named, joined, run_of, names_of, named_bits}
use Rattle.sd_text.proofs.laws.Bits.{and_or, and_zero, or_assoc, or_zero, zero_or}

with_name : (e : NamedBits) (es : List NamedBits) (mask : ℕ) → (bit_and mask e.bits ≡ 0 → ⊥)
    → named_bits (e ∷ es) mask ≡ bit_or e.bits (named_bits es mask)
with_name e es mask h = ap (λ (b : Bool). if b then named_bits es mask else bit_or e.bits (named_bits es mask))
    (ne_eqb _ 0 h)

without_name : (e : NamedBits) (es : List NamedBits) (mask : ℕ) → bit_and mask e.bits ≡ 0
    → named_bits (e ∷ es) mask ≡ named_bits es mask
without_name e es mask h = ap (λ (b : Bool). if b then named_bits es mask else bit_or e.bits (named_bits es mask))
    (eq-eqb _ 0 h)

pub and_first : (x y : Bool) → (x && y) ≡ true → x ≡ true
and_first true y e = refl
and_first false y e = absurd cc

pub and_second : (x y : Bool) → (x && y) ≡ true → y ≡ true
and_second true y e = e
and_second false y e = absurd cc

-- a number is one of the first bits by itself
abbrev pub is_bit_below : ℕ → ℕ → Bool
is_bit_below zero bits = false
is_bit_below (suc n) bits = bits == 2 ^ n || is_bit_below n bits

bit_below-power : (n bits : ℕ) → is_bit_below n bits ≡ true → IsPowerOfTwo bits
bit_below-power zero bits h = absurd cc
bit_below-power (suc n) bits h = by_last (bits == 2 ^ n) refl h (bit_below-power n bits)
  where
    by_last : (b : Bool) → (bits == 2 ^ n) ≡ b → (b || is_bit_below n bits) ≡ true
        → (is_bit_below n bits ≡ true → IsPowerOfTwo bits) → IsPowerOfTwo bits
    by_last true same here later = (n, eqb-true bits (2 ^ n) same)
    by_last false other there later = later there

-- the name stands for one bit
unfoldable pub is_single : NamedBits → Bool
is_single e = is_bit_below 32 e.bits

pub single-power : (e : NamedBits) → is_single e ≡ true → IsPowerOfTwo e.bits
unfolding is_single
single-power e h = bit_below-power 32 e.bits h

abbrev pub all_bits : List NamedBits → ℕ
all_bits [] = 0
all_bits (e ∷ es) = bit_or e.bits (all_bits es)

-- where each name stands for one bit, the bits that are named are those that a mask shares with all of them
pub named_bits-single : (es : List NamedBits) (mask : ℕ) → list_all is_single es ≡ true
    → named_bits es mask ≡ bit_and mask (all_bits es)
named_bits-single [] mask h = sym (and_zero mask)
named_bits-single (e ∷ es) mask h =
    sym (and_or mask e.bits (all_bits es)
    ∙ ap (bit_or (bit_and mask e.bits)) (sym (named_bits-single es mask (and_second (is_single e) _ h)))
    ∙ by_bit (bit_at mask one.0) refl (bit_at-lt mask one.0))
  where
    one : IsPowerOfTwo e.bits
    one = single-power e (and_first (is_single e) _ h)

    shared : bit_and mask e.bits ≡ bit_at mask one.0 * e.bits
    shared = ap (bit_and mask) one.1 ∙ and_pow mask one.0 ∙ ap (λ (n : ℕ). bit_at mask one.0 * n) (sym one.1)

    by_bit : (b : ℕ) → bit_at mask one.0 ≡ b → b < 2
        → bit_or (bit_and mask e.bits) (named_bits es mask) ≡ named_bits (e ∷ es) mask
    by_bit zero at small =
        let none : bit_and mask e.bits ≡ 0 = shared ∙ ap (λ (n : ℕ). n * e.bits) at ∙ omega arith in
        ap (λ (n : ℕ). bit_or n (named_bits es mask)) none ∙ zero_or (named_bits es mask)
        ∙ sym (without_name e es mask none)
    by_bit (suc zero) at small =
        let all : bit_and mask e.bits ≡ e.bits = shared ∙ ap (λ (n : ℕ). n * e.bits) at ∙ omega arith in
        let some : 0 < e.bits = omega (arith, pow_pos one.0, one.1) in
        ap (λ (n : ℕ). bit_or n (named_bits es mask)) all
        ∙ sym (with_name e es mask (λ (none : bit_and mask e.bits ≡ 0). omega arith))
    by_bit (suc (suc b)) at small = absurd (omega arith)

-- What names read as.

joined-assoc : (bits more : ℕ) (o : Option ℕ)
    → joined (Some bits) (joined (Some more) o) ≡ joined (Some (bit_or bits more)) o
joined-assoc bits more None = refl
joined-assoc bits more (Some n) = ap Some (sym (or_assoc bits more n))

-- one name more of a run
pub run-step : (table : List NamedBits) (bits more a b : ℕ) (text tail rest : List ℕ) → text ≡ a ∷ tail
    → tail ≡ b ∷ rest → Some more ≡ bits_named table a b
    → joined (Some (bit_or bits more)) (run_of table rest) ≡ joined (Some bits) (run_of table text)
unfolding run_of
run-step table bits more a b text tail rest e f known =
    rw (e, f) (sym (joined-assoc bits more (run_of table rest))
    ∙ ap (λ (o : Option ℕ). joined (Some bits) (joined o (run_of table rest))) known)

-- and none more
pub run-end : (table : List NamedBits) (bits : ℕ) (text : List ℕ) → length text ≡ 0
    → Some bits ≡ joined (Some bits) (run_of table text)
unfolding run_of
run-end table bits [] e = ap Some (sym (or_zero bits))
run-end table bits (a ∷ tail) e = absurd (omega arith)

-- The run of names at the front of a text has these bits, whatever follows it.
abbrev pub HasRun : List NamedBits → List ℕ → ℕ → Type 0
HasRun table front bits = (rest : List ℕ) → run_of table (front ++ rest) ≡ joined (Some bits) (run_of table rest)

-- one name more behind it
pub one-name : (table : List NamedBits) (bits more i : ℕ) (text : List ℕ) → i + 1 < length text
    → HasRun table (take i text) bits → Some more ≡ bits_named table (get_or text i 0) (get_or text (i + 1) 0)
    → HasRun table (take (i + 2) text) (bit_or bits more)
one-name table bits more i text h run known rest =
    let a = get_or text i 0 in
    let b = get_or text (i + 1) 0 in
    let next : i + 2 ≡ (i + 1) + 1 = omega arith in
    let two : take (i + 2) text ≡ (take i text ++ a ∷ []) ++ b ∷ [] =
    ap (λ n. take n text) next ∙ take_more text (i + 1) 0 h
    ∙ ap (λ (t : List ℕ). t ++ b ∷ []) (take_more text i 0 (omega (arith, h))) in
    ap (λ (t : List ℕ). run_of table (t ++ rest)) two
    ∙ ap (run_of table) (append_assoc (take i text ++ a ∷ []) (b ∷ []) rest
    ∙ append_assoc (take i text) (a ∷ []) (b ∷ rest))
    ∙ run (a ∷ b ∷ rest)
    ∙ sym (run-step table bits more a b (a ∷ b ∷ rest) (b ∷ rest) rest refl refl known)

-- the run by itself
pub run-alone : (table : List NamedBits) (front : List ℕ) (bits : ℕ) → HasRun table front bits
    → run_of table front ≡ Some bits
unfolding run_of
run-alone table front bits run =
    ap (run_of table) (sym (append-nil front)) ∙ run [] ∙ ap Some (or_zero bits)

-- every bit of a mask is among these
abbrev pub among : ℕ → ℕ → Bool
among most mask = bit_or mask most == most

joined-among : (most : ℕ) (o p : Option ℕ) → IfSome o (λ n. among most n ≡ true) → IfSome p (λ n. among most n ≡ true)
    → IfSome (joined o p) (λ n. among most n ≡ true)
joined-among most None p h k = tt
joined-among most (Some n) None h k = tt
joined-among most (Some n) (Some more) h k =
    eq-eqb _ most (or_assoc n more most ∙ (ap (bit_or n) (eqb-true _ most k) ∙ eqb-true _ most h))

named-among : (most : ℕ) (table : List NamedBits) (a b : ℕ) → list_all (λ e. among most e.bits) table ≡ true
    → IfSome (bits_named table a b) (λ n. among most n ≡ true)
named-among most [] a b h = tt
named-among most (e ∷ es) a b h =
    by_name (e.first == to_ascii_uppercase a && e.second == to_ascii_uppercase b)
    (named-among most es a b (and_second (among most e.bits) _ h))
  where
    by_name : (x : Bool) → IfSome (bits_named es a b) (λ n. among most n ≡ true)
        → IfSome (if x then Some e.bits else bits_named es a b) (λ n. among most n ≡ true)
    by_name true k = and_first (among most e.bits) _ h
    by_name false k = k

-- a run of names has no other bits than its table
pub run-among : (most : ℕ) (table : List NamedBits) (text : List ℕ) → list_all (λ e. among most e.bits) table ≡ true
    → IfSome (run_of table text) (λ n. among most n ≡ true)
unfolding run_of
run-among most table [] h = eq-eqb _ most (or_comm 0 most ∙ or_zero most)
run-among most table (a ∷ []) h = tt
run-among most table (a ∷ b ∷ rest) h = joined-among most (bits_named table a b) (run_of table rest)
    (named-among most table a b h) (run-among most table rest h)

-- What is printed reads back.

abbrev pub is_bits : Option ℕ → ℕ → Bool
is_bits None bits = false
is_bits (Some n) bits = n == bits

-- an entry's name reads in a table as its bits
unfoldable pub reads_in : List NamedBits → NamedBits → Bool
reads_in table e = is_bits (bits_named table e.first e.second) e.bits

is_bits-Some : (o : Option ℕ) (bits : ℕ) → is_bits o bits ≡ true → o ≡ Some bits
is_bits-Some None bits h = absurd cc
is_bits-Some (Some n) bits h = ap Some (eqb-true n bits h)

pub reads_in-rule : (table : List NamedBits) (e : NamedBits) → reads_in table e ≡ true
    → bits_named table e.first e.second ≡ Some e.bits
unfolding reads_in
reads_in-rule table e h = is_bits-Some _ e.bits h

pub run-names : (table es : List NamedBits) (mask : ℕ) → list_all (reads_in table) es ≡ true
    → run_of table (names_of es mask) ≡ Some (named_bits es mask)
unfolding run_of
run-names table [] mask h = refl
run-names table (e ∷ es) mask h = by_bit (bit_and mask e.bits == 0)
    (run-names table es mask (and_second (reads_in table e) _ h))
  where
    by_bit : (b : Bool) → run_of table (names_of es mask) ≡ Some (named_bits es mask)
        → run_of table (if b then names_of es mask else e.first ∷ e.second ∷ names_of es mask) ≡ Some
        (if b then named_bits es mask else bit_or e.bits (named_bits es mask))
    by_bit true p = p
    by_bit false p = rw (reads_in-rule table e (and_first (reads_in table e) _ h), p) refl

pub length-names : (es : List NamedBits) (mask : ℕ) → length (names_of es mask) ≤ 2 * length es
length-names [] mask = omega arith
length-names (e ∷ es) mask = by_bit (bit_and mask e.bits == 0) (length-names es mask)
  where
    by_bit : (b : Bool) → length (names_of es mask) ≤ 2 * length es
        → length (if b then names_of es mask else e.first ∷ e.second ∷ names_of es mask) ≤ 2 * length (e ∷ es)
    by_bit true p = omega arith
    by_bit false p = omega arith
