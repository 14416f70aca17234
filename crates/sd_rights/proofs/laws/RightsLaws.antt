-- Access rights read back from their text, and the text is short.
use Rattle.std.proofs.Common.{◌≡◌, ℕ, ◌^◌, ◌<◌, ◌≤◌, Bool, true, false, List, [], ◌∷◌, length, Some, None, arith, refl}
use Rattle.std.proofs.Common.{sym, ap, ◌∙◌, eqb-true, lt-ltb}
use Rattle.std.specs.Prelude.{Option, bit_and, ◌==◌, not, nat_lt, if◌then◌else◌, option_map, unwrap_or}
use Rattle.std.specs.List.{find, list_all}
use Rattle.std.specs.Char.{is_digit}
use Rattle.std.specs.Fmt.{digits}
use Rattle.std.specs.Str.Parse.{IsNumeral, digits_value}
use Rattle.std.proofs.lemmas.Fmt.{digits_is_IsNumeral}
use Rattle.std.proofs.lemmas.Bool.Decides.{nat_tests}
use Rattle.std.proofs.lemmas.Bool.{not-true}
use Rattle.sd_text.specs.Names.{run_of, names_of, named_bits}
use Rattle.sd_rights.specs.Rights.{all_rights, mask_reads, short_rights_reads, rights_reads, is_label, hex_text}
use Rattle.sd_rights.specs.Rights.{names_or_hex, rights_text, name_letters}
use Rattle.sd_kinds.specs.declared.kinds.AceKind.{AceKind}
use Rattle.sd_text.specs.declared.names.NamedBits.{NamedBits}
use Rattle.sd_rights.specs.declared.rights_table.TheConstants.{SINGLES, SINGLE_BITS, COMPOUNDS, LABELS, LABEL_BITS}
use Rattle.sd_text.proofs.laws.Bits.{or_zero}
use Rattle.sd_text.proofs.laws.HexDigits.{all_digits, length-digits}
use Rattle.sd_text.proofs.laws.NameLaws.{is_single, named_bits-single, reads_in, reads_in-rule, run-names, length-names}
use Rattle.sd_text.proofs.laws.NameLaws.{and_first, and_second}

-- 1. The test of a table, and the rule at its entries.

singles_read : list_all (reads_in all_rights) SINGLES ≡ true
unfolding reads_in
singles_read = refl

compounds_read : list_all (reads_in all_rights) COMPOUNDS ≡ true
unfolding reads_in
compounds_read = refl

labels_read : list_all (reads_in all_rights) LABELS ≡ true
unfolding reads_in
labels_read = refl

-- a name is no number
is_letter : NamedBits → Bool
is_letter e = not (is_digit e.first 10)

singles_letters : list_all is_letter SINGLES ≡ true
unfolding is_letter
singles_letters = refl

compounds_letters : list_all is_letter COMPOUNDS ≡ true
unfolding is_letter
compounds_letters = refl

labels_letters : list_all is_letter LABELS ≡ true
unfolding is_letter
labels_letters = refl

no_digit : (e : NamedBits) → is_letter e ≡ true → is_digit e.first 10 ≡ false
unfolding is_letter
no_digit e h = not-true _ h

-- each of the names of one bit, and so the bits that a mask shares with all of them have names

singles_single : list_all is_single SINGLES ≡ true
unfolding is_single
singles_single = refl

pub singles_named : (mask : ℕ) → named_bits SINGLES mask ≡ bit_and mask SINGLE_BITS
singles_named mask = named_bits-single SINGLES mask singles_single

labels_single : list_all is_single LABELS ≡ true
unfolding is_single
labels_single = refl

pub labels_named : (mask : ℕ) → named_bits LABELS mask ≡ bit_and mask LABEL_BITS
labels_named mask = named_bits-single LABELS mask labels_single

-- 2. Names read back.

starts_as_names : (es : List NamedBits) (mask : ℕ) → list_all is_letter es ≡ true
    → short_rights_reads (names_of es mask) ≡ run_of all_rights (names_of es mask)
unfolding run_of
starts_as_names [] mask h = refl
starts_as_names (e ∷ es) mask h = by_bit (bit_and mask e.bits == 0)
    (starts_as_names es mask (and_second (is_letter e) _ h))
  where
    by_bit : (b : Bool) → short_rights_reads (names_of es mask) ≡ run_of all_rights (names_of es mask)
        → short_rights_reads (if b then names_of es mask else e.first ∷ e.second ∷ names_of es mask) ≡ run_of
        all_rights (if b then names_of es mask else e.first ∷ e.second ∷ names_of es mask)
    by_bit true p = p
    by_bit false p = rw (no_digit e (and_first (is_letter e) _ h)) refl

not_long : (text : List ℕ) → length text ≤ 183 → rights_reads text ≡ short_rights_reads text
unfolding rights_reads
not_long text h = let e : nat_lt 183 (length text) ≡ false = grind (arith, nat_tests) in rw e refl

names_read : (es : List NamedBits) (mask : ℕ) → list_all (reads_in all_rights) es ≡ true → list_all is_letter es ≡ true
    → length es ≤ 17 → named_bits es mask ≡ mask
    → rights_reads (names_of es mask) ≡ Some mask
names_read es mask h letters few e =
    not_long (names_of es mask) (omega (arith, length-names es mask))
    ∙ (starts_as_names es mask letters ∙ (run-names all_rights es mask h ∙ ap Some e))

one_name : (e : NamedBits) → reads_in all_rights e ≡ true → is_letter e ≡ true
    → rights_reads (e.first ∷ e.second ∷ []) ≡ Some e.bits
unfolding run_of
one_name e h letter = not_long (e.first ∷ e.second ∷ []) (omega arith)
    ∙ rw (no_digit e letter, reads_in-rule all_rights e h) (ap Some (or_zero e.bits))

-- 3. Hex digits read back.

number-reads : (base n : ℕ) (text : List ℕ) → IsNumeral base text → digits_value base text ≡ n → n < 2 ^ 32
    → mask_reads base text ≡ Some n
number-reads base n text i v s = rw (lt-ltb 0 (length text) i.0, all_digits base text i.1, v, lt-ltb n (2 ^ 32) s) refl

length-hex : (mask : ℕ) → mask < 2 ^ 32 → length (hex_text mask) ≤ 10
length-hex mask s = omega (arith, length-digits mask s)

hex_reads : (mask : ℕ) → mask < 2 ^ 32 → rights_reads (hex_text mask) ≡ Some mask
hex_reads mask s =
    let d = digits_is_IsNumeral 16 false (omega arith) (omega arith) mask (omega arith) in
    not_long (hex_text mask) (omega (arith, length-hex mask s)) ∙ number-reads 16 mask (digits 16 false mask) d.0 d.1 s

-- 4. Every text.

names_or_hex-reads : (es : List NamedBits) (mask : ℕ) → list_all (reads_in all_rights) es ≡ true
    → list_all is_letter es ≡ true → length es ≤ 17 → mask < 2 ^ 32
    → rights_reads (names_or_hex es mask) ≡ Some mask
names_or_hex-reads es mask h letters few s = by_bits (named_bits es mask == mask) refl
  where
    by_bits : (b : Bool) → (named_bits es mask == mask) ≡ b
        → rights_reads (if b then names_of es mask else hex_text mask) ≡ Some mask
    by_bits true e = names_read es mask h letters few (eqb-true _ mask e)
    by_bits false e = hex_reads mask s

whole-reads : (es : List NamedBits) (mask : ℕ) (other : List ℕ) → list_all (reads_in all_rights) es ≡ true
    → list_all is_letter es ≡ true → rights_reads other ≡ Some mask
    → rights_reads (unwrap_or (option_map name_letters (find (λ e. e.bits == mask) es)) other) ≡ Some mask
whole-reads [] mask other h letters r = r
whole-reads (e ∷ es) mask other h letters r =
    by_bits (e.bits == mask) refl
    (whole-reads es mask other (and_second (reads_in all_rights e) _ h) (and_second (is_letter e) _ letters) r)
  where
    by_bits : (b : Bool) → (e.bits == mask) ≡ b
        → rights_reads (unwrap_or (option_map name_letters (find (λ n. n.bits == mask) es)) other) ≡ Some mask
        → rights_reads (unwrap_or (option_map name_letters (if b then Some e else find (λ n. n.bits == mask) es)) other)
        ≡ Some mask
    by_bits true same more = one_name e (and_first (reads_in all_rights e) _ h) (and_first (is_letter e) _ letters)
        ∙ ap Some (eqb-true e.bits mask same)
    by_bits false same more = more

pub rights_read_back : (kind : AceKind) (mask : ℕ) → mask < 2 ^ 32 → rights_reads (rights_text kind mask) ≡ Some mask
unfolding rights_text
rights_read_back kind mask s = by_zero (mask == 0) refl (is_label kind)
  where
    by_zero : (z : Bool) → (mask == 0) ≡ z → (label : Bool)
        → rights_reads (if z then hex_text 0 else (if label then names_or_hex LABELS mask
        else unwrap_or (option_map name_letters (find (λ e. e.bits == mask) COMPOUNDS))
        (names_or_hex SINGLES mask))) ≡ Some mask
    by_zero true e label = hex_reads 0 (omega arith) ∙ ap Some (sym (eqb-true mask 0 e))
    by_zero false e true = names_or_hex-reads LABELS mask labels_read labels_letters (omega arith) s
    by_zero false e false = whole-reads COMPOUNDS mask (names_or_hex SINGLES mask) compounds_read compounds_letters
        (names_or_hex-reads SINGLES mask singles_read singles_letters (omega arith) s)

-- 5. How long they are.

names_or_hex-length : (es : List NamedBits) (mask : ℕ) → length es ≤ 17 → mask < 2 ^ 32
    → length (names_or_hex es mask) ≤ 34
names_or_hex-length es mask few s = by_bits (named_bits es mask == mask)
  where
    by_bits : (b : Bool) → length (if b then names_of es mask else hex_text mask) ≤ 34
    by_bits true = omega (arith, length-names es mask)
    by_bits false = omega (arith, length-hex mask s)

letters-length : (o : Option NamedBits) (other : List ℕ) → length other ≤ 34
    → length (unwrap_or (option_map name_letters o) other) ≤ 34
letters-length None other h = h
letters-length (Some e) other h = omega arith

pub rights_text-length : (kind : AceKind) (mask : ℕ) → mask < 2 ^ 32 → length (rights_text kind mask) ≤ 34
unfolding rights_text
rights_text-length kind mask s = by_zero (mask == 0) (is_label kind)
  where
    by_zero : (z label : Bool)
        → length (if z then hex_text 0 else (if label then names_or_hex LABELS mask
        else unwrap_or (option_map name_letters (find (λ e. e.bits == mask) COMPOUNDS))
        (names_or_hex SINGLES mask))) ≤ 34
    by_zero true label = omega (arith, length-hex 0 (omega arith))
    by_zero false true = names_or_hex-length LABELS mask (omega arith) s
    by_zero false false = letters-length (find (λ e. e.bits == mask) COMPOUNDS) (names_or_hex SINGLES mask)
        (names_or_hex-length SINGLES mask (omega arith) s)
