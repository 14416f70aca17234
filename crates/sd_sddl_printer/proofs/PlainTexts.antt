-- What is printed in a field is plain: letters, digits, dashes and underscores; and no field is long.
use Rattle.std.proofs.Common.{◌≡◌, ◌≤◌, ◌<◌, ℕ, zero, suc, ◌^◌, Bool, true, false, ◌&&◌, ◌||◌, List, [], ◌∷◌, ◌++◌}
use Rattle.std.proofs.Common.{length, Option, Some, None, refl, ap, ◌∙◌, arith}
use Rattle.std.specs.Prelude.{IfSome, ◌==◌, bit_and, codes, if◌then◌else◌, nat_lt}
use Rattle.std.specs.Char.{digit_value, is_ascii_uppercase}
use Rattle.std.specs.Fmt.{digits}
use Rattle.std.specs.List.{find, list_all, list_any}
use Rattle.std.specs.Str.Parse.{AllDigits}
use Rattle.std.proofs.lemmas.Bool.Decides.{nat_tests}
use Rattle.std.proofs.lemmas.Fmt.{digits_is_IsNumeral}
use Rattle.std.proofs.lemmas.List.Folds.{list_all-append}
use Rattle.std.specs.Option.{option_map, unwrap_or}
use Rattle.uuid.specs.Text.{by_index, digit_place, hex_digit, is_hyphen_place, nibble}
use Rattle.uuid.proofs.TextLemmas.{nibble_small}
use Rattle.sd_kinds.specs.Flags.{flags_text}
use Rattle.sd_ace.specs.GuidText.{guid_text}
use Rattle.sd_kinds.proofs.laws.KindLaws.{letters-pass}
use Rattle.sd_text.specs.Names.{named_bits, names_of}
use Rattle.sd_rights.specs.Rights.{hex_text, is_label, names_or_hex, rights_text, name_letters}
use Rattle.sd_sid.specs.Sid.{IsSid, SecurityId}
use Rattle.sd_sid.specs.SidText.{alias_of, is_sid_byte, sid_text}
use Rattle.sd_kinds.specs.declared.kinds.AceKind.{AceKind}
use Rattle.sd_kinds.specs.declared.flags.TheConstants.{FLAGS}
use Rattle.sd_text.specs.declared.names.NamedBits.{NamedBits}
use Rattle.sd_rights.specs.declared.rights_table.TheConstants.{COMPOUNDS, LABELS, SINGLES}
use Rattle.sd_sid.proofs.laws.AliasLaws.{alias-letters}
use Rattle.std.proofs.lemmas.Bool.{and_parts}
use Rattle.sd_sid.proofs.laws.TextLaws.{sid_text-bytes}
use Rattle.sd_sid.specs.declared.naming.Naming.{Naming}
use Rattle.sd_sddl_fields.specs.FieldTexts.{is_blank}
use Rattle.sd_sddl_builder.specs.Meaning.{is_unreadable}
use Rattle.sd_parts.specs.declared.control.AclFlags.{AclFlags}
use Rattle.sd_sddl_printer.specs.Printed.{acl_flags_text, kind_text, object_text, text_if, trustee_text}

-- 1. Plain bytes.

abbrev pub is_plain_byte : ℕ → Bool
is_plain_byte b = is_sid_byte b || b == 95

abbrev pub IsPlain : List ℕ → Type 0
IsPlain text = list_all is_plain_byte text ≡ true

-- no byte that is not plain
other_byte : (b mark : ℕ) → is_plain_byte mark ≡ false → is_plain_byte b ≡ true → (b == mark) ≡ false
other_byte b mark e h = by_test (b == mark) refl
  where
    by_test : (t : Bool) → (b == mark) ≡ t → t ≡ false
    by_test false f = refl
    by_test true f =
        let same : b ≡ mark = grind (arith, nat_tests) in
        let again : is_plain_byte b ≡ false = ap is_plain_byte same ∙ e in
        cc

-- no parenthesis, semicolon, colon or blank
pub record IsNoMark (b : ℕ) : Type 0 where
  pub opening : (b == 40) ≡ false
  pub closing : (b == 41) ≡ false
  pub semicolon : (b == 59) ≡ false
  pub colon : (b == 58) ≡ false
  pub blank : is_blank b ≡ false

pub no_mark : (b : ℕ) → is_plain_byte b ≡ true → IsNoMark b
no_mark b h = record {
  opening = other_byte b 40 refl h;
  closing = other_byte b 41 refl h;
  semicolon = other_byte b 59 refl h;
  colon = other_byte b 58 refl h;
  blank = rw (other_byte b 32 refl h, other_byte b 9 refl h) refl;
}

pub plain-append : (xs ys : List ℕ) → IsPlain xs → IsPlain ys → IsPlain (xs ++ ys)
plain-append xs ys e f = list_all-append is_plain_byte xs ys ∙ rw (e, f) refl

-- a text of bytes that are plain
plain-more : (p : ℕ → Bool) → ((b : ℕ) → p b ≡ true → is_plain_byte b ≡ true) → (text : List ℕ) → list_all p text ≡ true
    → IsPlain text
plain-more p h [] e = refl
plain-more p h (b ∷ bs) e = let parts = and_parts (p b) _ e in rw (h b parts.0) (plain-more p h bs parts.1)

upper_is_plain : (b : ℕ) → is_ascii_uppercase b ≡ true → is_plain_byte b ≡ true
upper_is_plain b e = grind (arith, nat_tests)

sid_byte_is_plain : (b : ℕ) → is_sid_byte b ≡ true → is_plain_byte b ≡ true
sid_byte_is_plain b e = rw e refl

-- 2. A plain text that is not too long can be read.

no_blanks : (text : List ℕ) → IsPlain text → list_any is_blank text ≡ false
no_blanks [] h = refl
no_blanks (b ∷ bs) h =
    let parts = and_parts (is_plain_byte b) _ h in rw (no_mark b parts.0).blank (no_blanks bs parts.1)

pub plain-readable : (text : List ℕ) → IsPlain text → length text ≤ 183 → is_unreadable text ≡ false
plain-readable text h short =
    let fits : nat_lt 183 (length text) ≡ false = grind (arith, nat_tests) in
    rw (no_blanks text h, fits) refl

-- 3. Kinds.

pub kind-plain : (kind : AceKind) → IsPlain (kind_text kind)
kind-plain kind = letters-pass (list_all is_plain_byte) refl kind

-- 4. Names of bits: flags and rights.

is_plain_name : NamedBits → Bool
is_plain_name e = is_plain_byte e.first && is_plain_byte e.second

two_bytes : (e : NamedBits) (text : List ℕ) → is_plain_name e ≡ true → IsPlain text
    → IsPlain (e.first ∷ e.second ∷ text)
unfolding is_plain_name
two_bytes e text h k = let parts = and_parts (is_plain_byte e.first) _ h in rw (parts.0, parts.1) k

flags_are_plain : list_all is_plain_name FLAGS ≡ true
unfolding is_plain_name
flags_are_plain = refl

singles_are_plain : list_all is_plain_name SINGLES ≡ true
unfolding is_plain_name
singles_are_plain = refl

compounds_are_plain : list_all is_plain_name COMPOUNDS ≡ true
unfolding is_plain_name
compounds_are_plain = refl

labels_are_plain : list_all is_plain_name LABELS ≡ true
unfolding is_plain_name
labels_are_plain = refl

names-plain : (es : List NamedBits) (mask : ℕ) → list_all is_plain_name es ≡ true → IsPlain (names_of es mask)
names-plain [] mask h = refl
names-plain (e ∷ es) mask h =
    let parts = and_parts (is_plain_name e) _ h in
    by_bit (bit_and mask e.bits == 0) parts.0 (names-plain es mask parts.1)
  where
    by_bit : (b : Bool) → is_plain_name e ≡ true → IsPlain (names_of es mask)
        → IsPlain (if b then names_of es mask else e.first ∷ e.second ∷ names_of es mask)
    by_bit true name others = others
    by_bit false name others = two_bytes e (names_of es mask) name others

pub flags-plain : (f : ℕ) → IsPlain (flags_text f)
unfolding flags_text
flags-plain f = names-plain FLAGS f flags_are_plain

digit-plain : (c : ℕ) → digit_value c < 16 → is_plain_byte c ≡ true
digit-plain c h = grind (arith, nat_tests)

digits-plain : (text : List ℕ) → AllDigits 16 text → IsPlain text
digits-plain [] a = refl
digits-plain (c ∷ cs) a = rw (digit-plain c a.0) (digits-plain cs a.1)

hex-plain : (mask : ℕ) → mask < 2 ^ 32 → IsPlain (hex_text mask)
hex-plain mask small =
    let numeral = (digits_is_IsNumeral 16 false (omega arith) (omega arith) mask (omega arith)).0 in
    digits-plain (digits 16 false mask) numeral.1

names_or_hex-plain : (es : List NamedBits) (mask : ℕ) → list_all is_plain_name es ≡ true → mask < 2 ^ 32
    → IsPlain (names_or_hex es mask)
names_or_hex-plain es mask h small = by_bits (named_bits es mask == mask)
  where
    by_bits : (b : Bool) → IsPlain (if b then names_of es mask else hex_text mask)
    by_bits true = names-plain es mask h
    by_bits false = hex-plain mask small

found-plain : (es : List NamedBits) (mask : ℕ) (other : List ℕ) → list_all is_plain_name es ≡ true → IsPlain other
    → IsPlain (unwrap_or (option_map name_letters (find (λ e. e.bits == mask) es)) other)
found-plain [] mask other h k = k
found-plain (e ∷ es) mask other h k =
    let parts = and_parts (is_plain_name e) _ h in
    by_bits (e.bits == mask) parts.0 (found-plain es mask other parts.1 k)
  where
    by_bits : (b : Bool) → is_plain_name e ≡ true
        → IsPlain (unwrap_or (option_map name_letters (find (λ n. n.bits == mask) es)) other)
        → IsPlain (unwrap_or (option_map name_letters (if b then Some e else find (λ n. n.bits == mask) es)) other)
    by_bits true name others = two_bytes e [] name refl
    by_bits false name others = others

pub rights-plain : (kind : AceKind) (mask : ℕ) → mask < 2 ^ 32 → IsPlain (rights_text kind mask)
unfolding rights_text
rights-plain kind mask small = by_zero (mask == 0) (is_label kind)
  where
    by_zero : (z label : Bool)
        → IsPlain (if z then hex_text 0 else (if label then names_or_hex LABELS mask
        else unwrap_or (option_map name_letters (find (λ e. e.bits == mask) COMPOUNDS))
        (names_or_hex SINGLES mask)))
    by_zero true label = hex-plain 0 (omega arith)
    by_zero false true = names_or_hex-plain LABELS mask labels_are_plain small
    by_zero false false = found-plain COMPOUNDS mask (names_or_hex SINGLES mask) compounds_are_plain
        (names_or_hex-plain SINGLES mask singles_are_plain small)

-- 5. GUIDs.

by_index-plain : (n : ℕ) (f : ℕ → ℕ) → ((k : ℕ) → is_plain_byte (f k) ≡ true) → IsPlain (by_index n f)
unfolding by_index
by_index-plain zero f h = refl
by_index-plain (suc n) f h = plain-append (by_index n f) (f n ∷ []) (by_index-plain n f h) (rw (h n) refl)

hex_digit-plain : (d : ℕ) → d < 16 → is_plain_byte (hex_digit 97 d) ≡ true
hex_digit-plain d small = grind (arith, nat_tests)

pub guid-plain : (g : List ℕ) → IsPlain (guid_text g)
unfolding guid_text
guid-plain g = by_index-plain 36 _
    (λ k. by_place (hex_digit 97 (nibble g (digit_place k))) (is_hyphen_place k)
    (hex_digit-plain (nibble g (digit_place k)) (nibble_small g (digit_place k))))
  where
    by_place : (digit : ℕ) (b : Bool) → is_plain_byte digit ≡ true → is_plain_byte (if b then 45 else digit) ≡ true
    by_place digit true h = refl
    by_place digit false h = h

pub object-plain : (o : Option (List ℕ)) → IsPlain (object_text o)
object-plain None = refl
object-plain (Some g) = guid-plain g

-- 6. SIDs.

name-plain : (o : Option (List ℕ)) (text : List ℕ) → IfSome o (λ name. list_all is_ascii_uppercase name ≡ true)
    → IsPlain text → IsPlain (unwrap_or o text)
name-plain None text h k = k
name-plain (Some name) text h k = plain-more is_ascii_uppercase upper_is_plain name h

sid-plain : (s : SecurityId) → IsSid s → IsPlain (sid_text s)
sid-plain s i = plain-more is_sid_byte sid_byte_is_plain (sid_text s) (sid_text-bytes s i)

pub trustee-plain : (naming : Naming) (s : SecurityId) → IsSid s → IsPlain (trustee_text naming s)
unfolding trustee_text
trustee-plain naming s i = by_naming naming.numeric
  where
    by_naming : (b : Bool) → IsPlain (unwrap_or (if b then None else alias_of s naming.domain) (sid_text s))
    by_naming true = sid-plain s i
    by_naming false = name-plain (alias_of s naming.domain) (sid_text s) (alias-letters s naming.domain _ refl)
        (sid-plain s i)

-- 7. The flags of ACLs.

text_if-plain : (b : Bool) (text : List ℕ) → IsPlain text → IsPlain (text_if b text)
text_if-plain true text h = h
text_if-plain false text h = refl

pub acl_flags_text-plain : (f : AclFlags) → IsPlain (acl_flags_text f)
unfolding acl_flags_text
acl_flags_text-plain f =
    let p = f.protected in
    let r = f.auto_inherit_required in
    let i = f.auto_inherited in
    plain-append (text_if p (codes "P")) (text_if r (codes "AR") ++ text_if i (codes "AI"))
    (text_if-plain p (codes "P") refl)
    (plain-append (text_if r (codes "AR")) (text_if i (codes "AI")) (text_if-plain r (codes "AR") refl)
    (text_if-plain i (codes "AI") refl))
