-- The kinds of ACEs: each has its own type byte and letters.
use Rattle.std.proofs.Common.{◌≡◌, ◌≤◌, ℕ, Bool, true, ◌&&◌, List, [], length, Option, Some, None, IfSome, refl, sym}
use Rattle.std.proofs.Common.{ap, ◌∙◌, arith, eqb-true}
use Rattle.std.specs.Prelude.{◌==◌, is_some, nat_le, unwrap_or}
use Rattle.std.specs.Cmp.Lexicographic.{same_text}
use Rattle.std.specs.List.{find, list_all}
use Rattle.std.specs.Option.{option_map}
use Rattle.std.specs.Str.{bytes_eq, str_eq_ignore_ascii_case}
use Rattle.std.proofs.lemmas.Bool.{and_parts}
use Rattle.std.proofs.lemmas.Bool.Decides.{nat_tests}
use Rattle.sd_kinds.specs.Kinds.{kind_code, kind_entry, kind_letters, kind_of, kind_named, letters_of, same_kind}
use Rattle.sd_kinds.specs.declared.kinds.AceKind.{AceKind}
use Rattle.sd_kinds.specs.declared.kinds.AceKind.TheVariants as kinds
use Rattle.sd_kinds.specs.declared.kinds.KindEntry.{KindEntry}
use Rattle.sd_kinds.specs.declared.kinds.TheConstants.{KINDS}
use Rattle.sd_text.proofs.laws.Tables.{find-passes}

-- 1. Each kind has a row. No other proof goes through the kinds one by one.

pub record HasRow (k : AceKind) : Type 0 where
  pub row : is_some (kind_entry k) ≡ true
  pub code : kind_of (kind_code k) ≡ Some k
  pub letters : kind_named (kind_letters k) ≡ Some k

pub each_has_row : (k : AceKind) → HasRow k
unfolding kind_of kind_code kind_named kind_letters kind_entry
each_has_row kinds.Allow = record { row = refl; code = refl; letters = refl }
each_has_row _ = record { row = refl; code = refl; letters = refl }

-- a test that the letters of each row pass
pub letters-pass : (test : List ℕ → Bool) → list_all (λ e. test (letters_of e)) KINDS ≡ true → (k : AceKind)
    → test (kind_letters k) ≡ true
unfolding kind_letters kind_entry
letters-pass test all k = of_row (kind_entry k) refl (each_has_row k).row
  where
    of_row : (o : Option KindEntry) → kind_entry k ≡ o → is_some o ≡ true
        → test (unwrap_or (option_map letters_of o) []) ≡ true
    of_row None e some = absurd cc
    of_row (Some x) e some =
        (find-passes (λ e. same_kind e.kind k) (λ e. test (letters_of e)) KINDS x e all).1

-- 2. Type bytes.

pub kind_of-code : (k : AceKind) → kind_of (kind_code k) ≡ Some k
kind_of-code k = (each_has_row k).code

has_code : KindEntry → Bool
has_code e = kind_code e.kind == e.code

all_have_codes : list_all has_code KINDS ≡ true
unfolding has_code kind_code kind_entry
all_have_codes = refl

pub found_code : (code : ℕ) (o : Option KindEntry) → find (λ e. e.code == code) KINDS ≡ o
    → IfSome (option_map (λ e. e.kind) o) (λ k. kind_code k ≡ code)
unfolding has_code
found_code code None e = tt
found_code code (Some x) e =
    let passes = find-passes (λ e. e.code == code) has_code KINDS x e all_have_codes in
    eqb-true _ _ passes.1 ∙ eqb-true _ _ passes.0

-- the kind of a byte has that byte
pub kind_of-some : (code : ℕ) → IfSome (kind_of code) (λ k. kind_code k ≡ code)
unfolding kind_of
kind_of-some code = found_code code _ refl

-- 3. Letters.

pub kind_named-letters : (k : AceKind) → kind_named (kind_letters k) ≡ Some k
kind_named-letters k = (each_has_row k).letters

has_letters : KindEntry → Bool
has_letters e = bytes_eq (kind_letters e.kind) (letters_of e)

all_have_letters : list_all has_letters KINDS ≡ true
unfolding has_letters kind_letters kind_entry
all_have_letters = refl

pub found_letters : (text : List ℕ) (o : Option KindEntry)
    → find (λ e. str_eq_ignore_ascii_case (letters_of e) text) KINDS ≡ o
    → IfSome (option_map (λ e. e.kind) o) (λ k. str_eq_ignore_ascii_case (kind_letters k) text ≡ true)
unfolding has_letters
found_letters text None e = tt
found_letters text (Some x) e =
    let passes = find-passes (λ e. str_eq_ignore_ascii_case (letters_of e) text) has_letters KINDS x e
    all_have_letters in
    ap (λ (l : List ℕ). str_eq_ignore_ascii_case l text) (same_text _ _ (sym passes.1)) ∙ passes.0

-- a text that reads as a kind is its letters, in either case
pub kind_named-some : (text : List ℕ)
    → IfSome (kind_named text) (λ k. str_eq_ignore_ascii_case (kind_letters k) text ≡ true)
unfolding kind_named
kind_named-some text = found_letters text _ refl

is_short : List ℕ → Bool
is_short letters = nat_le 1 (length letters) && nat_le (length letters) 2

-- one or two
pub letters-few : (k : AceKind) → (1 ≤ length (kind_letters k)) × (length (kind_letters k) ≤ 2)
unfolding is_short
letters-few k =
    let short = and_parts (nat_le 1 (length (kind_letters k))) _ (letters-pass is_short refl k) in
    (grind (arith, nat_tests, short.0), grind (arith, nat_tests, short.1))
