-- The kinds of ACEs (MS-DTYP 2.4.4.1 and 2.5.1.1): type bytes and letters, of one table.
use Rattle.std.specs.Prelude.{ℕ, Bool, true, false, ◌==◌, List, [], take, Option, unwrap_or}
use Rattle.std.specs.List.{find}
use Rattle.std.specs.Option.{option_map}
use Rattle.std.specs.Str.{str_eq_ignore_ascii_case}
use Rattle.sd_kinds.specs.declared.kinds.AceKind.{AceKind}
use Rattle.sd_kinds.specs.declared.kinds.AceKind.TheVariants as kinds
use Rattle.sd_kinds.specs.declared.kinds.KindEntry.{KindEntry}
use Rattle.sd_kinds.specs.declared.kinds.TheConstants.{KINDS}

-- 1. What it may have.

-- the kinds that may have GUIDs
abbrev pub is_object : AceKind → Bool
is_object kinds.ObjectAllow = true
is_object kinds.ObjectDeny = true
is_object kinds.ObjectAudit = true
is_object other = false

-- 2. The entry of a kind.

abbrev pub same_kind : AceKind → AceKind → Bool
same_kind kinds.Allow kinds.Allow = true
same_kind kinds.Deny kinds.Deny = true
same_kind kinds.Audit kinds.Audit = true
same_kind kinds.ObjectAllow kinds.ObjectAllow = true
same_kind kinds.ObjectDeny kinds.ObjectDeny = true
same_kind kinds.ObjectAudit kinds.ObjectAudit = true
same_kind kinds.Label kinds.Label = true
same_kind kind other = false

-- each kind has one, so what stands for None below is never used
unfoldable pub kind_entry : AceKind → Option KindEntry
kind_entry kind = find (λ e. same_kind e.kind kind) KINDS

-- 3. Type bytes (2.4.4.1).

unfoldable pub kind_code : AceKind → ℕ
kind_code kind = unwrap_or (option_map (λ e. e.code) (kind_entry kind)) 0

-- the kind of a type byte
unfoldable pub kind_of : ℕ → Option AceKind
kind_of code = option_map (λ e. e.kind) (find (λ e. e.code == code) KINDS)

-- 4. Letters (2.5.1.1).

abbrev pub letters_of : KindEntry → List ℕ
letters_of e = take e.count e.letters

unfoldable pub kind_letters : AceKind → List ℕ
kind_letters kind = unwrap_or (option_map letters_of (kind_entry kind)) []

-- the kind that has these letters, in either case
unfoldable pub kind_named : List ℕ → Option AceKind
kind_named text = option_map (λ e. e.kind) (find (λ e. str_eq_ignore_ascii_case (letters_of e) text) KINDS)
