-- The texts of fields that stand in SDDL alone (MS-DTYP 2.5.1.1): kinds of ACEs, what stands in an ACL before its ACEs,
-- and object types. Names are read in either case. The texts of SIDs, rights, flags of ACEs and GUIDs are those of
-- sd_sid, sd_rights, sd_kinds and sd_ace.
use Rattle.std.specs.Prelude.{ℕ, ◌-◌, ◌&&◌, ◌||◌, Bool, true, false, ◌==◌, nat_le, if◌then◌else◌, List, [], ◌∷◌, length}
use Rattle.std.specs.Prelude.{take, drop, codes, Option, Some, None}
use Rattle.std.specs.Char.{to_ascii_uppercase}
use Rattle.std.specs.Option.{option_and_then, option_map, option_or}
use Rattle.std.specs.Str.{byte as char, str_eq_ignore_ascii_case}
use Rattle.sd_kinds.specs.Kinds.{is_object, kind_named}
use Rattle.sd_ace.specs.GuidText.{guid_reads}
use Rattle.sd_kinds.specs.declared.kinds.AceKind.{AceKind}
use Rattle.sd_parts.specs.Control.{no_flags}
use Rattle.sd_parts.specs.declared.control.AclFlags.{AclFlags}
use Rattle.sd_sddl_fields.specs.declared.field_texts.AclFront.{AclFront}

-- a space or a tab
abbrev pub is_blank : ℕ → Bool
is_blank b = b == char " " || b == char "\t"

-- the kind that has this text, in either case
unfoldable pub kind_reads : List ℕ → Option AceKind
kind_reads text = kind_named text

-- P, beside the flags so far
abbrev pub one_letter : AclFlags → ℕ → Option AclFlags
one_letter f a = if to_ascii_uppercase a == char "P" then Some (record f { protected = true }) else None

-- AR or AI
abbrev pub after_a : AclFlags → ℕ → Option AclFlags
after_a f b =
    if to_ascii_uppercase b == char "R" then Some (record f { auto_inherit_required = true })
    else (if to_ascii_uppercase b == char "I" then Some (record f { auto_inherited = true }) else None)

abbrev pub two_letters : AclFlags → ℕ → ℕ → Option AclFlags
two_letters f a b = if to_ascii_uppercase a == char "A" then after_a f b else None

-- a run of P, AR and AI in any order and in either case, beside the flags so far
abbrev pub flags_after : AclFlags → List ℕ → Option AclFlags
flags_after f [] = Some f
flags_after f (a ∷ []) = one_letter f a
flags_after f (a ∷ b ∷ rest) =
    option_or (option_and_then (λ g. flags_after g (b ∷ rest)) (one_letter f a))
    (option_and_then (λ g. flags_after g rest) (two_letters f a b))

abbrev pub ends_with_null : List ℕ → Bool
ends_with_null text =
    nat_le 17 (length text) && str_eq_ignore_ascii_case (drop (length text - 17) text) (codes "NO_ACCESS_CONTROL")

abbrev pub with_null : Bool → Option AclFlags → Option AclFront
with_null null flags = option_map (λ f. record { flags = f; null = null }) flags

-- what stands in an ACL before its ACEs: a run of flags, and NO_ACCESS_CONTROL for a null ACL
unfoldable pub front_reads : List ℕ → Option AclFront
front_reads text =
    if ends_with_null text then with_null true (flags_after no_flags (take (length text - 17) text))
    else with_null false (flags_after no_flags text)

-- nothing, or a GUID, which stands in object kinds alone
unfoldable pub object_reads : AceKind → List ℕ → Option (Option (List ℕ))
object_reads kind [] = Some None
object_reads kind (b ∷ bs) = if is_object kind then option_map (λ guid. Some guid) (guid_reads (b ∷ bs)) else None
