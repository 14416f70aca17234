-- A descriptor explained: a line for each thing that it has, each with its LF. Words are parted by single blanks, hex
-- digits are in lower case. Kinds, flags, rights, SIDs, aliases and GUIDs are spelled as in SDDL (MS-DTYP 2.5.1.1).
use Rattle.std.specs.Prelude.{ℕ, if◌then◌else◌, List, [], ◌∷◌, ◌++◌, length, Option, Some, None, codes}
use Rattle.std.specs.Fmt.{decimal}
use Rattle.std.specs.List.{enumerate_from, flat_map}
use Rattle.std.specs.Str.{byte as char}
use Rattle.sd_ace.specs.Ace.{AccessControlEntry}
use Rattle.sd_kinds.specs.Flags.{flags_text}
use Rattle.sd_ace.specs.GuidText.{guid_text}
use Rattle.sd_kinds.specs.Kinds.{kind_letters}
use Rattle.sd_sid.specs.Naming.{alias_by}
use Rattle.sd_rights.specs.Rights.{rights_text}
use Rattle.sd_sid.specs.Sid.{SecurityId}
use Rattle.sd_text.specs.Numbers.{hex_digits}
use Rattle.sd_sid.specs.SidText.{sid_text}
use Rattle.sd_kinds.specs.declared.kinds.AceKind.{AceKind}
use Rattle.sd_sid.specs.declared.naming.Naming.{Naming}
use Rattle.sd_text.specs.Bits.{has_bit}
use Rattle.sd_view.specs.Descriptor.{Descriptor}
use Rattle.sd_view.specs.declared.acl_part.AclPart.{AclPart}
use Rattle.sd_view.specs.declared.acl_part.AclPart.TheVariants as acl
use Rattle.sd_parts.specs.declared.control.ControlBit.{ControlBit}
use Rattle.sd_parts.specs.declared.control.TheConstants.{CONTROL_BITS}

-- ---- the header (MS-DTYP 2.4.6)

-- a blank and the code of a bit of the control word, where it is set
abbrev pub code_if : ℕ → ControlBit → List ℕ
code_if control b = if has_bit b.bit control then char " " ∷ b.first ∷ b.second ∷ [] else []

-- the control word, and the codes of its bits that have one, in rising order
unfoldable pub control_line : ℕ → List ℕ
control_line control =
    codes "control 0x" ++ (hex_digits 4 control ++ (flat_map (code_if control) CONTROL_BITS ++ codes "\n"))

-- the resource manager byte
unfoldable pub rm_line : ℕ → List ℕ
rm_line rm = codes "rm 0x" ++ (hex_digits 2 rm ++ codes "\n")

-- ---- SIDs (2.4.2)

abbrev pub name_after : Option (List ℕ) → List ℕ
name_after None = []
name_after (Some name) = codes " " ++ name

-- the text of a SID and, where it has one and numbers alone are not asked for, its alias
unfoldable pub sid_words : Naming → SecurityId → List ℕ
sid_words naming s = sid_text s ++ name_after (alias_by naming s)

abbrev pub sid_or_none : Naming → Option SecurityId → List ℕ
sid_or_none naming None = codes "none"
sid_or_none naming (Some s) = sid_words naming s

-- an owner or a group
unfoldable pub sid_line : Naming → List ℕ → Option SecurityId → List ℕ
sid_line naming part o = part ++ (sid_or_none naming o ++ codes "\n")

-- ---- ACEs (2.4.4)

-- which ACE: its ACL, its number there and its kind
unfoldable pub ace_head : List ℕ → ℕ → AceKind → List ℕ
ace_head part n kind = part ++ (decimal n ++ (codes " " ++ kind_letters kind))

abbrev pub or_none : List ℕ → List ℕ
or_none [] = codes "none"
or_none (b ∷ bs) = b ∷ bs

-- the flags, and the access mask as a number and as rights
unfoldable pub ace_rights : AceKind → ℕ → ℕ → List ℕ
ace_rights kind flags mask =
    codes " flags " ++ (or_none (flags_text flags)
    ++ (codes " mask 0x" ++ (hex_digits 8 mask ++ (codes " rights " ++ rights_text kind mask))))

-- an object type or an inherited object type, where there is one
abbrev pub guid_words : List ℕ → Option (List ℕ) → List ℕ
guid_words name None = []
guid_words name (Some guid) = name ++ guid_text guid

unfoldable pub ace_trustee : Naming → SecurityId → List ℕ
ace_trustee naming s = codes " sid " ++ (sid_words naming s ++ codes "\n")

unfoldable pub ace_line : Naming → List ℕ → ℕ → AccessControlEntry → List ℕ
ace_line naming part n a =
    ace_head part n a.kind ++ (ace_rights a.kind a.flags a.mask
    ++ (guid_words (codes " object ") a.object
    ++ (guid_words (codes " inherited ") a.inherited ++ ace_trustee naming a.sid)))

-- ---- ACLs (2.4.5)

-- the ACEs, numbered from 1
abbrev pub ace_lines : Naming → List ℕ → List AccessControlEntry → List ℕ
ace_lines naming part aces = flat_map (λ e. ace_line naming part e.0 e.1) (enumerate_from 1 aces)

unfoldable pub count_line : List ℕ → ℕ → List ℕ
count_line part n = part ++ (codes "list " ++ (decimal n ++ codes "\n"))

abbrev pub acl_lines : Naming → List ℕ → AclPart → List ℕ
acl_lines naming part acl.Absent = part ++ codes "absent\n"
acl_lines naming part acl.Null = part ++ codes "null\n"
acl_lines naming part (acl.List aces) = count_line part (length aces) ++ ace_lines naming part aces

-- ---- descriptors (2.4.6)

unfoldable pub explain : Naming → Descriptor → List ℕ
explain naming d =
    control_line d.control ++ (rm_line d.rm
    ++ (sid_line naming (codes "owner ") d.owner ++ (sid_line naming (codes "group ") d.group
    ++ (acl_lines naming (codes "dacl ") d.dacl ++ (acl_lines naming (codes "sacl ") d.sacl ++ codes "end\n")))))
