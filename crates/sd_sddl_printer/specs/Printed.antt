-- A descriptor as SDDL (MS-DTYP 2.5.1.1).
use Rattle.std.specs.Prelude.{ℕ, ◌+◌, Bool, true, false, List, [], ◌++◌, Option, Some, None, codes}
use Rattle.std.specs.List.{flat_map}
use Rattle.std.specs.Option.{unwrap_or}
use Rattle.sd_ace.specs.Ace.{AccessControlEntry}
use Rattle.sd_kinds.specs.Flags.{flags_text}
use Rattle.sd_ace.specs.GuidText.{guid_text}
use Rattle.sd_kinds.specs.Kinds.{kind_letters}
use Rattle.sd_sid.specs.Naming.{alias_by}
use Rattle.sd_rights.specs.Rights.{rights_text}
use Rattle.sd_sid.specs.Sid.{SecurityId}
use Rattle.sd_sid.specs.SidText.{sid_text}
use Rattle.sd_kinds.specs.declared.kinds.AceKind.{AceKind}
use Rattle.sd_parts.specs.Control.{acl_flags, flag_bits, present_bit}
use Rattle.sd_view.specs.Descriptor.{Descriptor}
use Rattle.sd_sid.specs.declared.naming.Naming.{Naming}
use Rattle.sd_view.specs.declared.acl_part.AclPart.{AclPart}
use Rattle.sd_view.specs.declared.acl_part.AclPart.TheVariants as acl
use Rattle.sd_parts.specs.declared.part.Which.{Which}
use Rattle.sd_parts.specs.declared.part.Which.TheVariants as which
use Rattle.sd_parts.specs.declared.control.AclFlags.{AclFlags}
use Rattle.sd_parts.specs.declared.control.TheConstants.{SELF_RELATIVE}

-- the alias of a SID, under a domain; its text where it has none, or where numbers are asked for
unfoldable pub trustee_text : Naming → SecurityId → List ℕ
trustee_text naming s = unwrap_or (alias_by naming s) (sid_text s)

-- ---- ACEs: six fields in parentheses

abbrev pub kind_text : AceKind → List ℕ
kind_text kind = kind_letters kind

unfoldable pub kind_field : AceKind → List ℕ
kind_field kind = codes "(" ++ kind_text kind ++ codes ";"

unfoldable pub flags_field : ℕ → List ℕ
flags_field flags = flags_text flags ++ codes ";"

unfoldable pub rights_field : AceKind → ℕ → List ℕ
rights_field kind mask = rights_text kind mask ++ codes ";"

-- an object type, or an inherited object type
abbrev pub object_text : Option (List ℕ) → List ℕ
object_text None = []
object_text (Some guid) = guid_text guid

unfoldable pub object_field : Option (List ℕ) → List ℕ
object_field object = object_text object ++ codes ";"

unfoldable pub trustee_field : Naming → SecurityId → List ℕ
trustee_field naming s = trustee_text naming s ++ codes ")"

unfoldable pub ace_text : Naming → AccessControlEntry → List ℕ
ace_text naming a =
    (kind_field a.kind ++ flags_field a.flags)
    ++ ((rights_field a.kind a.mask ++ object_field a.object)
    ++ (object_field a.inherited ++ trustee_field naming a.sid))

-- ---- ACLs

abbrev pub text_if : Bool → List ℕ → List ℕ
text_if true text = text
text_if false text = []

-- protected, auto-inherit required and auto-inherited
unfoldable pub acl_flags_text : AclFlags → List ℕ
acl_flags_text f = text_if f.protected (codes "P") ++
    (text_if f.auto_inherit_required (codes "AR") ++ text_if f.auto_inherited (codes "AI"))

-- nothing for an ACL that is absent; else its head and flags, and then NO_ACCESS_CONTROL for a null one, or its ACEs
abbrev pub acl_text : Naming → List ℕ → List ℕ → AclPart → List ℕ
acl_text naming head flags acl.Absent = []
acl_text naming head flags acl.Null = head ++ (flags ++ codes "NO_ACCESS_CONTROL")
acl_text naming head flags (acl.List aces) = head ++ (flags ++ flat_map (ace_text naming) aces)

unfoldable pub dacl_text : Naming → Descriptor → List ℕ
dacl_text naming d = acl_text naming (codes "D:") (acl_flags_text (acl_flags which.Dacl d.control)) d.dacl

unfoldable pub sacl_text : Naming → Descriptor → List ℕ
sacl_text naming d = acl_text naming (codes "S:") (acl_flags_text (acl_flags which.Sacl d.control)) d.sacl

-- ---- descriptors

abbrev pub sid_text_of : Naming → List ℕ → Option SecurityId → List ℕ
sid_text_of naming head None = []
sid_text_of naming head (Some s) = head ++ trustee_text naming s

unfoldable pub owner_text : Naming → Descriptor → List ℕ
owner_text naming d = sid_text_of naming (codes "O:") d.owner

unfoldable pub group_text : Naming → Descriptor → List ℕ
group_text naming d = sid_text_of naming (codes "G:") d.group

-- owner, group, DACL and SACL, those that stand, without blanks
unfoldable pub sddl : Naming → Descriptor → List ℕ
sddl naming d = (owner_text naming d ++ group_text naming d) ++ (dacl_text naming d ++ sacl_text naming d)

-- What SDDL keeps of a descriptor: not the resource manager byte, and of the control word the bits SR, SP and DP, and
-- for each ACL that is not absent its three flags.
abbrev pub kept_bits : Which → ℕ → AclPart → ℕ
kept_bits w control acl.Absent = 0
kept_bits w control part = present_bit w + flag_bits w (acl_flags w control)

abbrev pub plain : Descriptor → Descriptor
plain d = record {
  control = SELF_RELATIVE + kept_bits which.Dacl d.control d.dacl + kept_bits which.Sacl d.control d.sacl;
  rm = 0;
  owner = d.owner;
  group = d.group;
  sacl = d.sacl;
  dacl = d.dacl;
}
