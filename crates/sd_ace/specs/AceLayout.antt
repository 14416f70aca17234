-- The one written form of an ACE (MS-DTYP 2.4.4).
use Rattle.std.specs.Prelude.{ℕ, ◌+◌, if◌then◌else◌, List, [], ◌∷◌, ◌++◌, Option, Some, None, Bool, true, false}
use Rattle.byteorder.specs.Endian.{little_bytes}
use Rattle.uuid.specs.Parts.{swap_fields}
use Rattle.sd_ace.specs.Ace.{AccessControlEntry, ace_size}
use Rattle.sd_kinds.specs.Kinds.{is_object, kind_code}
use Rattle.sd_kinds.specs.declared.kinds.AceKind.{AceKind}
use Rattle.sd_sid.specs.Sid.{sid_bytes}

-- 2.3.4.2
abbrev pub guid_part : Option (List ℕ) → List ℕ
guid_part None = []
guid_part (Some g) = swap_fields g

abbrev pub flag_if : Option (List ℕ) → ℕ → ℕ
flag_if None n = 0
flag_if (Some g) n = n

-- 2.4.4.3: the object flags, which stand in object kinds alone
abbrev pub object_flags : Bool → Option (List ℕ) → Option (List ℕ) → List ℕ
object_flags false object inherited = []
object_flags true object inherited = little_bytes 4 (flag_if object 1 + flag_if inherited 2)

-- type, flags, size, mask, object flags
abbrev pub ace_front : AccessControlEntry → List ℕ
ace_front a =
    kind_code a.kind ∷ a.flags ∷ little_bytes 2 (ace_size a)
    ++ (little_bytes 4 a.mask ++ object_flags (is_object a.kind) a.object a.inherited)

-- how many bytes that are
abbrev pub front_size : AceKind → ℕ
front_size kind = if is_object kind then 12 else 8

-- the GUIDs, which stand in object kinds alone
abbrev pub guids : Bool → Option (List ℕ) → Option (List ℕ) → List ℕ
guids false object inherited = []
guids true object inherited = guid_part object ++ guid_part inherited

-- the GUIDs and the SID
abbrev pub ace_body : AccessControlEntry → List ℕ
ace_body a = guids (is_object a.kind) a.object a.inherited ++ sid_bytes a.sid

abbrev pub ace_bytes : AccessControlEntry → List ℕ
ace_bytes a = ace_front a ++ ace_body a
