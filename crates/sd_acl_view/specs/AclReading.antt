-- The first fault of an ACL, and its ACEs where there is none.
-- `read` of `sd_view` promises that this agrees with `Shows`.
use Rattle.std.specs.Prelude.{ℕ, zero, suc, ◌+◌, ◌/◌, ◌%◌, ◌==◌, ◌||◌, not, nat_lt, Bool, if◌then◌else◌, List, [], ◌∷◌}
use Rattle.std.specs.Prelude.{length, drop, take, slice_index, Option, Some, None, is_some, unwrap_or}
use Rattle.std.specs.Option.{option_or}
use Rattle.uuid.specs.Parts.{swap_fields}
use Rattle.sd_ace.specs.Ace.{AccessControlEntry, guid_size, sid_offset}
use Rattle.sd_kinds.specs.Kinds.{kind_of}
use Rattle.sd_sid.specs.Sid.{sid_at, sid_of}
use Rattle.sd_kinds.specs.declared.kinds.AceKind.{AceKind}
use Rattle.sd_kinds.specs.declared.kinds.AceKind.TheVariants as kinds
use Rattle.sd_acl_view.specs.declared.fault.AclFault.{AclFault}
use Rattle.sd_acl_view.specs.declared.fault.AclFault.TheVariants as faults
use Rattle.sd_acl_view.specs.Ace.{announces_inherited, announces_object}
use Rattle.sd_acl_view.specs.Bytes.{u16_at, u32_at}

-- the fields of an ACE's extent, which count only where the extent has no fault
unfoldable pub kind_in : List ℕ → AceKind
kind_in extent = unwrap_or (kind_of (slice_index extent 0)) kinds.Allow

unfoldable pub guid_if : Bool → List ℕ → Option (List ℕ)
guid_if announced bytes = if announced then Some (swap_fields (take 16 bytes)) else None

unfoldable pub object_in : List ℕ → Option (List ℕ)
object_in extent = guid_if (announces_object (kind_in extent) extent) (drop 12 extent)

unfoldable pub inherited_in : List ℕ → Option (List ℕ)
inherited_in extent =
    guid_if (announces_inherited (kind_in extent) extent) (drop (12 + guid_size (object_in extent)) extent)

unfoldable pub sid_offset_in : List ℕ → ℕ
sid_offset_in extent = sid_offset (kind_in extent) (object_in extent) (inherited_in extent)

-- the ACE of an extent
abbrev pub ace_of : List ℕ → AccessControlEntry
ace_of extent = record {
  kind = kind_in extent;
  flags = slice_index extent 1;
  mask = u32_at 4 extent;
  object = object_in extent;
  inherited = inherited_in extent;
  sid = sid_of (drop (sid_offset_in extent) extent);
}

-- the first fault inside an ACE's extent: 12, 13, 11 and 9
unfoldable pub extent_fault : List ℕ → Option AclFault
extent_fault extent =
    if not (is_some (kind_of (slice_index extent 0))) then Some faults.AceType
    else if slice_index extent 1 / 0x20 % 2 == 1 then Some faults.AceFlags
    else if nat_lt (length extent) (sid_offset_in extent + 8) then Some faults.AceSize
    else if is_some (sid_at (drop (sid_offset_in extent) extent)) then None
    else Some faults.Sid

-- the first fault of the ACE at the front of what is left of an ACL: 11, and those inside its extent
unfoldable pub ace_fault : List ℕ → Option AclFault
ace_fault left =
    if nat_lt (length left) 16 then Some faults.AceSize
    else if nat_lt (u16_at 2 left) 16 || nat_lt (length left) (u16_at 2 left) then Some faults.AceSize
    else if not (u16_at 2 left % 4 == 0) then Some faults.AceSize
    else extent_fault (take (u16_at 2 left) left)

-- the first fault of as many ACEs as are counted
unfoldable pub aces_fault : ℕ → List ℕ → Option AclFault
aces_fault zero left = None
aces_fault (suc n) left = option_or (ace_fault left) (aces_fault n (drop (u16_at 2 left) left))

unfoldable pub aces_of : ℕ → List ℕ → List AccessControlEntry
aces_of zero left = []
aces_of (suc n) left = ace_of (take (u16_at 2 left) left) ∷ aces_of n (drop (u16_at 2 left) left)

-- the extent of the ACL at the front of the bytes
abbrev pub acl_at_front : List ℕ → List ℕ
acl_at_front bytes = take (u16_at 2 bytes) bytes

-- the first fault of the ACL at the front of the bytes: 10, and those of its ACEs
unfoldable pub acl_fault : List ℕ → Option AclFault
acl_fault bytes =
    if not (slice_index bytes 0 == 2 || slice_index bytes 0 == 4) then Some faults.Acl
    else if nat_lt (u16_at 2 bytes) 8 || nat_lt (length bytes) (u16_at 2 bytes) then Some faults.Acl
    else aces_fault (u16_at 4 bytes) (drop 8 (acl_at_front bytes))

-- the ACEs of an ACL's extent
abbrev pub acl_of : List ℕ → List AccessControlEntry
acl_of extent = aces_of (u16_at 4 extent) (drop 8 extent)
