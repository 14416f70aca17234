-- Self-relative security descriptors (MS-DTYP 2.4.6): what one is, and which bytes show which.
use Rattle.std.specs.Prelude.{◌≡◌, ◌≤◌, ◌<◌, ℕ, ◌+◌, ◌^◌, ◌⊎◌, Bool, true, false, List, length, drop, slice_index}
use Rattle.std.specs.Prelude.{Option, Some, None, IfSome}
use Rattle.sd_sid.specs.Sid.{SecurityId, IsSid, BeginsWithSid, sid_size}
use Rattle.sd_acl_view.specs.Acl.{BeginsWithAcl, IsAcl}
use Rattle.sd_acl_view.specs.Bytes.{u16_at, u32_at}
use Rattle.sd_parts.specs.Control.{self_relative, sacl_present, dacl_present}
use Rattle.sd_parts.specs.Parts.{get_part, same_part}
use Rattle.sd_parts.specs.declared.part.Part.{Part}
use Rattle.sd_parts.specs.declared.part.Parts.{Parts}
use Rattle.sd_view.specs.declared.acl_part.AclPart.{AclPart}
use Rattle.sd_view.specs.declared.acl_part.AclPart.TheVariants as acl

pub record Descriptor : Type 0 where
  -- the control word
  pub control : ℕ
  -- the resource manager byte, Sbz1 in the standard
  pub rm : ℕ
  pub owner : Option SecurityId
  pub group : Option SecurityId
  pub sacl : AclPart
  pub dacl : AclPart

-- the fields of the header: the control word and the offsets of the parts
abbrev pub control_at : List ℕ → ℕ
control_at bytes = u16_at 2 bytes

abbrev pub owner_at : List ℕ → ℕ
owner_at bytes = u32_at 4 bytes

abbrev pub group_at : List ℕ → ℕ
group_at bytes = u32_at 8 bytes

abbrev pub sacl_at : List ℕ → ℕ
sacl_at bytes = u32_at 12 bytes

abbrev pub dacl_at : List ℕ → ℕ
dacl_at bytes = u32_at 16 bytes

-- an offset of 0 means that there is none; else the SID stands there, past the header
abbrev pub ShowsSid : List ℕ → ℕ → Option SecurityId → Type 0
ShowsSid bytes offset None = offset ≡ 0
ShowsSid bytes offset (Some s) = (20 ≤ offset) × BeginsWithSid (drop offset bytes) s

-- an ACL is absent where its present bit is clear, and null where the bit is set and the offset is 0; else it
-- stands there, past the header
abbrev pub ShowsAclPart : List ℕ → Bool → ℕ → AclPart → Type 0
ShowsAclPart bytes present offset acl.Absent = present ≡ false
ShowsAclPart bytes present offset acl.Null = (present ≡ true) × (offset ≡ 0)
ShowsAclPart bytes present offset (acl.List aces) = (present ≡ true) × (20 ≤ offset)
    × BeginsWithAcl (drop offset bytes) aces

-- where a part stands, if it does: its first byte, and the first one after it
abbrev pub Extent : Type 0
Extent = Option (ℕ × ℕ)

abbrev pub sid_extent : ℕ → Option SecurityId → Extent
sid_extent offset None = None
sid_extent offset (Some s) = Some (offset, offset + sid_size s)

-- an ACL is as long as its size field says
abbrev pub acl_extent : List ℕ → ℕ → AclPart → Extent
acl_extent bytes offset acl.Absent = None
acl_extent bytes offset acl.Null = None
acl_extent bytes offset (acl.List aces) = Some (offset, offset + u16_at 2 (drop offset bytes))

abbrev pub extents_of : List ℕ → Descriptor → Parts Extent
extents_of bytes d = record {
  owner = sid_extent (owner_at bytes) d.owner;
  group = sid_extent (group_at bytes) d.group;
  sacl = acl_extent bytes (sacl_at bytes) d.sacl;
  dacl = acl_extent bytes (dacl_at bytes) d.dacl;
}

-- no byte is in both
abbrev pub Apart : Extent → Extent → Type 0
Apart None other = Unit {0}
Apart (Some a) None = Unit {0}
Apart (Some a) (Some b) = (a.1 ≤ b.0) ⊎ (b.1 ≤ a.0)

-- no two parts share a byte
abbrev pub AreApart : Parts Extent → Type 0
AreApart e = (p q : Part) → same_part p q ≡ false → Apart (get_part p e) (get_part q e)

-- The bytes show the descriptor: each of its parts stands at the offset that the header names, and
-- what stands between and after them is free.
pub record Shows (bytes : List ℕ) (d : Descriptor) : Type 0 where
  pub header : 20 ≤ length bytes
  pub revision : slice_index bytes 0 ≡ 1
  pub rm : slice_index bytes 1 ≡ d.rm
  pub control : control_at bytes ≡ d.control
  pub relative : self_relative d.control ≡ true
  pub owner : ShowsSid bytes (owner_at bytes) d.owner
  pub group : ShowsSid bytes (group_at bytes) d.group
  pub sacl : ShowsAclPart bytes (sacl_present d.control) (sacl_at bytes) d.sacl
  pub dacl : ShowsAclPart bytes (dacl_present d.control) (dacl_at bytes) d.dacl
  pub apart : AreApart (extents_of bytes d)

-- an ACL under its present bit
abbrev pub IsAclPart : Bool → AclPart → Type 0
IsAclPart present acl.Absent = present ≡ false
IsAclPart present acl.Null = present ≡ true
IsAclPart present (acl.List aces) = (present ≡ true) × IsAcl aces

-- the limits of a descriptor's fields
pub record IsDescriptor (d : Descriptor) : Type 0 where
  pub control : d.control < 2 ^ 16
  pub relative : self_relative d.control ≡ true
  pub rm : d.rm < 256
  pub owner : IfSome d.owner IsSid
  pub group : IfSome d.group IsSid
  pub sacl : IsAclPart (sacl_present d.control) d.sacl
  pub dacl : IsAclPart (dacl_present d.control) d.dacl
