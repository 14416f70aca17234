-- Access control entries (MS-DTYP 2.4.4): what one is, and how many bytes it takes.
use Rattle.std.specs.Prelude.{◌≡◌, ◌<◌, ℕ, ◌+◌, ◌/◌, ◌%◌, ◌^◌, Bool, true, false, if◌then◌else◌, List, length, Option}
use Rattle.std.specs.Prelude.{Some, None, IfSome}
use Rattle.std.specs.List.{All}
use Rattle.sd_sid.specs.Sid.{SecurityId, IsSid, sid_size}
use Rattle.sd_kinds.specs.Kinds.{is_object}
use Rattle.sd_kinds.specs.declared.kinds.AceKind.{AceKind}

pub record AccessControlEntry : Type 0 where
  pub kind : AceKind
  pub flags : ℕ
  -- the access mask
  pub mask : ℕ
  -- object type and inherited object type: GUIDs, as the bytes of a `Uuid`
  pub object : Option (List ℕ)
  pub inherited : Option (List ℕ)
  -- the trustee
  pub sid : SecurityId

-- GUIDs stand in object kinds alone
abbrev pub GuidsFit : Bool → Option (List ℕ) → Option (List ℕ) → Type 0
GuidsFit true object inherited = Unit {0}
GuidsFit false None None = Unit {0}
GuidsFit false (Some g) inherited = ⊥
GuidsFit false None (Some g) = ⊥

-- sixteen bytes
pub record IsGuid (g : List ℕ) : Type 0 where
  pub size : length g ≡ 16
  pub bytes : All (λ b. b < 256) g

-- the limits of the parts
pub record IsAce (a : AccessControlEntry) : Type 0 where
  pub flags : a.flags < 256
  -- 2.4.4.1 does not name bit 0x20: such an ACE is not taken
  pub clear : a.flags / 0x20 % 2 ≡ 0
  pub mask : a.mask < 2 ^ 32
  pub fit : GuidsFit (is_object a.kind) a.object a.inherited
  pub object : IfSome a.object IsGuid
  pub inherited : IfSome a.inherited IsGuid
  pub sid : IsSid a.sid

abbrev pub guid_size : Option (List ℕ) → ℕ
guid_size None = 0
guid_size (Some g) = 16

-- where the SID stands: after type, flags, size and mask, and in object kinds after the object flags and
-- the GUIDs
abbrev pub sid_offset : AceKind → Option (List ℕ) → Option (List ℕ) → ℕ
sid_offset kind object inherited = if is_object kind then 12 + guid_size object + guid_size inherited else 8

-- the written size
abbrev pub ace_size : AccessControlEntry → ℕ
ace_size a = sid_offset a.kind a.object a.inherited + sid_size a.sid
