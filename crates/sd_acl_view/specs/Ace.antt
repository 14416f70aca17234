-- Access control entries as bytes (MS-DTYP 2.4.4): which extent shows which.
use Rattle.std.specs.Prelude.{◌≡◌, ℕ, ◌+◌, ◌/◌, ◌%◌, ◌==◌, ◌&&◌, Bool, true, false, List, length, drop, take}
use Rattle.std.specs.Prelude.{slice_index, Option, Some, None}
use Rattle.uuid.specs.Parts.{swap_fields}
use Rattle.sd_ace.specs.Ace.{AccessControlEntry, guid_size, sid_offset}
use Rattle.sd_kinds.specs.Kinds.{is_object, kind_code}
use Rattle.sd_kinds.specs.declared.kinds.AceKind.{AceKind}
use Rattle.sd_sid.specs.Sid.{BeginsWithSid}
use Rattle.sd_acl_view.specs.Bytes.{u16_at, u32_at}

-- 2.4.4.3: whether the object flags of an extent announce an object type, and an inherited object type
unfoldable pub announces_object : AceKind → List ℕ → Bool
announces_object kind extent = is_object kind && u32_at 8 extent % 2 == 1

unfoldable pub announces_inherited : AceKind → List ℕ → Bool
announces_inherited kind extent = is_object kind && u32_at 8 extent / 2 % 2 == 1

-- 2.3.4.2: a GUID stands at the front exactly where it is announced, its first three fields low byte first
abbrev pub ShowsGuid : Bool → List ℕ → Option (List ℕ) → Type 0
ShowsGuid false bytes None = Unit {0}
ShowsGuid false bytes (Some g) = ⊥
ShowsGuid true bytes None = ⊥
ShowsGuid true bytes (Some g) = g ≡ swap_fields (take 16 bytes)

-- An ACE's extent is as long as its size field says; what stands after the SID is free.
pub record ShowsAce (extent : List ℕ) (a : AccessControlEntry) : Type 0 where
  pub kind : slice_index extent 0 ≡ kind_code a.kind
  pub flags : slice_index extent 1 ≡ a.flags
  -- 2.4.4.1 does not name bit 0x20: such an ACE is not taken
  pub clear : a.flags / 0x20 % 2 ≡ 0
  pub size : u16_at 2 extent ≡ length extent
  pub aligned : length extent % 4 ≡ 0
  pub mask : u32_at 4 extent ≡ a.mask
  pub object : ShowsGuid (announces_object a.kind extent) (drop 12 extent) a.object
  pub inherited : ShowsGuid (announces_inherited a.kind extent) (drop (12 + guid_size a.object) extent) a.inherited
  pub sid : BeginsWithSid (drop (sid_offset a.kind a.object a.inherited) extent) a.sid
