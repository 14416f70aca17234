-- What an ACE without object types has before its SID (MS-DTYP 2.4.4.2), and the ACE that it is with a SID.
use Rattle.std.specs.Prelude.{◌≡◌, ◌<◌, ℕ, ◌/◌, ◌%◌, ◌^◌, false, None}
use Rattle.sd_ace.specs.Ace.{AccessControlEntry}
use Rattle.sd_kinds.specs.Kinds.{is_object}
use Rattle.sd_kinds.specs.declared.kinds.AceKind.{AceKind}
use Rattle.sd_sid.specs.Sid.{SecurityId}

pub record PlainHead : Type 0 where
  pub kind : AceKind
  pub flags : ℕ
  -- the access mask
  pub mask : ℕ

-- the limits of the parts
pub record IsPlainHead (h : PlainHead) : Type 0 where
  pub plain : is_object h.kind ≡ false
  pub flags : h.flags < 256
  pub clear : h.flags / 0x20 % 2 ≡ 0
  pub mask : h.mask < 2 ^ 32

abbrev pub plain_ace : PlainHead → SecurityId → AccessControlEntry
plain_ace h s = record { kind = h.kind; flags = h.flags; mask = h.mask; object = None; inherited = None; sid = s }
