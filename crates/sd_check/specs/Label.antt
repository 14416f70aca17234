-- Mandatory labels (MS-DTYP 2.4.4.13): what a token of a lower integrity level may have at most (2.5.3.3).
use Rattle.std.specs.Prelude.{ℕ, ◌%◌, ◌^◌, ◌==◌, nat_lt, Bool, false, not, ◌&&◌, ◌||◌, Option, Some, None, length}
use Rattle.std.specs.Prelude.{slice_index}
use Rattle.std.specs.List.{find}
use Rattle.sd_ace.specs.Ace.{AccessControlEntry}
use Rattle.sd_rights.specs.Mapping.{GenericMapping, carries}
use Rattle.sd_rights.specs.Rights.{is_label}
use Rattle.sd_sid.specs.Sid.{SecurityId}
use Rattle.sd_token.specs.Token.{Holder}
use Rattle.sd_view.specs.Descriptor.{Descriptor}
use Rattle.sd_check.specs.Ask.{Asked}
use Rattle.sd_check.specs.Applies.{is_inherit_only}
use Rattle.sd_check.specs.Acl.{listed_aces}
use Rattle.sd_check.specs.declared.label.Label.{Label}

-- 2.4.2.4: the level of S-1-16-8192
abbrev pub medium_level : ℕ
medium_level = 8192

-- the places of the policy's bits

abbrev pub no_write_up : ℕ
no_write_up = 0

abbrev pub no_read_up : ℕ
no_read_up = 1

abbrev pub no_execute_up : ℕ
no_execute_up = 2

-- 2.4.2.4: a SID of the mandatory label authority, S-1-16, with one number, the level
abbrev pub names_level : SecurityId → Bool
names_level s = s.authority == 16 && length s.subs == 1

-- a label of the object itself
abbrev pub is_mandatory_label : AccessControlEntry → Bool
is_mandatory_label a = is_label a.kind && not (is_inherit_only a.flags) && names_level a.sid

-- The level, and the policy: the bits 0 to 2 of the mask. Where no ACE is a label, the object has medium level, and may
-- not be written from below.
abbrev pub label_of : Option AccessControlEntry → Label
label_of None = record { level = medium_level; policy = 2 ^ no_write_up }
label_of (Some a) = record { level = slice_index a.sid.subs 0; policy = a.mask % 8 }

-- the first label of the SACL
abbrev pub label : Descriptor → Label
label d = label_of (find is_mandatory_label (listed_aces d.sacl))

-- a holder without a level is below no label
abbrev pub is_lower : Option ℕ → Label → Bool
is_lower None label = false
is_lower (Some level) label = nat_lt level label.level

-- What the policy does not forbid is left: the rights of generic read, write and execute.
abbrev pub is_left : ℕ → Label → GenericMapping → Bool
is_left right label m =
    (not (carries label.policy no_read_up) && carries m.read right)
    || (not (carries label.policy no_write_up) && carries m.write right)
    || (not (carries label.policy no_execute_up) && carries m.execute right)

-- the label lets the holder have the right, if something grants it
abbrev pub label_allows : ℕ → Descriptor → Holder → Asked → Bool
label_allows right d holder ask = not (is_lower holder.level (label d)) || is_left right (label d) ask.mapping
