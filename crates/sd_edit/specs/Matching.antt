-- Which ACEs a change is for.
use Rattle.std.specs.Prelude.{ℕ, Bool, true, false, ◌&&◌, ◌==◌, List, Option, Some, None}
use Rattle.std.specs.Int.RustNames.{bit_and}
use Rattle.std.specs.Str.{bytes_eq}
use Rattle.sd_ace.specs.Ace.{AccessControlEntry}
use Rattle.sd_kinds.specs.Kinds.{same_kind}
use Rattle.sd_kinds.specs.declared.kinds.AceKind.{AceKind}
use Rattle.sd_sid.specs.Sid.{SecurityId}
use Rattle.sd_sid.specs.SidText.{same_sid}
use Rattle.sd_edit.specs.declared.matching.Match.{Match}

-- a field that is not given agrees with any
abbrev pub agrees_sid : Option SecurityId → SecurityId → Bool
agrees_sid None sid = true
agrees_sid (Some wanted) sid = same_sid wanted sid

abbrev pub agrees_kind : Option AceKind → AceKind → Bool
agrees_kind None kind = true
agrees_kind (Some wanted) kind = same_kind wanted kind

abbrev pub agrees_mask : Option ℕ → ℕ → Bool
agrees_mask None mask = true
agrees_mask (Some wanted) mask = wanted == mask

-- the same GUID, or both none
abbrev pub same_guid : Option (List ℕ) → Option (List ℕ) → Bool
same_guid None None = true
same_guid None (Some h) = false
same_guid (Some g) None = false
same_guid (Some g) (Some h) = bytes_eq g h

abbrev pub agrees_type : Option (Option (List ℕ)) → Option (List ℕ) → Bool
agrees_type None guid = true
agrees_type (Some wanted) guid = same_guid wanted guid

abbrev pub agrees_in_numbers : Match → AccessControlEntry → Bool
agrees_in_numbers m a = agrees_kind m.kind a.kind && agrees_mask m.mask a.mask

abbrev pub agrees_in_types : Match → AccessControlEntry → Bool
agrees_in_types m a = agrees_type m.object a.object && agrees_type m.inherited a.inherited

-- an ACE agrees in each field that is given, and its flags under the mask are those that are given
unfoldable pub matches : Match → AccessControlEntry → Bool
matches m a =
    agrees_sid m.sid a.sid
    && (agrees_in_numbers m a && (agrees_in_types m a && bit_and a.flags m.flags_mask == m.flags))
