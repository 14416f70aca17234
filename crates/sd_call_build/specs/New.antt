-- What a new descriptor is built from, and the values that it spells.
use Rattle.std.specs.Prelude.{◌≤◌, ◌<◌, ◌^◌, ℕ, map, nat_lt, ◌/◌, ◌%◌, ◌||◌, ◌&&◌, not, Bool, nat_eq, if◌then◌else◌}
use Rattle.std.specs.Prelude.{List, [], length, Option, Some, None, is_some, unwrap_or}
use Rattle.std.specs.List.{position}
use Rattle.std.specs.Option.{option_and_then}
use Rattle.uuid.specs.Parts.{swap_fields}
use Rattle.sd_ace.specs.Ace.{AccessControlEntry}
use Rattle.sd_kinds.specs.Kinds.{is_object, kind_of}
use Rattle.sd_kinds.specs.declared.kinds.AceKind.{AceKind}
use Rattle.sd_kinds.specs.declared.kinds.AceKind.TheVariants as kinds
use Rattle.sd_sid.specs.Sid.{SecurityId, sid_at}
use Rattle.sd_parts.specs.Control.{control_of}
use Rattle.sd_parts.specs.declared.part.Parts.{Parts}
use Rattle.sd_parts.specs.declared.part.Which.{Which}
use Rattle.sd_parts.specs.declared.part.Which.TheVariants as which
use Rattle.sd_view.specs.Descriptor.{Descriptor}
use Rattle.sd_view.specs.Layout.{acl_part_size, sid_part_size}
use Rattle.sd_view.specs.declared.acl_part.AclPart.{AclPart}
use Rattle.sd_view.specs.declared.acl_part.AclPart.TheVariants as acl
use Rattle.sd_builder.specs.Draft.{is_present}
use Rattle.sd_call_build.specs.declared.new.NewAce.{NewAce}
use Rattle.sd_call_build.specs.declared.new.NewAcl.{NewAcl}
use Rattle.sd_call_build.specs.declared.new.NewDescriptor.{NewDescriptor}

-- 1. The fields of an ACE.

-- a SID that takes all of the bytes
abbrev pub whole_of : ℕ → Option (SecurityId × ℕ) → Option SecurityId
whole_of n None = None
whole_of n (Some found) = if nat_eq found.1 n then Some found.0 else None

abbrev pub whole_sid : List ℕ → Option SecurityId
whole_sid bytes = whole_of (length bytes) (sid_at bytes)

-- the GUID of an object type, whose bytes are as in an ACE: none where there are no bytes
abbrev pub guid_in : List ℕ → Option (Option (List ℕ))
guid_in bytes =
    if nat_eq (length bytes) 0 then Some None
    else if nat_eq (length bytes) 16 then Some (Some (swap_fields bytes))
    else None

-- 2.4.4.1 and 2.4.4.3: flag 0x20 is clear, and GUIDs stand in object kinds alone
abbrev pub can_be : AceKind → ℕ → Option (List ℕ) → Option (List ℕ) → Bool
can_be kind flags object inherited =
    nat_eq (flags / 0x20 % 2) 0 && (is_object kind || (not (is_some object) && not (is_some inherited)))

-- 2. An ACE.

abbrev pub made : AceKind → ℕ → ℕ → Option (List ℕ) → Option (List ℕ) → SecurityId → Option AccessControlEntry
made kind flags mask object inherited sid =
    if can_be kind flags object inherited then Some (record {
      kind = kind;
      flags = flags;
      mask = mask;
      object = object;
      inherited = inherited;
      sid = sid;
    })
    else None

-- the ACE that is meant, if it can be
unfoldable pub ace_in : NewAce → Option AccessControlEntry
ace_in new =
    option_and_then (λ kind. option_and_then (λ object. option_and_then (λ inherited. option_and_then
    (λ sid. made kind new.flags new.mask object inherited sid)
    (whole_sid new.sid.now)) (guid_in new.inherited_object_type.now)) (guid_in new.object_type.now)) (kind_of new.kind)

abbrev pub is_ace : NewAce → Bool
is_ace new = is_some (ace_in new)

-- stands for an ACE that can't be, and is never used
abbrev pub no_ace : AccessControlEntry
no_ace = record {
  kind = kinds.Allow;
  flags = 0;
  mask = 0;
  object = None;
  inherited = None;
  sid = record { authority = 0; subs = [] };
}

abbrev pub shown_ace : NewAce → AccessControlEntry
shown_ace new = unwrap_or (ace_in new) no_ace

abbrev pub is_object_ace : NewAce → Bool
is_object_ace new = is_object (shown_ace new).kind

-- 3. An ACL.

-- the first ACE that can't be; 0 also where ACEs come with an ACL that is no list, or the state is none
abbrev pub wrong_ace : NewAcl → Option ℕ
wrong_ace new =
    if nat_lt new.state 2 then if nat_eq (length new.aces.now) 0 then None else Some 0
    else if nat_eq new.state 2 then position (λ a. not (is_ace a)) new.aces.now
    else Some 0

-- absent, null, or the list of its ACEs
abbrev pub acl_shown : NewAcl → AclPart
acl_shown new =
    if nat_eq new.state 0 then acl.Absent
    else if nat_eq new.state 1 then acl.Null
    else acl.List (map shown_ace new.aces.now)

-- 4. The descriptor.

-- there are bytes, and they are no SID
abbrev pub is_wrong_sid : List ℕ → Bool
is_wrong_sid bytes = not (nat_eq (length bytes) 0) && not (is_some (whole_sid bytes))

abbrev pub new_descriptor : NewDescriptor → Descriptor
new_descriptor new = record {
  control = control_of new.control (is_present (acl_shown new.sacl)) (is_present (acl_shown new.dacl));
  rm = new.resource_manager;
  owner = whole_sid new.owner.now;
  group = whole_sid new.group.now;
  sacl = acl_shown new.sacl;
  dacl = acl_shown new.dacl;
}

abbrev pub part_sizes : Descriptor → Parts ℕ
part_sizes d = record {
  owner = sid_part_size d.owner;
  group = sid_part_size d.group;
  sacl = acl_part_size d.sacl;
  dacl = acl_part_size d.dacl;
}

pub record AreSmall (sizes : Parts ℕ) : Type 0 where
  pub owner : sizes.owner ≤ 68
  pub group : sizes.group ≤ 68
  pub sacl : sizes.sacl < 2 ^ 16
  pub dacl : sizes.dacl < 2 ^ 16

-- the first ACL that would pass 65,535 bytes
abbrev pub large_part : Descriptor → Option Which
large_part d =
    if nat_lt 65535 (acl_part_size d.sacl) then Some which.Sacl
    else if nat_lt 65535 (acl_part_size d.dacl) then Some which.Dacl
    else None
