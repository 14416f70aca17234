-- The change that is spelled by the members of a struct.
use Rattle.std.specs.Prelude.{ℕ, Bool, true, false, not, ◌==◌, ◌&&◌, ◌||◌, nat_lt, if◌then◌else◌}
use Rattle.std.specs.Prelude.{List, drop, Option, Some, None, is_some, option_map, replicate}
use Rattle.std.specs.Int.RustNames.{bit_and, bit_or}
use Rattle.std.specs.List.{list_all}
use Rattle.std.specs.Option.{option_and_then}
use Rattle.uuid.specs.Parts.{swap_fields}
use Rattle.sd_ace.specs.Ace.{AccessControlEntry}
use Rattle.sd_kinds.specs.Kinds.{kind_of}
use Rattle.sd_kinds.specs.declared.kinds.AceKind.{AceKind}
use Rattle.sd_parts.specs.declared.part.Which.{Which}
use Rattle.sd_parts.specs.declared.part.Which.TheVariants as which
use Rattle.sd_sid.specs.Sid.{SecurityId, sid_at}
use Rattle.sd_text.specs.Bits.{has_bit}
use Rattle.sd_call_build.specs.New.{made}
use Rattle.sd_edit.specs.declared.change.AclChange.{AclChange}
use Rattle.sd_edit.specs.declared.change.AclChange.TheVariants as acls
use Rattle.sd_edit.specs.declared.change.AclState.{AclState}
use Rattle.sd_edit.specs.declared.change.AclState.TheVariants as states
use Rattle.sd_edit.specs.declared.change.Change.{Change}
use Rattle.sd_edit.specs.declared.change.Change.TheVariants as changes
use Rattle.sd_edit.specs.declared.change.ListChange.{ListChange}
use Rattle.sd_edit.specs.declared.change.ListChange.TheVariants as lists
use Rattle.sd_edit.specs.declared.change.Place.{Place}
use Rattle.sd_edit.specs.declared.change.Place.TheVariants as places
use Rattle.sd_edit.specs.declared.matching.Match.{Match}
use Rattle.sd_edit.specs.declared.setting.Setting.{Setting}
use Rattle.sd_call_edit.specs.declared.input.ChangeInput.{ChangeInput}

-- 1. Members that are not used are 0.

abbrev pub is_zero : List ℕ → Bool
is_zero bytes = list_all (λ b. b == 0) bytes

abbrev pub has_no_number : ChangeInput → Bool
has_no_number c =
    bit_or (bit_or (bit_or (bit_or c.kind c.part) c.place) c.compare)
    (bit_or (bit_or c.mask c.set_mask) c.clear_mask) == 0
    && bit_or c.set_control c.clear_control == 0

abbrev pub has_no_byte : ChangeInput → Bool
has_no_byte c =
    bit_or (bit_or (bit_or (bit_or (bit_or c.ace_kind c.flags) c.flags_mask)
    (bit_or (bit_or c.set_flags c.clear_flags) c.state)) c.object_type_use) c.inherited_object_type_use == 0

abbrev pub has_no_guid : ChangeInput → Bool
has_no_guid c = is_zero c.object_type && is_zero c.inherited_object_type

abbrev pub has_no_sid : ChangeInput → Bool
has_no_sid c = is_zero c.sid && is_zero c.set_sid

-- each member is 0
unfoldable pub is_nothing : ChangeInput → Bool
is_nothing c = has_no_number c && (has_no_byte c && (has_no_guid c && has_no_sid c))

abbrev pub zeros_16 : List ℕ
zeros_16 = replicate 16 0

abbrev pub zeros_68 : List ℕ
zeros_68 = replicate 68 0

-- without the members of an ACE, of a match, and of a setting
abbrev pub without_ace : ChangeInput → ChangeInput
without_ace c = record c {
  mask = 0;
  ace_kind = 0;
  flags = 0;
  object_type_use = 0;
  inherited_object_type_use = 0;
  object_type = zeros_16;
  inherited_object_type = zeros_16;
  sid = zeros_68;
}

abbrev pub without_match : ChangeInput → ChangeInput
without_match c = record (without_ace c) { compare = 0; flags_mask = 0 }

abbrev pub without_setting : ChangeInput → ChangeInput
without_setting c = record c { set_mask = 0; clear_mask = 0; set_flags = 0; clear_flags = 0; set_sid = zeros_68 }

-- without what the kind of change uses
unfoldable pub unused_of : ChangeInput → ChangeInput
unused_of c =
    if c.kind == 1 || c.kind == 3 then record (without_ace c) { kind = 0; part = 0; place = 0 }
    else if c.kind == 2 then record c { kind = 0; part = 0; place = 0 }
    else if c.kind == 4 then record (without_match c) { kind = 0; part = 0 }
    else if c.kind == 5 then record (without_setting (without_match c)) { kind = 0; part = 0 }
    else if c.kind == 6 then record c { kind = 0; part = 0 }
    else if c.kind == 7 then record c { kind = 0; part = 0; state = 0 }
    else if c.kind == 8 || c.kind == 9 then record c { kind = 0; sid = zeros_68 }
    else if c.kind == 10 then record c { kind = 0; set_control = 0; clear_control = 0 }
    else c

-- 2. SIDs and GUIDs.

-- a SID stands at the front, and zeros behind it
abbrev pub sid_before : List ℕ → Option (SecurityId × ℕ) → Option SecurityId
sid_before bytes None = None
sid_before bytes (Some found) = if is_zero (drop found.1 bytes) then Some found.0 else None

abbrev pub sid_in : List ℕ → Option SecurityId
sid_in bytes = sid_before bytes (sid_at bytes)

-- zeros are no SID
abbrev pub optional_sid_in : List ℕ → Option (Option SecurityId)
optional_sid_in bytes = if is_zero bytes then Some None else option_map (λ s. Some s) (sid_in bytes)

-- enum sdtool_type_use: an object type that is not compared, none, and one
abbrev pub type_in : ℕ → List ℕ → Option (Option (Option (List ℕ)))
type_in said bytes =
    if said == 2 then Some (Some (Some (swap_fields bytes)))
    else if not (is_zero bytes) then None
    else if said == 1 then Some (Some None)
    else if said == 0 then Some None
    else None

-- the object type of a new ACE: none, or one
abbrev pub ace_type_in : ℕ → List ℕ → Option (Option (List ℕ))
ace_type_in said bytes =
    if said == 2 then Some (Some (swap_fields bytes))
    else if said == 0 && is_zero bytes then Some None
    else None

-- 3. A new ACE, a match, and a setting.

unfoldable pub ace_in : ChangeInput → Option AccessControlEntry
ace_in c =
    option_and_then (λ kind. option_and_then (λ object. option_and_then (λ inherited. option_and_then
    (λ sid. made kind c.flags c.mask object inherited sid)
    (sid_in c.sid)) (ace_type_in c.inherited_object_type_use c.inherited_object_type))
    (ace_type_in c.object_type_use c.object_type)) (kind_of c.ace_kind)

-- bit 1 says that the kind is compared, and bit 2 that the mask is
abbrev pub kind_if : Bool → ℕ → Option (Option AceKind)
kind_if true code = option_map (λ k. Some k) (kind_of code)
kind_if false code = if code == 0 then Some None else None

abbrev pub mask_if : Bool → ℕ → Option (Option ℕ)
mask_if true mask = Some (Some mask)
mask_if false mask = if mask == 0 then Some None else None

-- there is no bit 0x20, and each bit that is compared is under the mask
abbrev pub are_flags : ℕ → ℕ → Bool
are_flags flags mask = bit_and mask 0x20 == 0 && bit_and flags mask == flags

-- something is compared
abbrev pub compares : ChangeInput → Match → Bool
compares c m =
    is_some m.sid || (not (c.compare == 0) || (is_some m.object || (is_some m.inherited || not (m.flags_mask == 0))))

abbrev pub match_of : ChangeInput → Match → Option Match
match_of c m = if nat_lt c.compare 4 && (are_flags m.flags m.flags_mask && compares c m) then Some m else None

unfoldable pub match_in : ChangeInput → Option Match
match_in c =
    option_and_then (λ sid. option_and_then (λ kind. option_and_then (λ mask. option_and_then
    (λ object. option_and_then (λ inherited. match_of c (record {
      sid = sid;
      kind = kind;
      mask = mask;
      object = object;
      inherited = inherited;
      flags = c.flags;
      flags_mask = c.flags_mask;
    }))
    (type_in c.inherited_object_type_use c.inherited_object_type))
    (type_in c.object_type_use c.object_type)) (mask_if (has_bit 2 c.compare) c.mask))
    (kind_if (has_bit 1 c.compare) c.ace_kind)) (optional_sid_in c.sid)

-- no bit is both set and cleared, and 0x20 is neither
abbrev pub is_apart : ChangeInput → Bool
is_apart c =
    bit_and c.set_mask c.clear_mask == 0
    && (bit_and c.set_flags c.clear_flags == 0 && bit_and (bit_or c.set_flags c.clear_flags) 0x20 == 0)

abbrev pub setting_of : ChangeInput → Option SecurityId → Option Setting
setting_of c sid = if is_apart c then Some (record {
  sid = sid;
  set_mask = c.set_mask;
  clear_mask = c.clear_mask;
  set_flags = c.set_flags;
  clear_flags = c.clear_flags;
}) else None

unfoldable pub setting_in : ChangeInput → Option Setting
setting_in c = option_and_then (setting_of c) (optional_sid_in c.set_sid)

-- 4. A change, by its number: enum sdtool_change_kind.

abbrev pub which_in : ℕ → Option Which
which_in part = if part == 3 then Some which.Sacl else if part == 4 then Some which.Dacl else None

-- the two highest numbers are no places
abbrev pub place_in : ℕ → Place
place_in n = if n == 0xFFFFFFFF then places.End else if n == 0xFFFFFFFE then places.ByOrder else places.At n

abbrev pub state_in : ℕ → Option AclState
state_in n =
    if n == 0 then Some states.Absent
    else if n == 1 then Some states.Null
    else if n == 2 then Some states.List
    else None

-- 2.4.6: of the control word SR, SP and DP are not changed, and no bit is both set and cleared
abbrev pub control_in : ℕ → ℕ → Option Change
control_in set clear =
    if bit_and set 0x8014 == 0 && (bit_and clear 0x8014 == 0 && bit_and set clear == 0)
    then Some (changes.Control set clear) else None

unfoldable pub list_change_in : ChangeInput → Option ListChange
list_change_in c =
    if c.kind == 1 then option_map (λ a. lists.Put (place_in c.place) a) (ace_in c)
    else if c.kind == 2 then Some (lists.Take c.place)
    else if c.kind == 3 then option_map (λ a. lists.Replace c.place a) (ace_in c)
    else if c.kind == 4 then option_map (λ m. lists.TakeEach m) (match_in c)
    else if c.kind == 5 then option_and_then (λ m. option_map (λ s. lists.SetEach m s) (setting_in c)) (match_in c)
    else None

unfoldable pub acl_change_in : ChangeInput → Option AclChange
acl_change_in c =
    if c.kind == 6 then Some acls.Order
    else if c.kind == 7 then option_map (λ s. acls.State s) (state_in c.state)
    else option_map (λ l. acls.List l) (list_change_in c)

unfoldable pub change_of : ChangeInput → Option Change
change_of c =
    if c.kind == 8 then option_map (λ s. changes.Owner s) (optional_sid_in c.sid)
    else if c.kind == 9 then option_map (λ s. changes.Group s) (optional_sid_in c.sid)
    else if c.kind == 10 then control_in c.set_control c.clear_control
    else option_and_then (λ w. option_map (λ a. changes.Acl w a) (acl_change_in c)) (which_in c.part)

-- the change that is meant, if it is one
abbrev pub change_in : ChangeInput → Option Change
change_in c = if is_nothing (unused_of c) then change_of c else None
