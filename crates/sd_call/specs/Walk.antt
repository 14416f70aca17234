-- A walk through an ACL (MS-DTYP 2.4.5), one ACE after the other.
use Rattle.std.specs.Prelude.{ℕ, ◌+◌, ◌==◌, ◌||◌, ◌&&◌, nat_le, nat_eq, not, Bool, if◌then◌else◌, List, length, drop}
use Rattle.std.specs.Prelude.{take, slice_index, true, false, Option, Some, None, option_map, Result, Ok, Err}
use Rattle.sd_text.specs.Chains.{unless}
use Rattle.sd_ace.specs.Ace.{AccessControlEntry, guid_size, sid_offset}
use Rattle.sd_kinds.specs.Kinds.{kind_code}
use Rattle.sd_sid.specs.Sid.{sid_size}
use Rattle.sd_parts.specs.declared.part.Part.TheVariants as part
use Rattle.sd_acl_view.specs.AclReading.{ace_fault, ace_of, acl_at_front}
use Rattle.sd_acl_view.specs.Bytes.{u16_at}
use Rattle.sd_view.specs.Reading.{fault_in}
use Rattle.sd_view.specs.declared.fault.SdFault.{SdFault}
use Rattle.sd_view.specs.declared.fault.SdFault.TheVariants as faults
use Rattle.sd_faults.specs.declared.line_fault.LineFault.TheVariants as line
use Rattle.sd_call.specs.Outcomes.{number}
use Rattle.sd_call.specs.declared.outcome.CallFault.TheVariants.{Line}
use Rattle.sd_call.specs.Places.{nowhere}
use Rattle.sd_call.specs.declared.ace.AceFound.{AceFound}
use Rattle.sd_call.specs.declared.place.Place.{Place}

-- 1. What is told of an ACE.

-- the place of a GUID that may be there
abbrev pub guid_place : ℕ → Option (List ℕ) → Place
guid_place offset None = nowhere
guid_place offset (Some g) = record { offset = offset; size = 16 }

-- an ACE that lies at a place, as the one of that number
abbrev pub found : ℕ → Place → AccessControlEntry → AceFound
found number place a = record {
  fault = 0;
  mask = a.mask;
  number = number;
  kind = kind_code a.kind;
  flags = a.flags;
  place = place;
  object_type = guid_place (place.offset + 12) a.object;
  inherited_object_type = guid_place (place.offset + 12 + guid_size a.object) a.inherited;
  sid = record { offset = place.offset + sid_offset a.kind a.object a.inherited; size = sid_size a.sid };
}

-- 2. One step.

-- the header of an ACL, and as many bytes as it says: 10 where they are not there
unfoldable pub begins_with_header : List ℕ → Bool
begins_with_header acl =
    nat_le 8 (length acl) && (slice_index acl 0 == 2 || slice_index acl 0 == 4) && nat_le 8 (u16_at 2 acl)
    && nat_le (u16_at 2 acl) (length acl)

-- where the walk goes on: behind the header, and then behind the ACE that it is at
abbrev pub behind : AceFound → ℕ
behind at = if nat_eq at.number 0 then 8 else at.place.offset + at.place.size

-- what is left of the ACL there
abbrev pub left : List ℕ → AceFound → List ℕ
left acl at = drop (behind at) (acl_at_front acl)

-- the ACE at the front of some bytes that lie at an offset
unfoldable pub front_found : ℕ → ℕ → List ℕ → Result AceFound SdFault
front_found number offset bytes =
    unless (option_map (fault_in part.Dacl) (ace_fault bytes))
    (found number (record { offset = offset; size = u16_at 2 bytes }) (ace_of (take (u16_at 2 bytes) bytes)))

abbrev pub some_found : Result AceFound SdFault → Result (Option AceFound) SdFault
some_found (Ok ace) = Ok (Some ace)
some_found (Err fault) = Err fault

-- The ACE that comes next, or none behind the last one. A fault is told as one of a DACL: an ACL by itself is in no
-- part.
unfoldable pub next : List ℕ → AceFound → Result (Option AceFound) SdFault
next acl at =
    if not (begins_with_header acl) then Err (faults.Acl part.Dacl)
    else if nat_le (u16_at 4 acl) at.number then Ok None
    else some_found (front_found (at.number + 1) (behind at) (left acl at))

-- 3. What the caller sees of a step.

abbrev pub fault_number : SdFault → ℕ
fault_number fault = number (Line (line.Sd fault))

-- Whether there is an ACE, and what is told. At the end and after a fault the walk stays at the ACE where it is.
abbrev pub steps_to : AceFound → Result (Option AceFound) SdFault → Bool × AceFound
steps_to at (Ok (Some ace)) = (true, ace)
steps_to at (Ok None) = (false, record at { fault = 0 })
steps_to at (Err fault) = (false, record at { fault = fault_number fault })

-- 4. The first ACE of some bytes, as a walk that begins there would find it.

-- what a walk begins with
abbrev pub nothing_found : AceFound
nothing_found = record {
  fault = 0;
  mask = 0;
  number = 0;
  kind = 0;
  flags = 0;
  place = nowhere;
  object_type = nowhere;
  inherited_object_type = nowhere;
  sid = nowhere;
}

abbrev pub at_front : List ℕ → AceFound
at_front bytes = (steps_to nothing_found (some_found (front_found 1 0 bytes))).1
