-- The range of each place is in the bytes.
use Rattle.std.proofs.Common.{◌≡◌, ◌≤◌, inl, inr, ℕ, zero, suc, ◌+◌, ◌-◌, ◌*◌, ◌||◌, ◌/◌, ◌%◌, Bool, true, false, not}
use Rattle.std.proofs.Common.{cond, eqb, ltb, List, length, drop, slice_index, Option, Some, None, refl, arith}
use Rattle.std.proofs.Common.{length-drop}
use Rattle.std.specs.Prelude.{is_some}
use Rattle.std.specs.Option.{option_map, option_or}
use Rattle.std.proofs.lemmas.Bool.{ltb-false}
use Rattle.std.proofs.lemmas.List.{length-take}
use Rattle.sd_ace.specs.Ace.{AccessControlEntry}
use Rattle.sd_kinds.specs.Kinds.{kind_of}
use Rattle.sd_view.specs.declared.acl_part.AclPart.TheVariants as acl
use Rattle.sd_sid.specs.Sid.{SecurityId, sid_at, sid_of, sid_stands}
use Rattle.sd_sid.proofs.laws.SidLaws.{Stands-test, length-words}
use Rattle.sd_parts.specs.Control.{dacl_present, sacl_present}
use Rattle.sd_parts.specs.Parts.{get_part, part_of, sid_part_of}
use Rattle.sd_parts.specs.declared.part.Part.{Part}
use Rattle.sd_parts.specs.declared.part.Part.TheVariants.{Dacl, Group, Owner, Sacl}
use Rattle.sd_parts.specs.declared.part.SidPart.{SidPart}
use Rattle.sd_parts.specs.declared.part.SidPart.TheVariants as sids
use Rattle.sd_parts.specs.declared.part.Which.{Which}
use Rattle.sd_parts.specs.declared.part.Which.TheVariants as acls
use Rattle.sd_acl_view.specs.AclReading.{ace_fault, aces_fault, acl_at_front, acl_fault, acl_of, extent_fault}
use Rattle.sd_acl_view.specs.AclReading.{sid_offset_in}
use Rattle.sd_acl_view.specs.Bytes.{u16_at}
use Rattle.sd_acl_view.specs.declared.fault.AclFault.{AclFault}
use Rattle.sd_acl_view.specs.declared.fault.AclFault.TheVariants as lists
use Rattle.sd_acl_view.proofs.laws.FirstFault.{first_none, otherwise, went_on}
use Rattle.sd_view.specs.Descriptor.{acl_extent, control_at, dacl_at, extents_of, group_at, owner_at, sacl_at}
use Rattle.sd_view.specs.Descriptor.{sid_extent}
use Rattle.sd_view.specs.Reading.{acl_part_fault, acl_shown, fault, fault_in, parts_fault, shown, sid_fault, sid_shown}
use Rattle.sd_view.specs.declared.fault.SdFault.{SdFault}
use Rattle.sd_view.specs.declared.fault.SdFault.TheVariants as faults
use Rattle.sd_fault_places.specs.Places.{IsWithin, aces_in, acl_in, at_extent, behind_aces, counted_sid, faulty_ace}
use Rattle.sd_fault_places.specs.Places.{from_part, left_at_fault, part_at, place_of, at_ace_header, at_ace_sid}
use Rattle.sd_fault_places.specs.declared.place.Field.{Field}
use Rattle.sd_fault_places.specs.declared.place.Field.TheVariants as field
use Rattle.sd_fault_places.proofs.FirstFaults.{Known, chosen, in_aces, known, or_right, stops}

-- 1. ACEs.

behind_shorter : (n : ℕ) (left : List ℕ) → length (behind_aces n left) ≤ length left
behind_shorter zero left = omega arith
behind_shorter (suc n) left =
    let rest = behind_shorter n (drop (u16_at 2 left) left) in omega (arith, rest, length-drop (u16_at 2 left) left)

-- what is left of an ACL from a place in it on ends in the bytes
left_within : (part : Part) (bytes : List ℕ) → part_at part bytes + 8 ≤ length bytes
    → part_at part bytes + (length (acl_in part bytes) - length (left_at_fault part bytes))
    + length (left_at_fault part bytes) ≤ length bytes
left_within part bytes room =
    let front = from_part part bytes in
    let acl = acl_in part bytes in
    let shorter : length (left_at_fault part bytes) ≤ length (aces_in part bytes)
    = behind_shorter (faulty_ace part bytes) (aces_in part bytes) in
    omega (
      arith,
      shorter,
      length-drop 8 acl,
      length-take (u16_at 2 front) front,
      length-drop (part_at part bytes) bytes,
      room,
    )

header_within : (part : Part) (name : Field) (bytes : List ℕ) → part_at part bytes + 8 ≤ length bytes
    → IsWithin bytes (at_ace_header part name bytes)
header_within part name bytes room =
    omega (arith, left_within part bytes room, length-take 4 (left_at_fault part bytes))

-- a SID that is at fault begins in its ACE
in_extent : (extent : List ℕ) → extent_fault extent ≡ Some lists.Sid → sid_offset_in extent + 8 ≤ length extent
unfolding extent_fault
in_extent extent e =
    let sid : Option AclFault = cond (is_some (sid_at (drop (sid_offset_in extent) extent))) None (Some lists.Sid) in
    let room : Bool = ltb (length extent) (sid_offset_in extent + 8) in
    let flag : Bool = eqb (slice_index extent 1 / 0x20 % 2) 1 in
    let third : Option AclFault = cond room (Some lists.AceSize) sid in
    let second : Option AclFault = cond flag (Some lists.AceFlags) third in
    chosen (not (is_some (kind_of (slice_index extent 0)))) lists.AceType second lists.Sid e (λ same. absurd (cc))
    (λ miss rest. chosen flag lists.AceFlags third lists.Sid rest (λ same. absurd (cc))
    (λ miss rest. chosen room lists.AceSize sid lists.Sid rest (λ same. absurd (cc))
    (λ miss rest. ltb-false (length extent) (sid_offset_in extent + 8) miss)))

in_front : (left : List ℕ) → ace_fault left ≡ Some lists.Sid
    → sid_offset_in (acl_at_front left) + 8 ≤ length (acl_at_front left)
unfolding ace_fault
in_front left e =
    let inner : Option AclFault = extent_fault (acl_at_front left) in
    let odd : Bool = not (eqb (u16_at 2 left % 4) 0) in
    let size : Bool = ltb (u16_at 2 left) 16 || ltb (length left) (u16_at 2 left) in
    let third : Option AclFault = cond odd (Some lists.AceSize) inner in
    let second : Option AclFault = cond size (Some lists.AceSize) third in
    chosen (ltb (length left) 16) lists.AceSize second lists.Sid e (λ same. absurd (cc))
    (λ miss rest. chosen size lists.AceSize third lists.Sid rest (λ same. absurd (cc))
    (λ miss rest. chosen odd lists.AceSize inner lists.Sid rest (λ same. absurd (cc))
    (λ miss rest. in_extent (acl_at_front left) rest)))

sid_within : (part : Part) (bytes : List ℕ) → part_at part bytes + 8 ≤ length bytes
    → acl_fault (from_part part bytes) ≡ Some lists.Sid → IsWithin bytes (at_ace_sid part bytes)
sid_within part bytes room e =
    let aces = in_aces (from_part part bytes) lists.Sid e (λ other. cc) in
    let s = stops (u16_at 4 (from_part part bytes)) (aces_in part bytes) lists.Sid aces in
    let left = left_at_fault part bytes in
    let extent = acl_at_front left in
    let so = sid_offset_in extent in
    let inside : so + 8 ≤ length extent = in_front left s.faulty in
    let sid = drop so extent in
    omega (
      arith,
      left_within part bytes room,
      inside,
      length-take (8 + 4 * slice_index sid 1) sid,
      length-drop so extent,
      length-take (u16_at 2 left) left,
    )

acl_within : (w : Which) (g : AclFault) (bytes : List ℕ) → part_at (part_of w) bytes + 8 ≤ length bytes
    → acl_fault (from_part (part_of w) bytes) ≡ Some g
    → IsWithin bytes (place_of bytes (fault_in (part_of w) g))
acl_within w lists.Acl bytes room e = room
acl_within w lists.AceSize bytes room e = header_within (part_of w) field.Size bytes room
acl_within w lists.AceType bytes room e = header_within (part_of w) field.Kind bytes room
acl_within w lists.AceFlags bytes room e = header_within (part_of w) field.Flags bytes room
acl_within acls.Sacl lists.Sid bytes room e = sid_within Sacl bytes room e
acl_within acls.Dacl lists.Sid bytes room e = sid_within Dacl bytes room e

-- 2. SIDs of parts, and offsets.

counted_within : (at : ℕ) (bytes : List ℕ) → at + 8 ≤ length bytes
    → at + length (counted_sid (drop at bytes)) ≤ length bytes
counted_within at bytes room =
    let sid = drop at bytes in
    omega (arith, length-take (8 + 4 * slice_index sid 1) sid, length-drop at bytes, room)

part_sid_within : (p : SidPart) (bytes : List ℕ) → part_at (sid_part_of p) bytes + 8 ≤ length bytes
    → IsWithin bytes (place_of bytes (faults.Sid (sid_part_of p)))
part_sid_within sids.Owner bytes room = counted_within (part_at Owner bytes) bytes room
part_sid_within sids.Group bytes room = counted_within (part_at Group bytes) bytes room

offset_within : (p : Part) (bytes : List ℕ) → 20 ≤ length bytes → IsWithin bytes (place_of bytes (faults.Offset p))
offset_within Owner bytes long = omega (arith, long)
offset_within Group bytes long = omega (arith, long)
offset_within Sacl bytes long = omega (arith, long)
offset_within Dacl bytes long = omega (arith, long)

-- 3. Whole parts.

sid_extent_within : (q : Part) (o : ℕ) (bytes : List ℕ)
    → IsWithin bytes (at_extent q (sid_extent o (sid_shown bytes o)))
unfolding sid_shown sid_at
sid_extent_within q o bytes = by_tests (eqb o 0) (sid_stands (drop o bytes)) refl
  where
    by_tests : (z st : Bool) → sid_stands (drop o bytes) ≡ st → IsWithin bytes
        (at_extent q (sid_extent o (cond z None (option_map (λ (r : SecurityId × ℕ). r.0)
        (cond st (Some (sid_of (drop o bytes), 8 + 4 * slice_index (drop o bytes) 1)) None)))))
    by_tests true st e = omega arith
    by_tests false false e = omega arith
    by_tests false true e =
        let s = Stands-test (drop o bytes) e in
        omega (arith, s.whole, length-drop o bytes, length-words (slice_index (drop o bytes) 1) (drop 8 (drop o bytes)))

map_none : {A B : Type 0} (h : A → B) (o : Option A) → option_map h o ≡ None → o ≡ None
map_none h None e = refl
map_none h (Some x) e = absurd (cc)

acl_cases : (q : Part) (o : ℕ) (bytes : List ℕ) (here null : Bool) (list : List AccessControlEntry)
    → (here ≡ true → null ≡ false → o + u16_at 2 (drop o bytes) ≤ length bytes)
    → IsWithin bytes
    (at_extent q (acl_extent bytes o (cond (not here) acl.Absent (cond null acl.Null (acl.List list)))))
acl_cases q o bytes false null list h = omega arith
acl_cases q o bytes true true list h = omega arith
acl_cases q o bytes true false list h = let room = h refl refl in omega (arith, room)

acl_room : (p : Part) (o : ℕ) (present : Bool) (bytes : List ℕ) → acl_part_fault p bytes present o ≡ None
    → present ≡ true → eqb o 0 ≡ false → o + u16_at 2 (drop o bytes) ≤ length bytes
unfolding acl_part_fault acl_fault
acl_room p o present bytes e here null =
    let front = drop o bytes in
    let aces : Option AclFault = aces_fault (u16_at 4 front) (drop 8 (acl_at_front front)) in
    let revision : Bool = not (eqb (slice_index front 0) 2 || eqb (slice_index front 0) 4) in
    let size : Bool = ltb (u16_at 2 front) 8 || ltb (length front) (u16_at 2 front) in
    let low : Bool = ltb o 20 || ltb (length bytes) (o + 8) in
    let list : Option AclFault = cond revision (Some lists.Acl) (cond size (Some lists.Acl) aces) in
    let past : Option SdFault = cond low (Some (faults.Offset p)) (option_map (fault_in p) list) in
    let absent : not present ≡ false = rw here refl in
    let inner : past ≡ None =
    otherwise (eqb o 0) None past null (otherwise (not present) None (cond (eqb o 0) None past) absent e) in
    let range = went_on low (faults.Offset p) (option_map (fault_in p) list) inner in
    let first = went_on revision lists.Acl (cond size (Some lists.Acl) aces) (map_none (fault_in p) list range.1) in
    let second = went_on size lists.Acl aces first.1 in
    let fits = ltb-false (length front) (u16_at 2 front)
    (or_right (ltb (u16_at 2 front) 8) (ltb (length front) (u16_at 2 front)) second.0) in
    let room = ltb-false (length bytes) (o + 8) (or_right (ltb o 20) (ltb (length bytes) (o + 8)) range.0) in
    omega (arith, fits, room, length-drop o bytes)

acl_extent_within : (p q : Part) (o : ℕ) (present : Bool) (bytes : List ℕ) → acl_part_fault p bytes present o ≡ None
    → IsWithin bytes (at_extent q (acl_extent bytes o (acl_shown bytes present o)))
unfolding acl_shown
acl_extent_within p q o present bytes e =
    acl_cases q o bytes present (eqb o 0) (acl_of (acl_at_front (drop o bytes))) (acl_room p o present bytes e)

-- the two ACLs, where no part has a fault by itself
sound_acls : (bytes : List ℕ) → parts_fault bytes ≡ None
    → (acl_part_fault Sacl bytes (sacl_present (control_at bytes)) (sacl_at bytes) ≡ None)
    × (acl_part_fault Dacl bytes (dacl_present (control_at bytes)) (dacl_at bytes) ≡ None)
unfolding parts_fault
sound_acls bytes e =
    let sacl = acl_part_fault Sacl bytes (sacl_present (control_at bytes)) (sacl_at bytes) in
    let dacl = acl_part_fault Dacl bytes (dacl_present (control_at bytes)) (dacl_at bytes) in
    let group = sid_fault Group bytes (group_at bytes) in
    first_none sacl dacl (first_none group (option_or sacl dacl)
    (first_none (sid_fault Owner bytes (owner_at bytes)) (option_or group (option_or sacl dacl)) e).1).1

part_within : (q : Part) (bytes : List ℕ) → parts_fault bytes ≡ None
    → IsWithin bytes (at_extent q (get_part q (extents_of bytes (shown bytes))))
part_within Owner bytes e = sid_extent_within Owner (owner_at bytes) bytes
part_within Group bytes e = sid_extent_within Group (group_at bytes) bytes
part_within Sacl bytes e =
    acl_extent_within Sacl Sacl (sacl_at bytes) (sacl_present (control_at bytes)) bytes (sound_acls bytes e).0
part_within Dacl bytes e =
    acl_extent_within Dacl Dacl (dacl_at bytes) (dacl_present (control_at bytes)) bytes (sound_acls bytes e).1

-- 4. All places.

within_known : (bytes : List ℕ) (f : SdFault) → Known bytes f → IsWithin bytes (place_of bytes f)
within_known bytes f (Known.short e) = rw e (omega arith)
within_known bytes f (Known.header long (inl e)) = rw e (omega (arith, long))
within_known bytes f (Known.header long (inr e)) = rw e (omega (arith, long))
within_known bytes f (Known.offset p long e) = rw e (offset_within p bytes long)
within_known bytes f (Known.sid p room e) = rw e (part_sid_within p bytes room)
within_known bytes f (Known.acl w g room at e) = rw e (acl_within w g bytes room at)
within_known bytes f (Known.overlap p q sound e) = rw e (part_within q bytes sound)

pub within : (bytes : List ℕ) (f : SdFault) → fault bytes ≡ Some f → IsWithin bytes (place_of bytes f)
within bytes f e = within_known bytes f (known bytes f e)
