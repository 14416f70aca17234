-- Parts and ACEs whose places were counted by hand (MS-DTYP 2.4.6, 2.4.5 and 2.4.4).
use Rattle.std.proofs.Common.{◌≡◌, [], ◌∷◌, ◌++◌, length, true, false, Some, None, Ok, Err, refl, rules}
use Rattle.std.specs.Prelude.{List, ℕ, drop, take}
use Rattle.sd_ace.specs.Ace.{AccessControlEntry}
use Rattle.sd_parts.specs.declared.part.Part.TheVariants as part
use Rattle.sd_kinds.specs.declared.kinds.AceKind.TheVariants as kinds
use Rattle.sd_sid.specs.Sid.{sid_at}
use Rattle.sd_kinds.specs.Kinds.{kind_code, kind_entry, kind_of}
use Rattle.sd_acl_view.specs.Ace.{announces_inherited, announces_object}
use Rattle.sd_acl_view.specs.AclReading.{ace_fault, aces_fault, aces_of, acl_fault, extent_fault, guid_if, inherited_in}
use Rattle.sd_acl_view.specs.AclReading.{kind_in, object_in, sid_offset_in}
use Rattle.sd_acl_view.specs.Bytes.{u16_at, u32_at}
use Rattle.sd_view.specs.Reading.{acl_part_fault, acl_shown, fault, header_fault, overlap_fault, overlaps_fault}
use Rattle.sd_view.specs.Reading.{parts_fault, reading, sid_fault, sid_shown}
use Rattle.sd_view.specs.declared.fault.SdFault.TheVariants as sd
use Rattle.sd_faults.specs.declared.line_fault.LineFault.TheVariants as line
use Rattle.sd_call.specs.Arguments.{descriptor_in}
use Rattle.sd_call.specs.declared.outcome.CallFault.TheVariants as call
use Rattle.sd_call.specs.Contents.{contents_in, refused}
use Rattle.sd_call.specs.Places.{nowhere}
use Rattle.sd_call.specs.Walk.{at_front, begins_with_header, fault_number, found, front_found, next, nothing_found}
use Rattle.sd_call.specs.Walk.{steps_to}
use Rattle.sd_call.specs.declared.ace.AceFound.{AceFound}
use Rattle.sd_call.specs.declared.contents.AclPlace.{AclPlace}
use Rattle.sd_call.specs.declared.contents.Contents.{Contents}
use Rattle.sd_call.specs.declared.place.Place.{Place}

-- an ACL of revision 2 with two ACEs of 20 bytes: (A;CI;FA;;;WD) and (D;;0x2;;;WD)
abbrev everyone : List ℕ
everyone = 1 ∷ 1 ∷ 0 ∷ 0 ∷ 0 ∷ 0 ∷ 0 ∷ 1 ∷ 0 ∷ 0 ∷ 0 ∷ 0 ∷ []

abbrev acl : List ℕ
acl = (2 ∷ 0 ∷ 48 ∷ 0 ∷ 2 ∷ 0 ∷ 0 ∷ 0 ∷ []) ++ (0 ∷ 2 ∷ 20 ∷ 0 ∷ 0xff ∷ 1 ∷ 0x1f ∷ 0 ∷ []) ++ everyone
    ++ (1 ∷ 0 ∷ 20 ∷ 0 ∷ 2 ∷ 0 ∷ 0 ∷ 0 ∷ []) ++ everyone

abbrev start : AceFound
start = nothing_found

abbrev first : AceFound
first = record start {
  mask = 0x1f01ff;
  number = 1;
  flags = 2;
  place = record { offset = 8; size = 20 };
  sid = record { offset = 16; size = 12 };
}

abbrev second : AceFound
second = record start {
  mask = 2;
  number = 2;
  kind = 1;
  place = record { offset = 28; size = 20 };
  sid = record { offset = 36; size = 12 };
}

-- a size that says one byte less than the header has, and a revision between the two
no_header : (next (2 ∷ 0 ∷ 7 ∷ 0 ∷ 0 ∷ 0 ∷ 0 ∷ 0 ∷ []) start ≡ Err (sd.Acl part.Dacl))
    × (next (3 ∷ 0 ∷ 8 ∷ 0 ∷ 0 ∷ 0 ∷ 0 ∷ 0 ∷ []) start ≡ Err (sd.Acl part.Dacl))
unfolding next begins_with_header u16_at
no_header = (refl, refl)

cut_acl : (next (2 ∷ 0 ∷ 9 ∷ 0 ∷ 0 ∷ 0 ∷ 0 ∷ 0 ∷ []) start ≡ Err (sd.Acl part.Dacl))
    × (next (2 ∷ 0 ∷ 8 ∷ 0 ∷ 0 ∷ 0 ∷ 0 ∷ []) start ≡ Err (sd.Acl part.Dacl))
unfolding next begins_with_header u16_at
cut_acl = (refl, refl)

empty : (next (4 ∷ 0 ∷ 8 ∷ 0 ∷ 0 ∷ 0 ∷ 0 ∷ 0 ∷ []) start ≡ Ok None)
    × (next (2 ∷ 0 ∷ 8 ∷ 0 ∷ 0 ∷ 0 ∷ 0 ∷ 0 ∷ 5 ∷ []) start ≡ Ok None)
unfolding next begins_with_header u16_at
empty = (refl, refl)

abbrev guid : List ℕ
guid = 0 ∷ 1 ∷ 2 ∷ 3 ∷ 4 ∷ 5 ∷ 6 ∷ 7 ∷ 8 ∷ 9 ∷ 10 ∷ 11 ∷ 12 ∷ 13 ∷ 14 ∷ 15 ∷ []

abbrev object_ace : AccessControlEntry
object_ace = record {
  kind = kinds.ObjectAllow;
  flags = 0;
  mask = 0x100;
  object = Some guid;
  inherited = Some guid;
  sid = record { authority = 1; subs = 0 ∷ [] };
}

-- both GUIDs, and then one of them alone: the SID follows what is there
two_guids : found 3 (record { offset = 100; size = 56 }) object_ace ≡ record start {
  mask = 0x100;
  number = 3;
  kind = 5;
  place = record { offset = 100; size = 56 };
  object_type = record { offset = 112; size = 16 };
  inherited_object_type = record { offset = 128; size = 16 };
  sid = record { offset = 144; size = 12 };
}
unfolding kind_code kind_entry
two_guids = refl

inherited_alone : found 1 (record { offset = 8; size = 40 }) (record object_ace { object = None }) ≡ record start {
  mask = 0x100;
  number = 1;
  kind = 5;
  place = record { offset = 8; size = 40 };
  inherited_object_type = record { offset = 20; size = 16 };
  sid = record { offset = 36; size = 12 };
}
unfolding kind_code kind_entry
inherited_alone = refl

begins_and_more : record {
  begins : next acl start ≡ Ok (Some first);
  goes_on : next acl first ≡ Ok (Some second);
  ends : next acl second ≡ Ok None;
  -- a size of 7 also where a count stands behind it, a size of a byte more than there are, and 7 bytes
  size_has_two_bytes : next (2 ∷ 0 ∷ 7 ∷ 0 ∷ 1 ∷ 0 ∷ 0 ∷ 0 ∷ []) start ≡ Err (sd.Acl part.Dacl);
  -- the two bytes behind the count mean nothing
  count_has_two_bytes : next (2 ∷ 0 ∷ 8 ∷ 0 ∷ 0 ∷ 0 ∷ 1 ∷ 0 ∷ []) start ≡ Ok None;
  -- an ACL that says it has one ACE, and has none
  missing : next (2 ∷ 0 ∷ 8 ∷ 0 ∷ 1 ∷ 0 ∷ 0 ∷ 0 ∷ []) start ≡ Err (sd.AceSize part.Dacl);
  steps : steps_to start (Ok (Some first)) ≡ (true, first);
  -- the fault is told, and the walk stays where it is
  stays : steps_to second (Err (sd.AceSize part.Dacl)) ≡ (false, record second { fault = 11 });
  stops : steps_to (record second { fault = 11 }) (Ok None) ≡ (false, second);
  nothing : nowhere ≡ record { offset = 0; size = 0 };
  -- the same ACEs without the header of an ACL: the first one alone is read, and nothing of one that is cut
  at_the_front : at_front (drop 8 acl)
      ≡ record first { place = record { offset = 0; size = 20 }; sid = record { offset = 8; size = 12 } };
  cut : at_front (take 19 (drop 8 acl)) ≡ record start { fault = 11 };
  empty : at_front [] ≡ record start { fault = 11 };
  of_no_kind : at_front (9 ∷ drop 9 acl) ≡ record start { fault = 12 };
}
unfolding next begins_with_header front_found sid_at u16_at u32_at ace_fault extent_fault kind_of sid_offset_in kind_in
    kind_code object_in inherited_in kind_entry guid_if announces_object announces_inherited
begins_and_more = search rules

-- ---- whole descriptors

abbrev place : ℕ → ℕ → Place
place offset size = record { offset = offset; size = size }

abbrev list : ℕ → ℕ → ℕ → ℕ → AclPlace
list state count offset size = record { state = state; ace_count = count; place = place offset size }

abbrev nothing_but : ℕ → ℕ → ℕ → Contents
nothing_but fault_number first_part second_part = record {
  outcome = record {
    fault = fault_number;
    part = first_part;
    other_part = second_part;
    argument = 0;
    entry = 0;
    length = 0;
  };
  control = 0;
  resource_manager = 0;
  owner = place 0 0;
  group = place 0 0;
  sacl = list 0 0 0 0;
  dacl = list 0 0 0 0;
}

abbrev no_parts : Contents
no_parts = nothing_but 0 0 0

-- `unfolding computed` lets `refl` compute what is in a descriptor
computed : Unit {0}
unfolding descriptor_in reading fault header_fault parts_fault sid_fault sid_shown sid_at acl_part_fault acl_shown
    acl_fault
    aces_fault aces_of ace_fault extent_fault overlaps_fault overlap_fault u16_at u32_at kind_in kind_of kind_code
    kind_entry sid_offset_in object_in inherited_in guid_if announces_object announces_inherited
computed = tt

system : List ℕ
system = 1 ∷ 1 ∷ 0 ∷ 0 ∷ 0 ∷ 0 ∷ 0 ∷ 5 ∷ 18 ∷ 0 ∷ 0 ∷ 0 ∷ []

-- The owner is behind the group, and the SACL, which has no ACE, behind the DACL of two.
whole : List ℕ
whole = (1 ∷ 7 ∷ 0x14 ∷ 0x80 ∷ 32 ∷ 0 ∷ 0 ∷ 0 ∷ 20 ∷ 0 ∷ 0 ∷ 0 ∷ 92 ∷ 0 ∷ 0 ∷ 0 ∷ 44 ∷ 0 ∷ 0 ∷ 0 ∷ [])
    ++ system ++ everyone ++ acl ++ (2 ∷ 0 ∷ 8 ∷ 0 ∷ 0 ∷ 0 ∷ 0 ∷ 0 ∷ [])

all_parts : contents_in whole ≡ record no_parts {
  control = 0x8014;
  resource_manager = 7;
  owner = place 32 12;
  group = place 20 12;
  sacl = list 2 0 92 8;
  dacl = list 2 2 44 48;
}
unfolding computed whole system
all_parts = refl

-- an ACL of 56 bytes: an ACE of 24 bytes whose SID ends 4 bytes earlier, an ACE behind it, and 4 more spare bytes
spare : List ℕ
spare = (2 ∷ 0 ∷ 56 ∷ 0 ∷ 2 ∷ 0 ∷ 0 ∷ 0 ∷ []) ++ (0 ∷ 2 ∷ 24 ∷ 0 ∷ 0xff ∷ 1 ∷ 0x1f ∷ 0 ∷ []) ++ everyone
    ++ (9 ∷ 9 ∷ 9 ∷ 9 ∷ []) ++ (1 ∷ 0 ∷ 20 ∷ 0 ∷ 2 ∷ 0 ∷ 0 ∷ 0 ∷ []) ++ everyone ++ (9 ∷ 9 ∷ 9 ∷ 9 ∷ [])

-- An ACE ends where its size says, and the next one is behind that.
spare_behind_a_sid : (next spare start ≡ Ok (Some (record first { place = place 8 24 })))
    × (next spare (record first { place = place 8 24 })
    ≡ Ok (Some (record second { place = place 32 20; sid = place 40 12 })))
    × (next spare (record second { place = place 32 20; sid = place 40 12 }) ≡ Ok None)
unfolding next begins_with_header front_found computed spare
spare_behind_a_sid = (refl, refl, refl)

-- SDTOOL_MOST_BYTES: one byte more is too long, whatever the bytes are
too_many_bytes : (bytes : List ℕ) → length bytes ≡ 131227 → contents_in bytes ≡ nothing_but 1 0 0
unfolding descriptor_in
too_many_bytes bytes h = rw h refl

whole_descriptors : record {
  -- So does an ACL: that one stands at 20, and the owner behind its spare bytes.
  spare_in_an_acl : contents_in ((1 ∷ 0 ∷ 4 ∷ 0x80 ∷ 76 ∷ 0 ∷ 0 ∷ 0 ∷ 0 ∷ 0 ∷ 0 ∷ 0 ∷ 0 ∷ 0 ∷ 0 ∷ 0 ∷ 20 ∷ 0 ∷ 0 ∷ 0
      ∷ [])
      ++ spare ++ system) ≡ record no_parts { control = 0x8004; owner = place 76 12; dacl = list 2 2 20 56 };
  -- a null DACL, and nothing else: its present bit is set, and its offset is 0
  null_dacl : contents_in (1 ∷ 0 ∷ 4 ∷ 0x80 ∷ 0 ∷ 0 ∷ 0 ∷ 0 ∷ 0 ∷ 0 ∷ 0 ∷ 0 ∷ 0 ∷ 0 ∷ 0 ∷ 0 ∷ 0 ∷ 0 ∷ 0 ∷ 0 ∷ [])
      ≡ record no_parts { control = 0x8004; dacl = list 1 0 0 0 };
  -- After a fault all else is 0.
  no_descriptor : contents_in [] ≡ nothing_but 5 0 0;
  shared_byte : refused (call.Line (line.Sd (sd.Overlap part.Sacl part.Dacl))) ≡ nothing_but 14 3 4;
}
unfolding computed spare system
whole_descriptors = search rules
