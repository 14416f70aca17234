-- Faults whose places were counted by hand (MS-DTYP 2.4.6, 2.4.5 and 2.4.4).
use Rattle.std.proofs.Common.{◌≡◌, [], ◌∷◌, ◌++◌, Some, None, replicate, rules}
use Rattle.std.specs.Prelude.{ℕ, List, Option}
use Rattle.sd_parts.specs.declared.part.Part.{Part}
use Rattle.sd_parts.specs.declared.part.Part.TheVariants.{Dacl, Group, Owner, Sacl}
use Rattle.sd_sid.specs.Sid.{sid_at}
use Rattle.sd_kinds.specs.Kinds.{kind_of}
use Rattle.sd_acl_view.specs.Ace.{announces_inherited, announces_object}
use Rattle.sd_acl_view.specs.AclReading.{ace_fault, aces_fault, aces_of, acl_fault, extent_fault, guid_if, inherited_in}
use Rattle.sd_acl_view.specs.AclReading.{kind_in, object_in, sid_offset_in}
use Rattle.sd_acl_view.specs.Bytes.{u16_at, u32_at}
use Rattle.sd_view.specs.Reading.{acl_part_fault, acl_shown, fault, header_fault, overlap_fault, overlaps_fault}
use Rattle.sd_view.specs.Reading.{parts_fault, sid_fault, sid_shown}
use Rattle.sd_view.specs.declared.fault.SdFault.{SdFault}
use Rattle.sd_view.specs.declared.fault.SdFault.TheVariants as faults
use Rattle.sd_fault_places.specs.Places.{place_of_fault}
use Rattle.sd_fault_places.specs.declared.place.FaultPlace.{FaultPlace}
use Rattle.sd_fault_places.specs.declared.place.Field.{Field}
use Rattle.sd_fault_places.specs.declared.place.Field.TheVariants as field

-- `unfolding computed` lets `refl` compute a row
computed : Unit {0}
unfolding fault header_fault parts_fault sid_fault sid_shown sid_at acl_part_fault acl_shown acl_fault aces_fault
    aces_of ace_fault extent_fault overlaps_fault overlap_fault u16_at u32_at kind_in kind_of sid_offset_in object_in
    inherited_in guid_if announces_object announces_inherited
computed = tt

-- a fault, with its part, ACE and field, and its range
abbrev at : SdFault → Option Part → Option ℕ → Option Field → ℕ → ℕ → Option (SdFault × FaultPlace)
at f part ace name offset size =
    Some (f, record { part = part; ace = ace; field = name; range = record { offset = offset; size = size } })

abbrev header : ℕ → ℕ → ℕ → ℕ → ℕ → List ℕ
header control owner group sacl dacl =
    1 ∷ 0 ∷ control ∷ 0x80 ∷ owner ∷ 0 ∷ 0 ∷ 0 ∷ group ∷ 0 ∷ 0 ∷ 0 ∷ sacl ∷ 0 ∷ 0 ∷ 0 ∷ dacl ∷ 0 ∷ 0 ∷ 0 ∷ []

abbrev everyone : List ℕ
everyone = 1 ∷ 1 ∷ 0 ∷ 0 ∷ 0 ∷ 0 ∷ 0 ∷ 1 ∷ 0 ∷ 0 ∷ 0 ∷ 0 ∷ []

-- the front of an ACE with the mask 1, and that of an ACL
abbrev front : ℕ → ℕ → ℕ → List ℕ
front kind flags size = kind ∷ flags ∷ size ∷ 0 ∷ 1 ∷ 0 ∷ 0 ∷ 0 ∷ []

abbrev acl_front : ℕ → ℕ → List ℕ
acl_front size count = 2 ∷ 0 ∷ size ∷ 0 ∷ count ∷ 0 ∷ 0 ∷ 0 ∷ []

-- 1. The header.

no_bytes_and_more : record {
  no_bytes : place_of_fault [] ≡ at faults.Short None None None 0 0;
  short : place_of_fault (1 ∷ 0 ∷ 4 ∷ []) ≡ at faults.Short None None None 3 0;
  revision : place_of_fault (replicate 20 2) ≡ at faults.Revision None None None 0 1;
  not_self_relative : place_of_fault (1 ∷ replicate 19 0) ≡ at faults.NotSelfRelative None None None 2 2;
  no_fault : place_of_fault (header 0 0 0 0 0) ≡ None;
}
unfolding computed
no_bytes_and_more = search rules

-- 2. Offsets: 8 bytes have to follow.

owner_offset_and_more : record {
  owner_offset : place_of_fault (header 0 20 0 0 0) ≡ at (faults.Offset Owner) (Some Owner) None None 4 4;
  group_offset : place_of_fault (header 0 20 8 0 0 ++ everyone)
      ≡ at (faults.Offset Group) (Some Group) None None 8 4;
  sacl_offset : place_of_fault (header 0x10 0 0 13 0) ≡ at (faults.Offset Sacl) (Some Sacl) None None 12 4;
  dacl_offset : place_of_fault (header 4 0 0 0 255) ≡ at (faults.Offset Dacl) (Some Dacl) None None 16 4;
}
unfolding computed
owner_offset_and_more = search rules

-- 3. SIDs: of 16 sub-authorities there are 72 bytes, and what follows is no part of the SID; of a SID that is cut there
-- is what the bytes have.

many_subs_and_more : record {
  many_subs : place_of_fault (header 0 0 20 0 0 ++ (1 ∷ 16 ∷ replicate 80 0))
      ≡ at (faults.Sid Group) (Some Group) None (Some field.Sid) 20 72;
  cut_sid : place_of_fault (header 0 21 0 0 0 ++ (9 ∷ 1 ∷ 2 ∷ replicate 8 0))
      ≡ at (faults.Sid Owner) (Some Owner) None (Some field.Sid) 21 10;
}
unfolding computed
many_subs_and_more = search rules

-- 4. ACLs.

acl_revision_and_more : record {
  acl_revision : place_of_fault (header 4 0 0 0 20 ++ (3 ∷ 0 ∷ 8 ∷ 0 ∷ 0 ∷ 0 ∷ 0 ∷ 0 ∷ []))
      ≡ at (faults.Acl Dacl) (Some Dacl) None None 20 8;
  -- of two ACEs that are counted the second one is missing: it is where the first one ends
  missing_ace : place_of_fault (header 4 0 0 0 20 ++ acl_front 28 2 ++ front 0 0 20 ++ everyone)
      ≡ at (faults.AceSize Dacl) (Some Dacl) (Some 1) (Some field.Size) 48 0;
  -- three bytes are left of the ACL, and more of the bytes
  cut_ace : place_of_fault (header 0x10 0 0 20 0 ++ acl_front 11 1 ++ front 0 0 20 ++ everyone)
      ≡ at (faults.AceSize Sacl) (Some Sacl) (Some 0) (Some field.Size) 28 3;
  -- the kind of the second ACE; its flags; both from the front of that ACE on
  second_kind : place_of_fault (header 4 0 0 0 20 ++ acl_front 48 2
      ++ front 0 0 20 ++ everyone ++ front 9 0x20 20 ++ everyone)
      ≡ at (faults.AceType Dacl) (Some Dacl) (Some 1) (Some field.Kind) 48 4;
  second_flags : place_of_fault (header 4 0 0 0 20 ++ acl_front 48 2
      ++ front 0 0 20 ++ everyone ++ front 1 0x20 20 ++ everyone)
      ≡ at (faults.AceFlags Dacl) (Some Dacl) (Some 1) (Some field.Flags) 48 4;
  -- of two faulty ACEs the first one
  first_of_two : place_of_fault (header 4 0 0 0 20 ++ acl_front 48 2
      ++ front 9 0 20 ++ everyone ++ front 9 0 20 ++ everyone)
      ≡ at (faults.AceType Dacl) (Some Dacl) (Some 0) (Some field.Kind) 28 4;
  -- the SID of an ACE, cut by the ACE: two sub-authorities do not fit, and further bytes follow
  ace_sid : place_of_fault (header 4 0 0 0 20 ++ acl_front 48 2
      ++ front 0 0 20 ++ (1 ∷ 2 ∷ replicate 10 0) ++ front 0 0 20 ++ everyone)
      ≡ at (faults.Sid Dacl) (Some Dacl) (Some 0) (Some field.Sid) 36 12;
  -- of an object ACE it is behind the object flags and the GUID that they announce; its revision is 2
  object_sid : place_of_fault (header 4 0 0 0 20 ++ acl_front 68 1 ++ front 5 0 60
      ++ (2 ∷ 0 ∷ 0 ∷ 0 ∷ replicate 16 7) ++ (2 ∷ 1 ∷ replicate 30 0))
      ≡ at (faults.Sid Dacl) (Some Dacl) (Some 0) (Some field.Sid) 56 12;
}
unfolding computed
acl_revision_and_more = search rules

-- 5. Parts that share a byte: the second one, from its first byte to its last.

shared_rows : record {
  shared_sid : place_of_fault (header 0 20 24 0 0 ++ (1 ∷ 1 ∷ 0 ∷ 0 ∷ 1 ∷ 1 ∷ 0 ∷ 5 ∷ 0 ∷ 0 ∷ 0 ∷ 0 ∷ 0 ∷ 0 ∷ 0 ∷ 0
      ∷ []))
      ≡ at (faults.Overlap Owner Group) (Some Group) None None 24 12;
  -- an ACL is as long as its size says, with its spare bytes
  shared_acl : place_of_fault (header 4 32 0 0 20 ++ acl_front 15 0 ++ replicate 4 0 ++ everyone)
      ≡ at (faults.Overlap Owner Dacl) (Some Dacl) None None 20 15;
}
unfolding computed
shared_rows = search rules
