-- Worked bytes, and the descriptors that they show (MS-DTYP 2.4.6); the limits of descriptors; the first fault of some
-- bytes (docs/FORMAT.md, "Errors"), and the written form.
use Rattle.std.proofs.Common.{◌≡◌, ◌<◌, ◌^◌, inl, inr, ℕ, true, false, List, [], ◌∷◌, ◌++◌, Some, None, map, rules}
use Rattle.std.proofs.Common.{Ok, Err, drop, refl, replicate, take, arith}
use Rattle.sd_sid.specs.Sid.{SecurityId, sid_at}
use Rattle.sd_sid.proofs.laws.Everyone.{everyone, everyone_stands, everyones_bytes}
use Rattle.sd_ace.specs.Ace.{AccessControlEntry}
use Rattle.sd_parts.specs.Control.{dacl_present, sacl_present, self_relative}
use Rattle.sd_parts.specs.Header.{header_bytes}
use Rattle.sd_parts.specs.Parts.{each_part}
use Rattle.sd_parts.specs.declared.part.Part.TheVariants.{Dacl, Group, Owner, Sacl}
use Rattle.sd_parts.specs.declared.part.Parts.{Parts}
use Rattle.sd_acl_view.specs.Acl.{ShowsAcl}
use Rattle.sd_acl_view.specs.AclLayout.{acl_bytes}
use Rattle.sd_acl_view.specs.AclReading.{aces_fault, aces_of, acl_fault}
use Rattle.sd_acl_view.specs.Bytes.{u16_at, u32_at}
use Rattle.sd_view.specs.Descriptor.{Apart, AreApart, Descriptor, Extent, IsAclPart, IsDescriptor, Shows, ShowsAclPart}
use Rattle.sd_view.specs.Descriptor.{ShowsSid, acl_extent, control_at, dacl_at, extents_of, group_at, owner_at, sacl_at}
use Rattle.sd_view.specs.Layout.{acl_part, layout, offsets, parts_bytes, size}
use Rattle.sd_view.specs.Reading.{acl_part_fault, acl_shown, fault, fault_in, header_fault, overlap_fault}
use Rattle.sd_view.specs.Reading.{overlaps_fault, parts_fault, reading, sid_fault, sid_shown}
use Rattle.sd_view.proofs.laws.ApartLaws.{six-apart}
use Rattle.sd_view.specs.WrittenForm.{AclIsWritten, IsWritten}
use Rattle.sd_acl_view.specs.declared.fault.AclFault.TheVariants as lists
use Rattle.sd_view.specs.declared.acl_part.AclPart.{AclPart}
use Rattle.sd_view.specs.declared.acl_part.AclPart.TheVariants as acl
use Rattle.sd_view.specs.declared.fault.SdFault.TheVariants as faults

-- `unfolding computed` lets `refl` compute a row
computed : Unit {0}
unfolding u16_at u32_at
computed = tt

-- an ACL of revision 4 without an ACE
no_ace_bytes : List ℕ
no_ace_bytes = 4 ∷ 0 ∷ 8 ∷ 0 ∷ 0 ∷ 0 ∷ 0 ∷ 0 ∷ []

no_ace : ShowsAcl no_ace_bytes []
unfolding computed no_ace_bytes
no_ace = record { revision = inr refl; header = omega arith; size = refl; count = refl; extents = tt }

-- 1. Descriptors.

-- an owner, and a DACL right behind it; what follows is free, and so is the offset of a SACL that is absent
owned_bytes : List ℕ
owned_bytes =
    1 ∷ 0xff ∷ 0x04 ∷ 0x80 ∷ 20 ∷ 0 ∷ 0 ∷ 0 ∷ 0 ∷ 0 ∷ 0 ∷ 0 ∷ 21 ∷ 0 ∷ 0 ∷ 0 ∷ 32 ∷ 0 ∷ 0 ∷ 0 ∷ everyones_bytes
    ++ no_ace_bytes ++ (0xee ∷ [])

owned : Descriptor
owned = record {
  control = 0x8004;
  rm = 0xff;
  owner = Some everyone;
  group = None;
  sacl = acl.Absent;
  dacl = acl.List [];
}

owned_is_shown : Shows owned_bytes owned
unfolding computed owned_bytes owned everyones_bytes no_ace_bytes everyone
owned_is_shown = record {
  header = omega arith;
  revision = refl;
  rm = refl;
  control = refl;
  relative = refl;
  owner = (omega arith, everyone_stands (no_ace_bytes ++ (0xee ∷ [])));
  group = refl;
  sacl = refl;
  dacl = (refl, omega arith, (no_ace_bytes, (0xee ∷ []), refl, no_ace));
  apart = six-apart _ tt tt (inl (omega arith)) tt tt tt;
}

-- a SACL right behind the header, and a null DACL
audited_bytes : List ℕ
audited_bytes =
    1 ∷ 0 ∷ 0x14 ∷ 0x80 ∷ 0 ∷ 0 ∷ 0 ∷ 0 ∷ 0 ∷ 0 ∷ 0 ∷ 0 ∷ 20 ∷ 0 ∷ 0 ∷ 0 ∷ 0 ∷ 0 ∷ 0 ∷ 0 ∷ no_ace_bytes

audited : Descriptor
audited = record { control = 0x8014; rm = 0; owner = None; group = None; sacl = acl.List []; dacl = acl.Null }

audited_is_shown : Shows audited_bytes audited
unfolding computed audited_bytes audited no_ace_bytes
audited_is_shown = record {
  header = omega arith;
  revision = refl;
  rm = refl;
  control = refl;
  relative = refl;
  owner = refl;
  group = refl;
  sacl = (refl, omega arith, (no_ace_bytes, [], refl, no_ace));
  dacl = (refl, refl);
  apart = six-apart _ tt tt tt tt tt tt;
}

-- the header alone, whose 20 bytes are enough
bare : Descriptor
bare = record { control = 0x8000; rm = 0; owner = None; group = None; sacl = acl.Absent; dacl = acl.Absent }

bare_bytes : List ℕ
bare_bytes = 1 ∷ 0 ∷ 0 ∷ 0x80 ∷ replicate 16 0

bare_is_shown : Shows bare_bytes bare
unfolding computed bare_bytes bare
bare_is_shown = record {
  header = omega arith;
  revision = refl;
  rm = refl;
  control = refl;
  relative = refl;
  owner = refl;
  group = refl;
  sacl = refl;
  dacl = refl;
  apart = six-apart _ tt tt tt tt tt tt;
}

-- a part is not where the header is, and an absent or a null ACL is not against its bit

owner_in_the_header : ShowsSid [] 19 (Some everyone) → ⊥
owner_in_the_header h = let low = h.0 in omega arith

acl_in_the_header : ShowsAclPart [] true 19 (acl.List []) → ⊥
acl_in_the_header h = let low = h.1 in omega arith

null_without_its_bit : ShowsAclPart [] false 0 acl.Null → ⊥
null_without_its_bit h = let present = h.0 in cc

absent_with_its_bit : ShowsAclPart [] true 0 acl.Absent → ⊥
absent_with_its_bit h = cc

list_without_its_bit : ShowsAclPart [] false 20 (acl.List []) → ⊥
list_without_its_bit h = let present = h.0 in cc

-- a byte that two parts share, and none

meeting : Parts Extent
meeting = record (each_part None) { owner = Some (20, 32); sacl = Some (31, 40) }

meeting_are_not_apart : AreApart meeting → ⊥
unfolding meeting
meeting_are_not_apart h = elim (h Owner Sacl refl) [ inl before ↦ omega arith | inr after ↦ omega arith ]

-- the limits: a control word of 16 bits with SR, a resource manager byte, and the present bits of the ACLs

full : Descriptor
full = record { control = 0xffff; rm = 0xff; owner = None; group = None; sacl = acl.Null; dacl = acl.List [] }

without_sids : (control rm : ℕ) (sacl dacl : AclPart) → control < 2 ^ 16 → self_relative control ≡ true → rm < 256
    → IsAclPart (sacl_present control) sacl → IsAclPart (dacl_present control) dacl
    → IsDescriptor (record { control = control; rm = rm; owner = None; group = None; sacl = sacl; dacl = dacl })
without_sids control rm sacl dacl small relative byte s d = record {
  control = small;
  relative = relative;
  rm = byte;
  owner = tt;
  group = tt;
  sacl = s;
  dacl = d;
}

full_is_a_descriptor : IsDescriptor full
unfolding full
full_is_a_descriptor =
    without_sids 0xffff 0xff _ _ (omega arith) refl (omega arith) refl
    (refl, record { each = tt; fits = omega arith })

bare_is_a_descriptor : IsDescriptor bare
unfolding bare
bare_is_a_descriptor = without_sids 0x8000 0 _ _ (omega arith) refl (omega arith) refl refl

larger_control : IsDescriptor (record full { control = 0x1_0000 }) → ⊥
unfolding full
larger_control h = let more = h.control in omega arith

larger_rm : IsDescriptor (record full { rm = 0x100 }) → ⊥
unfolding full
larger_rm h = let more = h.rm in omega arith

-- the present bit of each ACL by itself

dacl_is_null : IsDescriptor (record bare { control = 0x8004; dacl = acl.Null })
unfolding bare
dacl_is_null = without_sids 0x8004 0 _ _ (omega arith) refl (omega arith) refl refl

sacl_is_null : IsDescriptor (record bare { control = 0x8010; sacl = acl.Null })
unfolding bare
sacl_is_null = without_sids 0x8010 0 _ _ (omega arith) refl (omega arith) refl refl

-- a SID with one number too many

sixteen : SecurityId
sixteen = record { authority = 5; subs = replicate 16 0 }

no_owner : IsDescriptor (record bare { owner = Some sixteen }) → ⊥
unfolding bare sixteen
no_owner h = let more = h.owner.count in omega arith

no_group : IsDescriptor (record bare { group = Some sixteen }) → ⊥
unfolding bare sixteen
no_group h = let more = h.group.count in omega arith

-- 2. The written form: without a gap, and no offset for what has no bytes.

written_bytes : List ℕ
written_bytes =
    1 ∷ 0xff ∷ 0x04 ∷ 0x80 ∷ 20 ∷ 0 ∷ 0 ∷ 0 ∷ 0 ∷ 0 ∷ 0 ∷ 0 ∷ 0 ∷ 0 ∷ 0 ∷ 0 ∷ 32 ∷ 0 ∷ 0 ∷ 0 ∷ everyones_bytes
    ++ (2 ∷ 0 ∷ 8 ∷ 0 ∷ 0 ∷ 0 ∷ 0 ∷ 0 ∷ [])

written : IsWritten written_bytes owned
unfolding computed written_bytes owned everyones_bytes everyone
written = record { size = refl; sacl = refl; dacl = ([], refl) }

null_elsewhere : AclIsWritten [] 20 acl.Null → ⊥
null_elsewhere h = cc

absent_elsewhere : AclIsWritten [] 20 acl.Absent → ⊥
absent_elsewhere h = cc

-- an ACL of revision 4 without an object ACE is not in its written form, wherever it stands
other_revision : AclIsWritten no_ace_bytes 0 (acl.List []) → ⊥
unfolding no_ace_bytes
other_revision h = let same = h.1 in cc

-- all of an ACL's bytes stand, not its header alone
written_acl : (bytes : List ℕ) (offset : ℕ) (aces : List AccessControlEntry) → AclIsWritten bytes offset (acl.List aces)
    → (rest : List ℕ) × (drop offset bytes ≡ acl_bytes aces ++ rest)
written_acl bytes offset aces h = h

-- S-1-5-32-544, whose 16 bytes are no other part's
administrators : SecurityId
administrators = record { authority = 5; subs = 32 ∷ 544 ∷ [] }

administrators_bytes : List ℕ
administrators_bytes = 1 ∷ 2 ∷ 0 ∷ 0 ∷ 0 ∷ 0 ∷ 0 ∷ 5 ∷ 32 ∷ 0 ∷ 0 ∷ 0 ∷ 32 ∷ 2 ∷ 0 ∷ 0 ∷ []

whole : Descriptor
whole = record {
  control = 0x8014;
  rm = 7;
  owner = Some administrators;
  group = Some everyone;
  sacl = acl.List [];
  dacl = acl.List [];
}

-- all four parts: the owner, the group, the SACL and the DACL
whole_bytes : List ℕ
whole_bytes =
    (1 ∷ 7 ∷ 0x14 ∷ 0x80 ∷ 20 ∷ 0 ∷ 0 ∷ 0 ∷ 36 ∷ 0 ∷ 0 ∷ 0 ∷ 48 ∷ 0 ∷ 0 ∷ 0 ∷ 56 ∷ 0 ∷ 0 ∷ 0 ∷ [])
    ++ administrators_bytes ++ everyones_bytes ++ (2 ∷ 0 ∷ 8 ∷ 0 ∷ 0 ∷ 0 ∷ 0 ∷ 0 ∷ 2 ∷ 0 ∷ 8 ∷ 0 ∷ 0 ∷ 0 ∷ 0 ∷ 0 ∷ [])

-- `unfolding written_parts` lets `refl` compute the written form of `whole`
written_parts : Unit {0}
unfolding computed header_bytes everyone everyones_bytes administrators administrators_bytes whole whole_bytes
written_parts = tt

whole_places : (offsets whole ≡ record { owner = 20; group = 36; sacl = 48; dacl = 56 }) × (size whole ≡ 64)
unfolding written_parts
whole_places = (refl, refl)

whole_is_written : IsWritten whole_bytes whole
unfolding written_parts
whole_is_written = record { size = refl; sacl = (2 ∷ 0 ∷ 8 ∷ 0 ∷ 0 ∷ 0 ∷ 0 ∷ 0 ∷ [], refl); dacl = ([], refl) }

-- the parts stand in this order, an ACL with all of its bytes
order_of_the_layout : (sacl dacl : AclPart) (aces : List AccessControlEntry)
    → (parts_bytes (record whole { sacl = sacl; dacl = dacl })
    ≡ administrators_bytes ++ (everyones_bytes ++ (acl_part sacl ++ acl_part dacl)))
    × (acl_part (acl.List aces) ≡ acl_bytes aces) × (acl_part acl.Null ≡ []) × (acl_part acl.Absent ≡ [])
unfolding written_parts
order_of_the_layout sacl dacl aces = (refl, refl, refl, refl)

null_is_written_and_more : record {
  null_is_written : AclIsWritten [] 0 acl.Null;
  whole_layout : layout whole ≡ whole_bytes;
}
unfolding written_parts
null_is_written_and_more = search rules

-- what is not there takes no room, and its offset is 0

without_group : (offsets (record whole { group = None }) ≡ record { owner = 20; group = 0; sacl = 36; dacl = 44 })
    × (size (record whole { group = None }) ≡ 52)
unfolding written_parts
without_group = (refl, refl)

without_owner_and_sacl :
    (offsets (record whole { owner = None; sacl = acl.Null }) ≡ record { owner = 0; group = 20; sacl = 0; dacl = 32 })
    × (size (record whole { owner = None; sacl = acl.Null }) ≡ 40)
unfolding written_parts
without_owner_and_sacl = (refl, refl)

without_dacl : (offsets (record whole { dacl = acl.Absent }) ≡ record { owner = 20; group = 36; sacl = 48; dacl = 0 })
    × (size (record whole { dacl = acl.Absent }) ≡ 56)
unfolding written_parts
without_dacl = (refl, refl)

-- 3. Places that the header names, and extents.

-- the control word has 16 bits, and each offset 32
named_places : List ℕ
named_places = 1 ∷ 0 ∷ 0x34 ∷ 0x92 ∷ 1 ∷ 2 ∷ 3 ∷ 4 ∷ 5 ∷ 6 ∷ 7 ∷ 8 ∷ 9 ∷ 10 ∷ 11 ∷ 12 ∷ 13 ∷ 14 ∷ 15 ∷ 16 ∷ []

-- parts that meet share no byte, whichever comes first, and no part of a part that is not there is shared
meet : Apart (Some (20, 32)) (Some (32, 40)) × Apart (Some (32, 40)) (Some (20, 32)) × Apart (Some (20, 32)) None
    × Apart None (Some (20, 32))
meet = (inl (omega arith), inr (omega arith), tt, tt)

-- An ACL ends where its size of 16 bits says, whatever its ACEs need, so its spare bytes count. A null ACL has no
-- extent.
extents_of_acls : (aces : List AccessControlEntry)
    → (acl_extent (9 ∷ 9 ∷ 9 ∷ 2 ∷ 0 ∷ 32 ∷ 1 ∷ 1 ∷ 0 ∷ []) 3 (acl.List aces) ≡ Some (3, 291))
    × (acl_extent no_ace_bytes 0 acl.Null ≡ None) × (acl_extent no_ace_bytes 0 acl.Absent ≡ None)
unfolding computed
extents_of_acls aces = (refl, refl, refl)

fields_of_the_header_and_more : record {
  fields_of_the_header : control_at named_places ∷ owner_at named_places ∷ group_at named_places ∷ sacl_at named_places
      ∷ dacl_at named_places ∷ [] ≡ 0x9234 ∷ 0x04030201 ∷ 0x08070605 ∷ 0x0c0b0a09 ∷ 0x100f0e0d ∷ [];
  extents_of_the_whole : extents_of whole_bytes whole
      ≡ record { owner = Some (20, 36); group = Some (36, 48); sacl = Some (48, 56); dacl = Some (56, 64) };
}
unfolding computed named_places written_parts
fields_of_the_header_and_more = search rules

-- 4. The first fault.

-- `unfolding read` lets `refl` compute what is read of some bytes
read : Unit {0}
unfolding computed sid_at aces_fault aces_of acl_fault header_fault sid_fault acl_part_fault parts_fault overlap_fault
    overlaps_fault sid_shown acl_shown fault reading
read = tt

whole_is_read_and_more : record {
  whole_is_read : reading whole_bytes ≡ Ok whole;
  -- each ACL under its own bit and at its own offset
  others_are_read : reading owned_bytes ∷ reading audited_bytes ∷ reading bare_bytes ∷ []
      ≡ Ok owned ∷ Ok audited ∷ Ok bare ∷ [];
  acls_are_shown : acl_shown no_ace_bytes false 0 ∷ acl_shown (9 ∷ no_ace_bytes) false 1 ∷ acl_shown no_ace_bytes true 0
      ∷ acl_shown (9 ∷ no_ace_bytes) true 1 ∷ [] ≡ acl.Absent ∷ acl.Absent ∷ acl.Null ∷ acl.List [] ∷ [];
  -- 10, 11, 12, 13 and 9 of an ACL are those of its part
  faults_of_an_acl : map (fault_in Sacl)
      (lists.Acl ∷ lists.AceSize ∷ lists.AceType ∷ lists.AceFlags ∷ lists.Sid ∷ [])
      ≡ faults.Acl Sacl ∷ faults.AceSize Sacl ∷ faults.AceType Sacl ∷ faults.AceFlags Sacl ∷ faults.Sid Sacl ∷ [];
  -- 5, 6 and 7, of which 5 comes first
  header_faults : map fault
      (take 19 (0 ∷ 0 ∷ bare_bytes) ∷ (0 ∷ 0 ∷ 0 ∷ 0 ∷ replicate 16 0) ∷ (2 ∷ 0 ∷ 0 ∷ 0x80 ∷ replicate 16 0)
      ∷ (1 ∷ 0 ∷ 0xff ∷ 0x7f ∷ replicate 16 0) ∷ bare_bytes ∷ [])
      ≡ Some faults.Short ∷ Some faults.Revision ∷ Some faults.Revision ∷ Some faults.NotSelfRelative ∷ None ∷ [];
}
unfolding read written_parts owned_bytes owned audited_bytes audited bare_bytes bare everyones_bytes everyone
    no_ace_bytes
whole_is_read_and_more = search rules

-- 8 and 9 of a SID: an offset in the header, one with fewer than 8 bytes behind it, no SID there, and a SID that is cut

behind_a_header : List ℕ → List ℕ
behind_a_header bytes = replicate 20 0 ++ bytes

-- The parts are looked at in the order owner, group, SACL, DACL, before any two of them. Offset 1 is in the header.
at_1 : ℕ → ℕ → ℕ → ℕ → List ℕ
at_1 owner group sacl dacl =
    1 ∷ 0 ∷ 0x14 ∷ 0x80 ∷ owner ∷ 0 ∷ 0 ∷ 0 ∷ group ∷ 0 ∷ 0 ∷ 0 ∷ sacl ∷ 0 ∷ 0 ∷ 0 ∷ dacl ∷ 0 ∷ 0 ∷ 0 ∷ everyones_bytes

-- an ACL is looked at under its own bit alone
with_acls : ℕ → ℕ → ℕ → List ℕ
with_acls bits sacl dacl =
    1 ∷ 0 ∷ bits ∷ 0x80 ∷ 0 ∷ 0 ∷ 0 ∷ 0 ∷ 0 ∷ 0 ∷ 0 ∷ 0 ∷ sacl ∷ 0 ∷ 0 ∷ 0 ∷ dacl ∷ 0 ∷ 0 ∷ 0 ∷ []

sid_faults_and_more : record {
  sid_faults : map (λ at. sid_fault Group (behind_a_header everyones_bytes) at) (0 ∷ 1 ∷ 19 ∷ 20 ∷ 24 ∷ 25 ∷ 0x10014
      ∷ [])
      ≡ None ∷ Some (faults.Offset Group) ∷ Some (faults.Offset Group) ∷ None ∷ Some (faults.Sid Group)
      ∷ Some (faults.Offset Group) ∷ Some (faults.Offset Group) ∷ [];
  cut_sids : map (λ cut. sid_fault Owner (behind_a_header (take cut everyones_bytes)) 20) (7 ∷ 8 ∷ 11 ∷ 12 ∷ [])
      ≡ Some (faults.Offset Owner) ∷ Some (faults.Sid Owner) ∷ Some (faults.Sid Owner) ∷ None ∷ [];
  -- 8 and 10 of an ACL: the same, an ACL that is absent wherever its offset leads, and one that passes the end
  acl_faults : map (λ at. acl_part_fault Dacl (behind_a_header no_ace_bytes) true at)
      (0 ∷ 1 ∷ 19 ∷ 20 ∷ 21 ∷ 0x10014 ∷ [])
      ≡ None ∷ Some (faults.Offset Dacl) ∷ Some (faults.Offset Dacl) ∷ None ∷ Some (faults.Offset Dacl)
      ∷ Some (faults.Offset Dacl) ∷ [];
  absent_acl : map (λ at. acl_part_fault Sacl (behind_a_header no_ace_bytes) false at) (0 ∷ 1 ∷ 21 ∷ [])
      ≡ None ∷ None ∷ None ∷ [];
  past_the_end : acl_part_fault Sacl (behind_a_header (2 ∷ 0 ∷ 9 ∷ 0 ∷ 0 ∷ 0 ∷ 0 ∷ 0 ∷ [])) true 20
      ≡ Some (faults.Acl Sacl);
  order_of_parts : map fault (at_1 1 1 1 1 ∷ at_1 20 1 1 1 ∷ at_1 20 20 1 1 ∷ at_1 20 20 0 1 ∷ at_1 20 20 0 0 ∷ [])
      ≡ Some (faults.Offset Owner) ∷ Some (faults.Offset Group) ∷ Some (faults.Offset Sacl) ∷ Some (faults.Offset Dacl)
      ∷ Some (faults.Overlap Owner Group) ∷ [];
  present_acls : map fault
      (with_acls 0x10 1 0 ∷ with_acls 0x04 1 0 ∷ with_acls 0x04 0 1 ∷ with_acls 0x10 0 1 ∷ with_acls 0 1 1
      ∷ with_acls 0x14 1 1 ∷ [])
      ≡ Some (faults.Offset Sacl) ∷ None ∷ Some (faults.Offset Dacl) ∷ None ∷ None ∷ Some (faults.Offset Sacl) ∷ [];
}
unfolding read behind_a_header everyones_bytes no_ace_bytes at_1 with_acls
sid_faults_and_more = search rules

-- 14: a part takes the bytes from its first on and before its last; parts that meet share none

shared : List Extent → List (Parts Extent)
shared others = map (λ other. record (each_part None) { group = Some (30, 40); dacl = other }) others

-- the first pair in the order of docs/FORMAT.md, where each part is in all others or in none
parts_at_20 : Extent → Extent → Extent → Extent → Parts Extent
parts_at_20 owner group sacl dacl = record { owner = owner; group = group; sacl = sacl; dacl = dacl }

here : Extent
here = Some (20, 32)

-- the group stands in the spare bytes of the DACL, of which its ACE needs none
in_spare_bytes : List ℕ
in_spare_bytes =
    (1 ∷ 0 ∷ 4 ∷ 0x80 ∷ 0 ∷ 0 ∷ 0 ∷ 0 ∷ 28 ∷ 0 ∷ 0 ∷ 0 ∷ 0 ∷ 0 ∷ 0 ∷ 0 ∷ 20 ∷ 0 ∷ 0 ∷ 0 ∷ [])
    ++ (2 ∷ 0 ∷ 20 ∷ 0 ∷ 0 ∷ 0 ∷ 0 ∷ 0 ∷ []) ++ everyones_bytes

sharing_and_more : record {
  sharing : map (overlap_fault Group Dacl)
      (shared (Some (20, 30) ∷ Some (20, 31) ∷ Some (39, 50) ∷ Some (40, 50) ∷ Some (32, 33) ∷ Some (20, 50) ∷ None
      ∷ []))
      ≡ None ∷ Some (faults.Overlap Group Dacl) ∷ Some (faults.Overlap Group Dacl) ∷ None
      ∷ Some (faults.Overlap Group Dacl) ∷ Some (faults.Overlap Group Dacl) ∷ None ∷ [];
  order_of_pairs : map overlaps_fault
      (parts_at_20 here here here here ∷ parts_at_20 here None here here ∷ parts_at_20 here None None here
      ∷ parts_at_20 None here here here ∷ parts_at_20 None here None here ∷ parts_at_20 None None here here
      ∷ parts_at_20 None None None here ∷ [])
      ≡ Some (faults.Overlap Owner Group) ∷ Some (faults.Overlap Owner Sacl) ∷ Some (faults.Overlap Owner Dacl)
      ∷ Some (faults.Overlap Group Sacl) ∷ Some (faults.Overlap Group Dacl) ∷ Some (faults.Overlap Sacl Dacl) ∷ None
      ∷ [];
  group_in_the_dacl : reading in_spare_bytes ≡ Err (faults.Overlap Group Dacl);
}
unfolding read shared parts_at_20 here in_spare_bytes everyones_bytes
sharing_and_more = search rules
