-- Worked bytes, and the ACEs and ACLs that they show (MS-DTYP 2.4.4, 2.4.5); the limits of lists; the first fault of an
-- ACL (docs/FORMAT.md, "Errors"), and its written form.
use Rattle.std.proofs.Common.{◌≡◌, ◌+◌, ◌%◌, inl, inr, ℕ, true, false, List, [], ◌∷◌, ◌++◌, Option, Some, None, rules}
use Rattle.std.proofs.Common.{drop, length, map, refl, replicate, take, arith}
use Rattle.sd_kinds.specs.Kinds.{kind_code, kind_entry, kind_of}
use Rattle.sd_kinds.specs.declared.kinds.AceKind.TheVariants as kinds
use Rattle.sd_sid.specs.Sid.{BeginsWithSid, sid_at}
use Rattle.sd_sid.proofs.laws.Everyone.{everyone, everyone_is_a_sid, everyone_stands, everyones_bytes}
use Rattle.sd_ace.specs.Ace.{AccessControlEntry, IsAce, guid_size, sid_offset}
use Rattle.sd_ace.proofs.laws.WorkedGuids.{other_class, other_class_bytes, user_class, user_class_bytes}
use Rattle.sd_acl_view.specs.Ace.{ShowsAce, ShowsGuid, announces_inherited, announces_object}
use Rattle.sd_acl_view.specs.Acl.{IsAcl, ShowsAcl}
use Rattle.sd_acl_view.specs.AclChecks.{IsReadableAcl}
use Rattle.sd_acl_view.specs.AclLayout.{acl_bytes}
use Rattle.sd_acl_view.specs.AclReading.{ace_fault, aces_fault, aces_of, acl_fault, acl_of, extent_fault, guid_if}
use Rattle.sd_acl_view.specs.AclReading.{inherited_in, kind_in, object_in, sid_offset_in}
use Rattle.sd_acl_view.specs.Bytes.{u16_at, u32_at}
use Rattle.sd_acl_view.specs.declared.fault.AclFault.TheVariants as faults

-- `unfolding computed` lets `refl` compute a row
computed : Unit {0}
unfolding kind_code kind_entry announces_object announces_inherited u16_at u32_at
computed = tt

-- 1. ACEs.

-- four bytes stand after the SID
plain_bytes : List ℕ
plain_bytes = 1 ∷ 0xdf ∷ 24 ∷ 0 ∷ 0xff ∷ 0x01 ∷ 0x1f ∷ 0x80 ∷ everyones_bytes ++ (0xaa ∷ 0xbb ∷ 0xcc ∷ 0xdd ∷ [])

plain : AccessControlEntry
plain = record { kind = kinds.Deny; flags = 0xdf; mask = 0x801f01ff; object = None; inherited = None; sid = everyone }

plain_is_shown : ShowsAce plain_bytes plain
unfolding computed plain_bytes plain everyones_bytes
plain_is_shown = record {
  kind = refl;
  flags = refl;
  clear = refl;
  size = refl;
  aligned = refl;
  mask = refl;
  object = tt;
  inherited = tt;
  sid = everyone_stands (0xaa ∷ 0xbb ∷ 0xcc ∷ 0xdd ∷ []);
}

typed : Option (List ℕ) → Option (List ℕ) → AccessControlEntry
typed object inherited = record {
  kind = kinds.ObjectAudit;
  flags = 0x40;
  mask = 0x10;
  object = object;
  inherited = inherited;
  sid = everyone;
}

-- size and object flags
typed_front : ℕ → ℕ → List ℕ
typed_front size flags = 7 ∷ 0x40 ∷ size ∷ 0 ∷ 0x10 ∷ 0 ∷ 0 ∷ 0 ∷ flags ∷ 0 ∷ 0 ∷ 0 ∷ []

abbrev typed_bytes : ℕ → ℕ → List ℕ → List ℕ
typed_bytes size flags rest = typed_front size flags ++ rest

-- what is left to show of such bytes
typed_is_shown : (size flags : ℕ) (rest : List ℕ) (object inherited : Option (List ℕ))
    → u16_at 2 (typed_bytes size flags rest) ≡ length (typed_bytes size flags rest)
    → length (typed_bytes size flags rest) % 4 ≡ 0
    → ShowsGuid (announces_object kinds.ObjectAudit (typed_bytes size flags rest))
    (drop 12 (typed_bytes size flags rest)) object
    → ShowsGuid (announces_inherited kinds.ObjectAudit (typed_bytes size flags rest))
    (drop (12 + guid_size object) (typed_bytes size flags rest)) inherited
    → BeginsWithSid (drop (sid_offset kinds.ObjectAudit object inherited) (typed_bytes size flags rest)) everyone
    → ShowsAce (typed_bytes size flags rest) (typed object inherited)
unfolding computed typed_front typed
typed_is_shown size flags rest object inherited long aligned first second sid = record {
  kind = refl;
  flags = refl;
  clear = refl;
  size = long;
  aligned = aligned;
  mask = refl;
  object = first;
  inherited = second;
  sid = sid;
}

-- bit 8 of the object flags means nothing
both_are_shown : ShowsAce (typed_front 56 0xb ++ user_class_bytes ++ other_class_bytes ++ everyones_bytes)
    (typed (Some user_class) (Some other_class))
unfolding computed typed_front user_class_bytes user_class other_class_bytes other_class everyones_bytes
both_are_shown = typed_is_shown 56 0xb _ _ _ refl refl refl refl (everyone_stands [])

inherited_is_shown : ShowsAce (typed_front 40 2 ++ user_class_bytes ++ everyones_bytes) (typed None (Some user_class))
unfolding computed typed_front user_class_bytes user_class everyones_bytes
inherited_is_shown = typed_is_shown 40 2 _ _ _ refl refl tt refl (everyone_stands [])

-- flag 0x20, a size that is no multiple of 4, and a GUID that stands or is missing against its flag

unused_flag : ShowsAce (0 ∷ 0x20 ∷ 20 ∷ 0 ∷ 0 ∷ 0 ∷ 0 ∷ 0 ∷ everyones_bytes) (record plain { flags = 0x20 }) → ⊥
unfolding plain
unused_flag h = let unused = h.clear in cc

odd_size : (a : AccessControlEntry)
    → ShowsAce (0 ∷ 0 ∷ 22 ∷ 0 ∷ 0 ∷ 0 ∷ 0 ∷ 0 ∷ everyones_bytes ++ (0 ∷ 0 ∷ [])) a → ⊥
unfolding everyones_bytes
odd_size a h = let odd = h.aligned in cc

-- the first object flag announces an object type, the second one an inherited one, and neither does in a plain kind

announced : announces_object kinds.ObjectAllow (typed_front 40 1)
    ∷ announces_inherited kinds.ObjectAllow (typed_front 40 1)
    ∷ announces_object kinds.ObjectAllow (typed_front 40 2) ∷ announces_inherited kinds.ObjectAllow (typed_front 40 2)
    ∷ announces_object kinds.Allow (typed_front 40 3) ∷ announces_inherited kinds.Allow (typed_front 40 3) ∷ []
    ≡ true ∷ false ∷ false ∷ true ∷ false ∷ false ∷ []
unfolding computed typed_front
announced = refl

announced_and_missing : ShowsGuid true user_class_bytes None → ⊥
announced_and_missing h = h

not_announced : ShowsGuid false user_class_bytes (Some user_class) → ⊥
not_announced h = h

-- 2. ACLs.

-- revision 2, with spare bytes behind its ACE
one_ace_bytes : List ℕ
one_ace_bytes = 2 ∷ 0x77 ∷ 36 ∷ 0 ∷ 1 ∷ 0 ∷ 0x88 ∷ 0x99 ∷ plain_bytes ++ (1 ∷ 2 ∷ 3 ∷ 4 ∷ [])

one_ace : ShowsAcl one_ace_bytes (plain ∷ [])
unfolding computed one_ace_bytes plain_bytes everyones_bytes
one_ace = record {
  revision = inl refl;
  header = omega arith;
  size = refl;
  count = refl;
  extents = (plain_bytes, (1 ∷ 2 ∷ 3 ∷ 4 ∷ []), refl, plain_is_shown, tt);
}

-- revision 4, and nothing else
no_ace_bytes : List ℕ
no_ace_bytes = 4 ∷ 0 ∷ 8 ∷ 0 ∷ 0 ∷ 0 ∷ 0 ∷ 0 ∷ []

no_ace : ShowsAcl no_ace_bytes []
unfolding computed no_ace_bytes
no_ace = record { revision = inr refl; header = omega arith; size = refl; count = refl; extents = tt }

third_revision : ShowsAcl (3 ∷ 0 ∷ 8 ∷ 0 ∷ 0 ∷ 0 ∷ 0 ∷ 0 ∷ []) [] → ⊥
third_revision h = elim h.revision [ inl two ↦ cc | inr four ↦ cc ]

-- an ACL has 16 bits for its size

empty_acl : IsAcl []
empty_acl = record { each = tt; fits = omega arith }

sized : List ℕ → AccessControlEntry
sized subs = record plain { sid = record { authority = 5; subs = subs } }

-- 8 + 4,094 * 16 + 24 bytes are 65,536
too_large : IsAcl (replicate 4094 (sized []) ++ sized (1 ∷ 2 ∷ []) ∷ []) → ⊥
unfolding sized plain
too_large h = let more = h.fits in omega arith

-- 3. The first fault of an ACL, and its ACEs.

-- `unfolding read` lets `refl` compute what is read of an ACL
read : Unit {0}
unfolding computed kind_of sid_at kind_in guid_if object_in inherited_in sid_offset_in extent_fault ace_fault aces_fault
    aces_of acl_fault
read = tt

-- an ACL without an ACE: its revision, its size, its count
empty_of : ℕ → ℕ → ℕ → List ℕ
empty_of revision size count = revision ∷ 0xee ∷ size ∷ 0 ∷ count ∷ 0 ∷ 0xee ∷ 0xee ∷ []

-- an ACE of a type, flags and a size, with a SID of 12 bytes
ace_of_size : ℕ → ℕ → ℕ → List ℕ
ace_of_size type flags size = type ∷ flags ∷ size ∷ 0 ∷ 1 ∷ 0 ∷ 0 ∷ 0 ∷ everyones_bytes

-- what stands behind the SID, and behind the last ACE, is no part of the list
spare_bytes : (acl_fault one_ace_bytes ≡ None) × (acl_of one_ace_bytes ≡ plain ∷ [])
unfolding read one_ace_bytes plain_bytes everyones_bytes plain everyone
spare_bytes = (refl, refl)

two_bytes_of_four_and_more : record {
  -- a number of 16 bits is not one of 32
  two_bytes_of_four : u16_at 1 (9 ∷ 1 ∷ 2 ∷ 3 ∷ 4 ∷ 5 ∷ []) ∷ u32_at 1 (9 ∷ 1 ∷ 2 ∷ 3 ∷ 4 ∷ 5 ∷ []) ∷ []
      ≡ 0x0201 ∷ 0x04030201 ∷ [];
  -- a revision that is none, a size below the header, one past the end of the bytes, and an ACE that is missing
  wrong_headers : map acl_fault
      (empty_of 1 8 0 ∷ empty_of 3 8 0 ∷ empty_of 5 8 0 ∷ empty_of 2 7 0 ∷ empty_of 2 9 0 ∷ empty_of 4 9 0
      ∷ take 7 (empty_of 2 8 0) ∷ empty_of 2 7 1 ∷ empty_of 2 8 1 ∷ [])
      ≡ Some faults.Acl ∷ Some faults.Acl ∷ Some faults.Acl ∷ Some faults.Acl ∷ Some faults.Acl ∷ Some faults.Acl
      ∷ Some faults.Acl ∷ Some faults.Acl ∷ Some faults.AceSize ∷ [];
  -- a size that has its high byte passes the end; bytes behind the ACL are not its own
  sizes_of_two_bytes : map acl_fault
      ((2 ∷ 0 ∷ 8 ∷ 1 ∷ 0 ∷ 0 ∷ 0 ∷ 0 ∷ []) ∷ (2 ∷ 0 ∷ 8 ∷ 0 ∷ 0 ∷ 1 ∷ 0 ∷ 0 ∷ []) ∷ empty_of 2 8 0 ∷ empty_of 4 8 0
      ∷ (empty_of 2 8 0 ++ (7 ∷ [])) ∷ (empty_of 2 8 1 ++ plain_bytes) ∷ [])
      ≡ Some faults.Acl ∷ Some faults.AceSize ∷ None ∷ None ∷ None ∷ Some faults.AceSize ∷ [];
  -- 11: fewer than 16 bytes; a size below 16, over what is left, or no multiple of 4
  wrong_sizes : map ace_fault
      (take 15 (ace_of_size 0 0 16) ∷ ace_of_size 0 0 12 ∷ ace_of_size 0 0 24 ∷ ace_of_size 0 0 18
      ∷ ace_of_size 0 0 20 ∷ (ace_of_size 0 0 20 ++ (7 ∷ [])) ∷ [])
      ≡ Some faults.AceSize ∷ Some faults.AceSize ∷ Some faults.AceSize ∷ Some faults.AceSize ∷ None ∷ None ∷ [];
  -- Of an ACE 11 for its size comes first, and then 12, 13, 11 for its object fields, and 9.
  order_of_faults : map ace_fault
      (ace_of_size 4 0x20 18 ∷ ace_of_size 4 0x20 20 ∷ ace_of_size 5 0x20 16 ∷ ace_of_size 5 0 16
      ∷ ace_of_size 0 0 16 ∷ [])
      ≡ Some faults.AceSize ∷ Some faults.AceType ∷ Some faults.AceFlags ∷ Some faults.AceSize ∷ Some faults.Sid ∷ [];
  -- the smallest ACE, whose SID has no number
  smallest : ace_fault (0 ∷ 0 ∷ 16 ∷ 0 ∷ 1 ∷ 0 ∷ 0 ∷ 0 ∷ 1 ∷ 0 ∷ 0 ∷ 0 ∷ 0 ∷ 0 ∷ 0 ∷ 5 ∷ []) ≡ None;
  -- a size that is too small or passes the end comes before an unknown type too
  size_first : map ace_fault (ace_of_size 4 0 12 ∷ ace_of_size 4 0 24 ∷ ace_of_size 4 0 20 ∷ [])
      ≡ Some faults.AceSize ∷ Some faults.AceSize ∷ Some faults.AceType ∷ [];
  -- of the flags 0x20 alone is wrong, also beside another one
  each_flag : map (λ flags. ace_fault (ace_of_size 0 flags 20))
      (1 ∷ 2 ∷ 4 ∷ 8 ∷ 0x10 ∷ 0x20 ∷ 0x40 ∷ 0x80 ∷ 0x60 ∷ 0xa0 ∷ [])
      ≡ None ∷ None ∷ None ∷ None ∷ None ∷ Some faults.AceFlags ∷ None ∷ None ∷ Some faults.AceFlags
      ∷ Some faults.AceFlags ∷ [];
  -- Each announced GUID takes 16 bytes before the SID. Here they leave 8 bytes of a SID, which has more, or fewer.
  guids_take_room : map ace_fault
      ((typed_front 36 1 ++ user_class_bytes ++ take 8 everyones_bytes)
      ∷ (typed_front 32 2 ++ user_class_bytes ++ take 4 everyones_bytes)
      ∷ (typed_front 52 3 ++ user_class_bytes ++ other_class_bytes ++ take 8 everyones_bytes)
      ∷ (typed_front 40 3 ++ user_class_bytes ++ everyones_bytes)
      ∷ (typed_front 40 1 ++ user_class_bytes ++ everyones_bytes)
      ∷ (typed_front 24 0 ++ everyones_bytes) ∷ [])
      ≡ Some faults.Sid ∷ Some faults.AceSize ∷ Some faults.Sid ∷ Some faults.AceSize ∷ None ∷ None ∷ [];
  -- an ACE is as long as its size says, also before a mask of zeros
  empty_mask : acl_of (2 ∷ 0 ∷ 28 ∷ 0 ∷ 1 ∷ 0 ∷ 0 ∷ 0 ∷ 1 ∷ 0xdf ∷ 20 ∷ 0 ∷ 0 ∷ 0 ∷ 0 ∷ 0 ∷ everyones_bytes)
      ≡ record plain { mask = 0 } ∷ [];
}
unfolding computed read empty_of plain_bytes everyones_bytes ace_of_size typed_front user_class_bytes other_class_bytes
    plain everyone
two_bytes_of_four_and_more = search rules

-- what a reader of an ACL needs of its extent: the header alone, one with spare bytes, and no more than a size can say

empty_is_readable : IsReadableAcl (empty_of 2 8 0)
unfolding read empty_of
empty_is_readable = record {
  room = omega arith;
  small = omega arith;
  size = refl;
  sound = refl;
  limits = record { each = tt; fits = omega arith };
}

plain_is_an_ace : IsAce plain
unfolding plain
plain_is_an_ace = record {
  flags = omega arith;
  clear = refl;
  mask = omega arith;
  fit = tt;
  object = tt;
  inherited = tt;
  sid = everyone_is_a_sid;
}

spare_bytes_are_readable : IsReadableAcl one_ace_bytes
unfolding read one_ace_bytes plain_bytes everyones_bytes plain everyone
spare_bytes_are_readable = record {
  room = omega arith;
  small = omega arith;
  size = refl;
  sound = refl;
  limits = record { each = (plain_is_an_ace, tt); fits = omega arith };
}

larger_is_not_readable : (extent : List ℕ) → length extent ≡ 65536 → IsReadableAcl extent → ⊥
larger_is_not_readable extent n h = let small = h.small in omega arith

-- two ACEs, the second with both GUIDs; a fault of the second is found behind a first one with spare bytes
two_aces : List ℕ → List ℕ
two_aces second = 4 ∷ 0 ∷ 88 ∷ 0 ∷ 2 ∷ 0 ∷ 0 ∷ 0 ∷ plain_bytes ++ second

both_types : List ℕ
both_types = typed_front 56 3 ++ user_class_bytes ++ other_class_bytes ++ everyones_bytes

two_are_read_and_more : record {
  two_are_read : acl_of (two_aces both_types) ≡ plain ∷ typed (Some user_class) (Some other_class) ∷ [];
  second_is_faulty : acl_fault (two_aces both_types) ∷ acl_fault (two_aces (4 ∷ both_types)) ∷ []
      ≡ None ∷ Some faults.AceSize ∷ [];
}
unfolding read two_aces both_types plain_bytes typed_front typed user_class_bytes user_class other_class_bytes
    other_class everyones_bytes plain everyone
two_are_read_and_more = search rules

-- 4. The one written form: revision, size, count, and the ACEs without what was spare; 0 where bytes mean nothing.

written_plain : List ℕ
written_plain = 1 ∷ 0xdf ∷ 20 ∷ 0 ∷ 0xff ∷ 0x01 ∷ 0x1f ∷ 0x80 ∷ everyones_bytes

revision_2 : (acl_bytes [] ≡ 2 ∷ 0 ∷ 8 ∷ 0 ∷ 0 ∷ 0 ∷ 0 ∷ 0 ∷ [])
    × (acl_bytes (plain ∷ []) ≡ 2 ∷ 0 ∷ 28 ∷ 0 ∷ 1 ∷ 0 ∷ 0 ∷ 0 ∷ written_plain)
unfolding computed written_plain plain everyone everyones_bytes
revision_2 = (refl, refl)

-- an object ACE anywhere in the list, also one without a GUID
revision_4 : (acl_bytes (plain ∷ typed (Some user_class) (Some other_class) ∷ [])
    ≡ (4 ∷ 0 ∷ 84 ∷ 0 ∷ 2 ∷ 0 ∷ 0 ∷ 0 ∷ []) ++ written_plain ++ both_types)
    × (acl_bytes (typed None None ∷ plain ∷ [])
    ≡ (4 ∷ 0 ∷ 52 ∷ 0 ∷ 2 ∷ 0 ∷ 0 ∷ 0 ∷ []) ++ typed_front 24 0 ++ everyones_bytes ++ written_plain)
unfolding computed written_plain both_types plain typed typed_front user_class_bytes user_class other_class_bytes
    other_class everyone everyones_bytes
revision_4 = (refl, refl)
