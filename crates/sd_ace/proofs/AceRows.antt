-- Worked ACEs (MS-DTYP 2.4.4): their sizes, their bytes and their limits.
use Rattle.std.proofs.Common.{◌≡◌, ◌<◌, ◌/◌, ◌%◌, ◌^◌, ℕ, true, false, List, [], ◌∷◌, ◌++◌, rules}
use Rattle.std.proofs.Common.{map, Option, Some, None, refl, replicate, arith}
use Rattle.sd_kinds.specs.Kinds.{kind_code, kind_entry}
use Rattle.sd_kinds.specs.declared.kinds.AceKind.{AceKind}
use Rattle.sd_kinds.specs.declared.kinds.AceKind.TheVariants as kinds
use Rattle.sd_sid.specs.Sid.{IsSid}
use Rattle.sd_sid.proofs.laws.Everyone.{everyone, everyones_bytes}
use Rattle.sd_ace.specs.Ace.{AccessControlEntry, GuidsFit, IsAce, IsGuid, ace_size}
use Rattle.sd_ace.specs.AceLayout.{ace_bytes, front_size}
use Rattle.sd_ace.proofs.laws.WorkedGuids.{other_class, other_class_bytes, user_class, user_class_bytes}

-- `unfolding computed` lets `refl` compute a row
computed : Unit {0}
unfolding kind_code kind_entry
computed = tt

ace : AceKind → Option (List ℕ) → Option (List ℕ) → AccessControlEntry
ace kind object inherited =
    record { kind = kind; flags = 0xd3; mask = 0x01020304; object = object; inherited = inherited; sid = everyone }

-- type, flags, size, mask and SID
plain_bytes : ace_bytes (ace kinds.Audit None None) ≡ 2 ∷ 0xd3 ∷ 20 ∷ 0 ∷ 4 ∷ 3 ∷ 2 ∷ 1 ∷ everyones_bytes
unfolding computed ace everyone everyones_bytes
plain_bytes = refl

-- object flags 0, 1, 2 and 3, and the GUIDs that they announce

object_flags_and_more : record {
  object_bytes : ace_bytes (ace kinds.ObjectAllow None None)
      ≡ 5 ∷ 0xd3 ∷ 24 ∷ 0 ∷ 4 ∷ 3 ∷ 2 ∷ 1 ∷ 0 ∷ 0 ∷ 0 ∷ 0 ∷ everyones_bytes;
  bytes_with_object : ace_bytes (ace kinds.ObjectDeny (Some user_class) None)
      ≡ 6 ∷ 0xd3 ∷ 40 ∷ 0 ∷ 4 ∷ 3 ∷ 2 ∷ 1 ∷ 1 ∷ 0 ∷ 0 ∷ 0 ∷ user_class_bytes ++ everyones_bytes;
  bytes_with_inherited : ace_bytes (ace kinds.ObjectAudit None (Some user_class))
      ≡ 7 ∷ 0xd3 ∷ 40 ∷ 0 ∷ 4 ∷ 3 ∷ 2 ∷ 1 ∷ 2 ∷ 0 ∷ 0 ∷ 0 ∷ user_class_bytes ++ everyones_bytes;
  bytes_with_both : ace_bytes (ace kinds.ObjectAllow (Some user_class) (Some other_class))
      ≡ 5 ∷ 0xd3 ∷ 56 ∷ 0 ∷ 4 ∷ 3 ∷ 2 ∷ 1 ∷ 3 ∷ 0 ∷ 0 ∷ 0 ∷ user_class_bytes ++ other_class_bytes ++ everyones_bytes;
  sizes : map ace_size (ace kinds.Label None None ∷ ace kinds.ObjectDeny None None
      ∷ ace kinds.ObjectDeny None (Some user_class) ∷ ace kinds.ObjectDeny (Some user_class) (Some user_class) ∷ [])
      ≡ 20 ∷ 24 ∷ 40 ∷ 56 ∷ [];
  fronts : map front_size (kinds.Allow ∷ kinds.Label ∷ kinds.ObjectAllow ∷ []) ≡ 8 ∷ 8 ∷ 12 ∷ [];
}
unfolding computed ace everyone everyones_bytes user_class user_class_bytes other_class other_class_bytes
object_flags_and_more = search rules

-- the limits: flags of eight bits without 0x20, a mask of 32 bits, GUIDs of sixteen bytes in object kinds alone

limited : ℕ → ℕ → AccessControlEntry
limited flags mask = record {
  kind = kinds.Allow;
  flags = flags;
  mask = mask;
  object = None;
  inherited = None;
  sid = record { authority = 5; subs = [] };
}

shortest_sid : IsSid (record { authority = 5; subs = [] })
shortest_sid = record { authority = omega arith; count = omega arith; subs = λ i. omega arith }

limited_is_an_ace : (flags mask : ℕ) → flags < 256 → flags / 0x20 % 2 ≡ 0 → mask < 2 ^ 32 → IsAce (limited flags mask)
unfolding limited
limited_is_an_ace flags mask few clear small = record {
  flags = few;
  clear = clear;
  mask = small;
  fit = tt;
  object = tt;
  inherited = tt;
  sid = shortest_sid;
}

largest_ace : IsAce (limited 0xdf 0xffff_ffff)
largest_ace = limited_is_an_ace 0xdf 0xffff_ffff (omega arith) refl (omega arith)

flag_0x40_alone : IsAce (limited 0x40 0)
flag_0x40_alone = limited_is_an_ace 0x40 0 (omega arith) refl (omega arith)

unused_flag : IsAce (limited 0x20 0) → ⊥
unfolding limited
unused_flag h = let unused = h.clear in cc

ninth_flag : IsAce (limited 0x100 0) → ⊥
unfolding limited
ninth_flag h = let more = h.flags in omega arith

larger_mask : IsAce (limited 0 0x1_0000_0000) → ⊥
unfolding limited
larger_mask h = let more = h.mask in omega arith

no_type_in_a_plain_kind : GuidsFit false (Some user_class) None → ⊥
no_type_in_a_plain_kind h = h

no_inherited_type_in_a_plain_kind : GuidsFit false None (Some user_class) → ⊥
no_inherited_type_in_a_plain_kind h = h

types_in_an_object_kind : GuidsFit true (Some user_class) (Some other_class)
types_in_an_object_kind = tt

seventeen_bytes : IsGuid (replicate 17 0) → ⊥
seventeen_bytes h = let more = h.size in omega arith

fifteen_bytes : IsGuid (replicate 15 0) → ⊥
fifteen_bytes h = let less = h.size in omega arith

wide_byte : IsGuid (0x100 ∷ replicate 15 0) → ⊥
wide_byte h = let more = h.bytes 0 0 (omega arith) in omega arith

-- each of the two GUIDs by itself

of_types : Option (List ℕ) → Option (List ℕ) → AccessControlEntry
of_types object inherited = record {
  kind = kinds.ObjectAllow;
  flags = 0;
  mask = 0;
  object = object;
  inherited = inherited;
  sid = record { authority = 5; subs = [] };
}

short_object : IsAce (of_types (Some (replicate 15 0)) (Some user_class)) → ⊥
unfolding of_types user_class
short_object h = let less = h.object.size in omega arith

short_inherited : IsAce (of_types (Some user_class) (Some (replicate 15 0))) → ⊥
unfolding of_types user_class
short_inherited h = let less = h.inherited.size in omega arith

object_in_a_plain_ace : IsAce (record (limited 0 0) { object = Some user_class }) → ⊥
unfolding limited
object_in_a_plain_ace h = h.fit

inherited_in_a_plain_ace : IsAce (record (limited 0 0) { inherited = Some user_class }) → ⊥
unfolding limited
inherited_in_a_plain_ace h = h.fit
