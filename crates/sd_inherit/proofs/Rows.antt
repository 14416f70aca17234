-- Worked rows, computed: the copies of single ACEs on files and containers, what is taken of a creator's ACEs, and what
-- is derived around them.
use Rattle.std.proofs.Common.{◌≡◌, ℕ, Bool, true, false, List, [], ◌∷◌, ◌++◌, Some, None, Ok, Err, refl, arith, rules}
use Rattle.sd_ace.specs.Ace.{AccessControlEntry}
use Rattle.sd_rights.specs.Mapping.{mapped}
use Rattle.sd_sid.specs.Sid.{SecurityId}
use Rattle.sd_sid.proofs.laws.Everyone.{everyone}
use Rattle.sd_kinds.specs.declared.kinds.AceKind.{AceKind}
use Rattle.sd_kinds.specs.declared.kinds.AceKind.TheVariants as kinds
use Rattle.sd_view.specs.Descriptor.{Descriptor}
use Rattle.sd_view.specs.declared.acl_part.AclPart.{AclPart}
use Rattle.sd_view.specs.declared.acl_part.AclPart.TheVariants as acl
use Rattle.std.specs.Prelude.{replicate}
use Rattle.sd_inherit.specs.Copies.{copies}
use Rattle.sd_inherit.specs.Derived.{derive_fault, derived}
use Rattle.sd_inherit.specs.Origins.{new_origins, origins_answer}
use Rattle.sd_inherit.specs.PlanLimits.{IsPlan}
use Rattle.sd_inherit.specs.Taken.{taken}
use Rattle.sd_parts.specs.declared.part.Which.TheVariants.{Dacl, Sacl}
use Rattle.sd_inherit.specs.declared.derivation.DeriveFault.TheVariants.{DerivedTooLarge}
use Rattle.sd_inherit.specs.declared.origin.AceOrigin.{AceOrigin}
use Rattle.sd_inherit.specs.declared.origin.OriginFault.TheVariants.{Derive, TooSmall}
use Rattle.sd_inherit.specs.declared.plan.Plan.{Plan}
use Rattle.sd_inherit.specs.declared.plan.Target.{Target}
use Rattle.sd_inherit.specs.declared.plan.Target.TheVariants.{File, Container}

creator_owner : SecurityId
creator_owner = record { authority = 3; subs = 0 ∷ [] }

creator_group : SecurityId
creator_group = record { authority = 3; subs = 1 ∷ [] }

user : SecurityId
user = record { authority = 5; subs = 21 ∷ 1 ∷ 2 ∷ 3 ∷ 1001 ∷ [] }

users : SecurityId
users = record { authority = 5; subs = 32 ∷ 545 ∷ [] }

high : SecurityId
high = record { authority = 16; subs = 12288 ∷ [] }

-- for a file or a container of the user's, with the mapping of files
plan : Target → Plan
plan target = record {
  target = target;
  owner = user;
  group = everyone;
  mapping = record { read = 0x120089; write = 0x120116; execute = 0x1200a0; all = 0x1f01ff };
}

-- kind, flags, mask and SID
ace : AceKind → ℕ → ℕ → SecurityId → AccessControlEntry
ace kind flags mask sid = record { kind = kind; flags = flags; mask = mask; object = None; inherited = None; sid = sid }

system : SecurityId
system = record { authority = 5; subs = 18 ∷ [] }

-- what is made for the user, what others have, and a parent and a creator of theirs
made : ℕ → AclPart → AclPart → Descriptor
made control sacl dacl = record {
  control = control;
  rm = 0;
  owner = Some user;
  group = Some everyone;
  sacl = sacl;
  dacl = dacl;
}

given : SecurityId → ℕ → AclPart → AclPart → Descriptor
given owner control sacl dacl = record (made control sacl dacl) { rm = 0xff; owner = Some owner; group = None }

parent : AclPart → AclPart → Descriptor
parent sacl dacl = given users 0xbf14 sacl dacl

creator : ℕ → AclPart → AclPart → Descriptor
creator control sacl dacl = given everyone control sacl dacl

-- the container hands its first ACE on to files
handing_on : Descriptor
handing_on = parent acl.Absent (acl.List (ace kinds.Allow 0x3 0x1f01ff system ∷ []))

-- `unfolding computed` lets `refl` compute a row
computed : Unit {0}
unfolding copies taken mapped derived derive_fault creator_owner creator_group user users everyone high system plan ace
    made given parent creator handing_on
computed = tt

-- CI with a generic right or for the creator: an effective copy, and one to hand on

for_the_owner_and_more : record {
  for_the_owner : copies (plan Container) (ace kinds.Allow 0xb 0x1000_0000 creator_owner)
      ≡ ace kinds.Allow 0x10 0x1f01ff user ∷ ace kinds.Allow 0x1b 0x1000_0000 creator_owner ∷ [];
  for_the_group : copies (plan Container) (ace kinds.Deny 0x2 0x1 creator_group)
      ≡ ace kinds.Deny 0x10 0x1 everyone ∷ ace kinds.Deny 0x1a 0x1 creator_group ∷ [];
  for_the_owner_without_a_generic_right : copies (plan Container) (ace kinds.Audit 0x42 0x1 creator_owner)
      ≡ ace kinds.Audit 0x50 0x1 user ∷ ace kinds.Audit 0x5a 0x1 creator_owner ∷ [];
  generic_right : copies (plan Container) (ace kinds.Allow 0x2 0x8000_0000 users)
      ≡ ace kinds.Allow 0x10 0x120089 users ∷ ace kinds.Allow 0x1a 0x8000_0000 users ∷ [];
}
unfolding computed
for_the_owner_and_more = search rules

-- CI otherwise: one copy, which goes on; flags of audit stay

ci_otherwise : record {
  goes_on : copies (plan Container) (ace kinds.Audit 0xc3 0x1 users) ≡ ace kinds.Audit 0xd3 0x1 users ∷ [];
  label_goes_on : copies (plan Container) (ace kinds.Label 0x3 0x8000_0000 high) ≡ ace kinds.Label 0x13 0x8000_0000
      high ∷ [];
}
unfolding computed
ci_otherwise = search rules

-- CI and NP: one copy, which does not

one_level : copies (plan Container) (ace kinds.Allow 0x7 0x8000_0000 creator_group)
    ≡ ace kinds.Allow 0x10 0x120089 everyone ∷ []
unfolding computed
one_level = refl

-- OI alone: to hand on, unless NP

oi_alone : record {
  files_below : copies (plan Container) (ace kinds.Allow 0x1 0xa000_0000 users) ≡ ace kinds.Allow 0x19 0xa000_0000
      users ∷ [];
  files_here : copies (plan Container) (ace kinds.Allow 0x5 0x1f01ff everyone) ≡ [];
}
unfolding computed
oi_alone = search rules

-- a file: OI, whatever else

to_a_file_and_more : record {
  to_a_file : copies (plan File) (ace kinds.Allow 0xf 0xa000_0000 users) ≡ ace kinds.Allow 0x10 0x1200a9 users ∷ [];
  not_to_a_file : copies (plan File) (ace kinds.Allow 0x2 0x1f01ff everyone) ≡ [];
}
unfolding computed
to_a_file_and_more = search rules

-- of a creator's ACEs: one with ID gives nothing

inherited_before : taken (plan Container) (ace kinds.Allow 0x13 0x1f01ff everyone) ≡ []
unfolding computed
inherited_before = refl

-- a file takes what is effective there, with no flag that goes on; flags of audit stay

file_rows : record {
  file_takes : taken (plan File) (ace kinds.Audit 0xc7 0x8000_0000 creator_owner)
      ≡ ace kinds.Audit 0xc0 0x120089 user ∷ [];
  file_takes_a_label : taken (plan File) (ace kinds.Label 0x7 0x8000_0000 high)
      ≡ ace kinds.Label 0x0 0x8000_0000 high ∷ [];
  file_does_not_hand_on : taken (plan File) (ace kinds.Allow 0xb 0x1f01ff everyone) ≡ [];
}
unfolding computed
file_rows = search rules

-- a container keeps what it only hands on as it was, and takes for itself what does not go on

container_rows : record {
  container_hands_on : taken (plan Container) (ace kinds.Allow 0xd 0x1000_0000 creator_owner)
      ≡ ace kinds.Allow 0xd 0x1000_0000 creator_owner ∷ [];
  container_takes : taken (plan Container) (ace kinds.Deny 0x4 0x1000_0000 creator_group)
      ≡ ace kinds.Deny 0x0 0x1f01ff everyone ∷ [];
}
unfolding computed
container_rows = search rules

-- what goes on, and means something else there, is split

what_goes_on : record {
  creator_splits : taken (plan Container) (ace kinds.Allow 0x3 0x1000_0000 creator_owner)
      ≡ ace kinds.Allow 0x0 0x1f01ff user ∷ ace kinds.Allow 0xb 0x1000_0000 creator_owner ∷ [];
  generic_splits : taken (plan Container) (ace kinds.Audit 0x46 0x8000_0000 users)
      ≡ ace kinds.Audit 0x40 0x120089 users ∷ ace kinds.Audit 0x4e 0x8000_0000 users ∷ [];
  owner_splits_without_a_generic_right : taken (plan Container) (ace kinds.Deny 0x1 0x2 creator_owner)
      ≡ ace kinds.Deny 0x0 0x2 user ∷ ace kinds.Deny 0x9 0x2 creator_owner ∷ [];
  group_splits_without_a_generic_right : taken (plan Container) (ace kinds.Deny 0x2 0x2 creator_group)
      ≡ ace kinds.Deny 0x0 0x2 everyone ∷ ace kinds.Deny 0xa 0x2 creator_group ∷ [];
}
unfolding computed
what_goes_on = search rules

-- all else is as it was

label_does_not_split_and_more : record {
  label_does_not_split : taken (plan Container) (ace kinds.Label 0x2 0x8000_0000 high)
      ≡ ace kinds.Label 0x2 0x8000_0000 high ∷ [];
  as_it_was : taken (plan Container) (ace kinds.Allow 0x45 0x1 users) ≡ ace kinds.Allow 0x45 0x1 users ∷ [];
}
unfolding computed
label_does_not_split_and_more = search rules

-- whole descriptors

whole_descriptors : record {
  null_dacl : derived (parent acl.Absent acl.Null) None (plan File) ≡ made 0x8404 acl.Absent (acl.List []);
  no_copy_in_the_sacl : derived (parent (acl.List (ace kinds.Label 0x2 0x1 high ∷ [])) acl.Absent) None (plan File)
      ≡ made 0x8404 acl.Absent (acl.List []);
  copy_in_the_sacl : derived
      (parent (acl.List (ace kinds.Label 0x1 0x1 high ∷ [])) (acl.List (ace kinds.Allow 0x1 0x1 users ∷ [])))
      None (plan File)
      ≡ made 0x8c14 (acl.List (ace kinds.Label 0x10 0x1 high ∷ [])) (acl.List (ace kinds.Allow 0x10 0x1 users ∷ []));
  nothing_too_large : derive_fault (parent acl.Null acl.Null) None (plan Container) ≡ None;
}
unfolding computed
whole_descriptors = search rules

-- beside a creator's descriptor

taken_then_inherited_and_more : record {
  -- what is taken comes before the copies, and what the creator's object had inherited is not taken
  taken_then_inherited : derived handing_on
      (Some (creator 0x8004 acl.Absent
      (acl.List (ace kinds.Allow 0x0 0x120089 users ∷ ace kinds.Allow 0x10 0x1f01ff everyone ∷ []))))
      (plan File)
      ≡ made 0x8404 acl.Absent (acl.List (ace kinds.Allow 0x0 0x120089 users ∷ ace kinds.Allow 0x10 0x1f01ff system
      ∷ []));
  -- AR and AI of the creator's ACL are not looked at
  flags_of_inheritance : derived handing_on
      (Some (creator 0x8504 acl.Absent (acl.List (ace kinds.Allow 0x0 0x120089 users ∷ [])))) (plan File)
      ≡ made 0x8404 acl.Absent (acl.List (ace kinds.Allow 0x0 0x120089 users ∷ ace kinds.Allow 0x10 0x1f01ff system
      ∷ []));
  -- nothing is inherited beside a protected list, which is not auto-inherited
  protected_list : derived handing_on
      (Some (creator 0x9004 acl.Absent (acl.List (ace kinds.Allow 0x0 0x120089 users ∷ [])))) (plan File)
      ≡ made 0x9004 acl.Absent (acl.List (ace kinds.Allow 0x0 0x120089 users ∷ []));
  -- a null DACL stays null, and keeps P
  null_creators_dacl : derived handing_on (Some (creator 0x8004 acl.Absent acl.Null)) (plan File)
      ≡ made 0x8004 acl.Absent acl.Null;
  protected_null_dacl : derived handing_on (Some (creator 0x9004 acl.Absent acl.Null)) (plan File)
      ≡ made 0x9004 acl.Absent acl.Null;
  -- an empty SACL stands, protected or not; beside it the DACL is inherited
  protected_empty_sacl : derived handing_on (Some (creator 0xa010 (acl.List []) acl.Absent)) (plan File)
      ≡ made 0xa414 (acl.List []) (acl.List (ace kinds.Allow 0x10 0x1f01ff system ∷ []));
  empty_sacl : derived handing_on (Some (creator 0x8010 (acl.List []) acl.Absent)) (plan File)
      ≡ made 0x8c14 (acl.List []) (acl.List (ace kinds.Allow 0x10 0x1f01ff system ∷ []));
  -- P of an ACL that is absent is not kept
  protected_but_absent : derived handing_on (Some (creator 0xb000 acl.Absent acl.Absent)) (plan File)
      ≡ made 0x8404 acl.Absent (acl.List (ace kinds.Allow 0x10 0x1f01ff system ∷ []));
  -- a container takes an ACE for the creator's owner, and inherits
  container_takes_and_inherits : derived handing_on
      (Some (creator 0x8004 acl.Absent (acl.List (ace kinds.Allow 0x3 0x1000_0000 creator_owner ∷ []))))
      (plan Container)
      ≡ made 0x8404 acl.Absent
      (acl.List (ace kinds.Allow 0x0 0x1f01ff user ∷ ace kinds.Allow 0xb 0x1000_0000 creator_owner
      ∷ ace kinds.Allow 0x13 0x1f01ff system ∷ []));
}
unfolding computed
taken_then_inherited_and_more = search rules

-- a creator's null SACL stays null, and keeps P; beside it the DACL is inherited

null_creators_sacl_and_more : record {
  null_creators_sacl : derived handing_on (Some (creator 0x8010 acl.Null acl.Absent)) (plan File)
      ≡ made 0x8414 acl.Null (acl.List (ace kinds.Allow 0x10 0x1f01ff system ∷ []));
  protected_null_sacl : derived handing_on (Some (creator 0xa010 acl.Null acl.Absent)) (plan File)
      ≡ made 0xa414 acl.Null (acl.List (ace kinds.Allow 0x10 0x1f01ff system ∷ []));
  -- an empty DACL of the creator's is a list: what is inherited comes
  empty_creators_dacl : derived handing_on (Some (creator 0x8004 acl.Absent (acl.List []))) (plan File)
      ≡ made 0x8404 acl.Absent (acl.List (ace kinds.Allow 0x10 0x1f01ff system ∷ []));
  -- P of the one ACL does not protect the other
  other_acl_is_protected : derived handing_on
      (Some (creator 0xa014 (acl.List []) (acl.List (ace kinds.Allow 0x0 0x120089 users ∷ [])))) (plan File)
      ≡ made 0xa414 (acl.List [])
      (acl.List (ace kinds.Allow 0x0 0x120089 users ∷ ace kinds.Allow 0x10 0x1f01ff system ∷ []));
}
unfolding computed
null_creators_sacl_and_more = search rules

-- each generic right by itself splits

generic_write_splits_and_more : record {
  generic_write_splits : copies (plan Container) (ace kinds.Allow 0x2 0x4000_0000 users)
      ≡ ace kinds.Allow 0x10 0x120116 users ∷ ace kinds.Allow 0x1a 0x4000_0000 users ∷ [];
  generic_execute_splits : copies (plan Container) (ace kinds.Allow 0x2 0x2000_0000 users)
      ≡ ace kinds.Allow 0x10 0x1200a0 users ∷ ace kinds.Allow 0x1a 0x2000_0000 users ∷ [];
  generic_all_splits : copies (plan Container) (ace kinds.Allow 0x3 0x1000_0000 users)
      ≡ ace kinds.Allow 0x10 0x1f01ff users ∷ ace kinds.Allow 0x1b 0x1000_0000 users ∷ [];
  -- the bits below the generic ones do not: 25 is MAXIMUM_ALLOWED
  no_generic_right : copies (plan Container) (ace kinds.Allow 0x2 0x0f00_0000 users)
      ≡ ace kinds.Allow 0x12 0x0f00_0000 users ∷ [];
  -- OWNER RIGHTS, S-1-3-4, and CREATOR OWNER SERVER, S-1-3-2, are nobody's place
  no_creator : copies (plan Container) (ace kinds.Allow 0x2 0x1 (record { authority = 3; subs = 4 ∷ [] }))
      ≡ ace kinds.Allow 0x12 0x1 (record { authority = 3; subs = 4 ∷ [] }) ∷ [];
  server : copies (plan Container) (ace kinds.Allow 0x2 0x1 (record { authority = 3; subs = 2 ∷ [] }))
      ≡ ace kinds.Allow 0x12 0x1 (record { authority = 3; subs = 2 ∷ [] }) ∷ [];
}
unfolding computed
generic_write_splits_and_more = search rules

-- an ACL of 65,532 bytes and one of 65,536

-- a SID of fifteen sub-authorities: an ACE of it has 76 bytes
longest : SecurityId
longest = record { authority = 5; subs = 1 ∷ 2 ∷ 3 ∷ 4 ∷ 5 ∷ 6 ∷ 7 ∷ 8 ∷ 9 ∷ 10 ∷ 11 ∷ 12 ∷ 13 ∷ 14 ∷ 15 ∷ [] }

-- a SID without any: 16 bytes
shortest : SecurityId
shortest = record { authority = 5; subs = [] }

-- for files, which inherit as many bytes as there are
for_files : SecurityId → AccessControlEntry
for_files sid = ace kinds.Allow 0x1 0x1 sid

largest_acls : record {
  -- 861 * 76 + 3 * 16 + 2 * 20 + 8
  fits : derive_fault (parent acl.Absent (acl.List (replicate 861 (for_files longest)
      ++ replicate 3 (for_files shortest)
      ++ replicate 2 (for_files everyone)))) None (plan File) ≡ None;
  -- 862 * 76 + 16 + 8
  too_large : derive_fault (parent acl.Absent (acl.List (replicate 862 (for_files longest) ++ for_files shortest ∷ [])))
      None (plan File) ≡ Some (DerivedTooLarge Dacl);
  -- the SACL is looked at first
  both_too_large : derive_fault (parent (acl.List (replicate 863 (for_files longest)))
      (acl.List (replicate 863 (for_files longest)))) None (plan File) ≡ Some (DerivedTooLarge Sacl);
}
unfolding computed longest shortest for_files
largest_acls = search rules

-- a plan's owner and its group are SIDs: each with one number too many

sixteen : SecurityId
sixteen = record { authority = 5; subs = replicate 16 0 }

no_owner : IsPlan (record (plan File) { owner = sixteen }) → ⊥
unfolding plan sixteen
no_owner h = let more = h.owner.count in omega arith

no_group : IsPlan (record (plan File) { group = sixteen }) → ⊥
unfolding plan sixteen
no_group h = let more = h.group.count in omega arith

-- origins

from_creator : ℕ → Bool → AceOrigin
from_creator place inherit_only = record { place = place; from_creator = true; inherit_only = inherit_only }

from_parent : ℕ → Bool → AceOrigin
from_parent place inherit_only = record { place = place; from_creator = false; inherit_only = inherit_only }

origins_rows : record {
  -- Two equal ACEs have origins of their own, and an ACE that gives nothing has a place. The last one is to hand on
  -- alone.
  origins_in_a_container : new_origins Dacl
      (parent acl.Absent (acl.List (ace kinds.Allow 0x0 0x1 users ∷ ace kinds.Allow 0x2 0x8000_0000 users
      ∷ ace kinds.Allow 0x2 0x8000_0000 users ∷ ace kinds.Allow 0x4 0x1 users ∷ ace kinds.Allow 0x1 0x1 users ∷ [])))
      None (plan Container)
      ≡ from_parent 1 false ∷ from_parent 1 true ∷ from_parent 2 false ∷ from_parent 2 true ∷ from_parent 4 true ∷ [];
  origins_in_a_file : new_origins Dacl
      (parent acl.Absent (acl.List (ace kinds.Allow 0x2 0x1 users ∷ ace kinds.Allow 0x3 0x8000_0000 users ∷ [])))
      None (plan File) ≡ from_parent 1 false ∷ [];
  -- the creator's come first, and what its object had inherited has a place there
  origins_of_both : new_origins Dacl handing_on
      (Some (creator 0x8004 acl.Absent
      (acl.List (ace kinds.Allow 0x10 0x1 users ∷ ace kinds.Allow 0x3 0x1000_0000 creator_owner
      ∷ ace kinds.Allow 0xb 0x1 users ∷ []))))
      (plan Container)
      ≡ from_creator 1 false ∷ from_creator 1 true ∷ from_creator 2 true ∷ from_parent 0 false ∷ [];
}
unfolding computed from_parent from_creator
origins_rows = search rules

-- nothing is inherited beside a protected ACL or a null one, and an ACL that is not there has no origins

origins_beside_protected_and_more : record {
  origins_beside_protected : new_origins Dacl handing_on
      (Some (creator 0x9004 acl.Absent (acl.List (ace kinds.Allow 0x0 0x1 users ∷ [])))) (plan File)
      ≡ from_creator 0 false ∷ [];
  origins_beside_null : new_origins Dacl handing_on (Some (creator 0x8004 acl.Absent acl.Null)) (plan File) ≡ [];
  origins_of_an_absent_sacl : new_origins Sacl handing_on None (plan File) ≡ [];
  origins_of_a_sacl : new_origins Sacl (parent (acl.List (ace kinds.Label 0x1 0x1 high ∷ [])) acl.Null) None (plan File)
      ≡ from_parent 0 false ∷ [];
}
unfolding computed from_creator from_parent
origins_beside_protected_and_more = search rules

-- the counts are told where there is room for both ACLs, and also where there is not

enough_room_and_more : record {
  enough_room : origins_answer handing_on None (plan File) 0 1 ≡ Ok (record { sacl = 0; dacl = 1 });
  no_room : origins_answer handing_on None (plan File) 4095 0 ≡ Err (TooSmall (record { sacl = 0; dacl = 1 }));
  too_large_before_room : origins_answer
      (parent acl.Absent (acl.List (replicate 862 (for_files longest) ++ for_files shortest ∷ []))) None (plan File) 0 0
      ≡ Err (Derive (DerivedTooLarge Dacl));
}
unfolding computed longest shortest for_files
enough_room_and_more = search rules
