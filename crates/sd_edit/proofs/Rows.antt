-- What edits make, by hand.
use Rattle.std.proofs.Common.{◌≡◌, ℕ, [], ◌∷◌, Some, None, true, false, Ok, Err, refl, rules}
use Rattle.sd_ace.specs.Ace.{AccessControlEntry}
use Rattle.sd_kinds.specs.declared.kinds.AceKind.{AceKind}
use Rattle.sd_kinds.specs.declared.kinds.AceKind.TheVariants as kinds
use Rattle.sd_parts.specs.declared.part.Which.TheVariants.{Dacl, Sacl}
use Rattle.sd_view.specs.Descriptor.{Descriptor}
use Rattle.sd_view.specs.declared.acl_part.AclPart.TheVariants as acl
use Rattle.sd_edit.specs.Edits.{acl_edited, aces_edited, edit, edited}
use Rattle.sd_edit.specs.Lists.{list_edited, place_for}
use Rattle.sd_edit.specs.Matching.{matches}
use Rattle.sd_edit.specs.Order.{first_fall, ordered, ranks}
use Rattle.sd_edit.specs.Setting.{with_bits, with_setting}
use Rattle.sd_edit.specs.declared.change.AclChange.TheVariants as changes
use Rattle.sd_edit.specs.declared.change.AclState.TheVariants as states
use Rattle.sd_edit.specs.declared.change.Change.TheVariants as change
use Rattle.sd_edit.specs.declared.change.ListChange.TheVariants as lists
use Rattle.sd_edit.specs.declared.change.Place.TheVariants as place
use Rattle.sd_edit.specs.declared.edited.ChangeFault.TheVariants as fault
use Rattle.sd_edit.specs.declared.matching.Match.{Match}

abbrev of : AceKind → ℕ → ℕ → AccessControlEntry
of kind flags mask = record {
  kind = kind;
  flags = flags;
  mask = mask;
  object = None;
  inherited = None;
  sid = record { authority = 1; subs = 0 ∷ [] };
}

-- (D;;1;;;WD), (A;;2;;;WD), (A;ID;3;;;WD) and (D;ID;4;;;WD)
abbrev deny : AccessControlEntry
deny = of kinds.Deny 0 1

abbrev allow : AccessControlEntry
allow = of kinds.Allow 0 2

abbrev inherited : AccessControlEntry
inherited = of kinds.Allow 0x10 3

abbrev inherited_deny : AccessControlEntry
inherited_deny = of kinds.Deny 0x10 4

-- 1. Order.

dacl_ranks_and_more : record {
  dacl_ranks : ranks Dacl (deny ∷ of kinds.ObjectDeny 3 1 ∷ allow ∷ of kinds.ObjectAllow 0 1 ∷ of kinds.Audit 0 1
      ∷ of kinds.Label 0 1 ∷ inherited ∷ inherited_deny ∷ []) ≡ 0 ∷ 0 ∷ 1 ∷ 1 ∷ 1 ∷ 1 ∷ 2 ∷ 2 ∷ [];
  sacl_ranks : ranks Sacl (of kinds.Audit 0x40 1 ∷ of kinds.Label 0 1 ∷ deny ∷ of kinds.Audit 0x50 1 ∷ [])
      ≡ 0 ∷ 0 ∷ 0 ∷ 2 ∷ [];
  -- an inherited deny may stand behind an inherited grant, and an own one not
  falls : first_fall (ranks Dacl (deny ∷ allow ∷ inherited ∷ inherited_deny ∷ [])) ∷ first_fall (ranks Dacl [])
      ∷ first_fall (ranks Dacl (allow ∷ deny ∷ inherited ∷ []))
      ∷ first_fall (ranks Dacl (deny ∷ allow ∷ allow ∷ inherited ∷ allow ∷ deny ∷ []))
      ∷ first_fall (ranks Sacl (allow ∷ deny ∷ [])) ∷ [] ≡ None ∷ None ∷ Some 1 ∷ Some 4 ∷ None ∷ [];
  -- those of one rank stay as they stood
  in_order : ordered Dacl (inherited ∷ allow ∷ deny ∷ inherited_deny ∷ of kinds.Label 0 7 ∷ [])
      ≡ deny ∷ allow ∷ of kinds.Label 0 7 ∷ inherited ∷ inherited_deny ∷ [];
}
dacl_ranks_and_more = search rules

-- 2. Places.

places_and_more : record {
  -- the number of ACEs is the end, and one more is no place
  places : place_for Dacl (place.At 2) deny (deny ∷ allow ∷ []) ∷ place_for Dacl (place.At 3) deny (deny ∷ allow ∷ [])
      ∷ place_for Dacl place.End deny (deny ∷ allow ∷ []) ∷ place_for Dacl (place.At 0) deny [] ∷ []
      ≡ Some 2 ∷ None ∷ Some 2 ∷ Some 0 ∷ [];
  -- behind the last ACE of no higher rank; a list out of order has no such place
  by_order : place_for Dacl place.ByOrder deny (deny ∷ allow ∷ inherited ∷ [])
      ∷ place_for Dacl place.ByOrder allow (deny ∷ allow ∷ inherited ∷ [])
      ∷ place_for Dacl place.ByOrder inherited_deny (deny ∷ inherited ∷ [])
      ∷ place_for Dacl place.ByOrder deny (allow ∷ inherited ∷ [])
      ∷ place_for Dacl place.ByOrder inherited (allow ∷ deny ∷ []) ∷ place_for Sacl place.ByOrder deny (allow ∷ deny
      ∷ [])
      ∷ [] ≡ Some 1 ∷ Some 2 ∷ Some 2 ∷ Some 0 ∷ None ∷ Some 2 ∷ [];
}
places_and_more = search rules

-- 3. Lists.

abbrev own : Match
own = record {
  sid = None;
  kind = None;
  mask = None;
  object = None;
  inherited = None;
  flags = 0;
  flags_mask = 0x10;
}

at_a_place_and_more : record {
  -- a place is put to, taken from and replaced at
  at_a_place : list_edited Dacl (lists.Put (place.At 1) inherited) (deny ∷ allow ∷ [])
      ∷ list_edited Dacl (lists.Take 0) (deny ∷ allow ∷ []) ∷ list_edited Dacl (lists.Take 2) (deny ∷ allow ∷ [])
      ∷ list_edited Dacl (lists.Take 0) (deny ∷ []) ∷ list_edited Dacl (lists.Replace 1 inherited) (deny ∷ allow ∷ [])
      ∷ list_edited Dacl (lists.Replace 2 inherited) (deny ∷ allow ∷ []) ∷ []
      ≡ Some (deny ∷ inherited ∷ allow ∷ [], 1) ∷ Some (allow ∷ [], 1) ∷ None ∷ Some ([], 1)
      ∷ Some (deny ∷ inherited ∷ [], 1) ∷ None ∷ [];
  -- what matches nothing takes nothing, which is no fault
  each : list_edited Dacl (lists.TakeEach own) (deny ∷ inherited ∷ allow ∷ [])
      ∷ list_edited Dacl (lists.TakeEach own) (inherited ∷ [])
      ∷ list_edited Dacl (lists.TakeEach (record own { mask = Some 2 })) (deny ∷ allow ∷ []) ∷ []
      ≡ Some (inherited ∷ [], 2) ∷ Some (inherited ∷ [], 0) ∷ Some (deny ∷ [], 1) ∷ [];
  -- a given object type, and none, are compared; a type that is not given is not
  types : matches (record own { object = Some None }) deny ∷ matches (record own { object = Some (Some (7 ∷ [])) }) deny
      ∷ matches (record own { object = Some (Some (7 ∷ [])) }) (record deny { object = Some (7 ∷ []) })
      ∷ matches own (record deny { object = Some (7 ∷ []) })
      ∷ matches (record own { object = Some None }) (record deny { object = Some (7 ∷ []) }) ∷ []
      ≡ true ∷ false ∷ true ∷ true ∷ false ∷ [];
  words : with_bits 0x30 0xf 0x1ff ∷ with_bits 1 0 0 ∷ with_bits 0 0xffffffff 0x1f01ff ∷ [] ≡ 0x1f0 ∷ 1 ∷ 0 ∷ [];
  -- flag 0x20 stays clear
  setting : with_setting (record { sid = None; set_mask = 8; clear_mask = 1; set_flags = 0x23; clear_flags = 0x10 })
      (of kinds.Deny 0x18 5) ≡ of kinds.Deny 0x0b 0xc;
}
unfolding list_edited matches
at_a_place_and_more = search rules

-- 4. Descriptors.

-- D:P(A;;2;;;WD), with DD
abbrev d : Descriptor
d = record {
  control = 0x900c;
  rm = 5;
  owner = None;
  group = None;
  sacl = acl.Absent;
  dacl = acl.List (allow ∷ []);
}

control : edited (change.Control 0x400 0x1000) d ≡ Ok (record d { control = 0x840c }, 0)
unfolding edited
control = refl

acl_states_and_more : record {
  -- the present bits follow, and no other bit
  acl_states : edited (change.Acl Dacl (changes.State states.Absent)) d
      ∷ edited (change.Acl Dacl (changes.State states.Null)) d ∷ edited (change.Acl Sacl (changes.State states.List)) d
      ∷ []
      ≡ Ok (record d { control = 0x9008; dacl = acl.Absent }, 0) ∷ Ok (record d { dacl = acl.Null }, 0)
      ∷ Ok (record d { control = 0x901c; sacl = acl.List [] }, 0) ∷ [];
  -- an absent ACL takes no ACE, and order leaves it; the last ACE leaves an empty list
  acls : edited (change.Acl Sacl (changes.List (lists.Put place.End deny))) d
      ∷ edited (change.Acl Sacl changes.Order) d ∷ edited (change.Acl Dacl (changes.List (lists.Take 0))) d ∷ []
      ≡ Err (fault.Impossible Sacl) ∷ Ok (d, 0) ∷ Ok (record d { dacl = acl.List [] }, 1) ∷ [];
  -- each on what those before left, up to the first that can't be made
  after : edit (change.Acl Dacl (changes.List (lists.Put (place.At 0) deny))
      ∷ change.Acl Dacl (changes.List (lists.Take 1)) ∷ []) d
      ≡ (1 ∷ 1 ∷ [], Ok (record d { dacl = acl.List (deny ∷ []) }));
  stops : edit (change.Acl Dacl (changes.List (lists.Take 0)) ∷ change.Acl Dacl (changes.List (lists.Take 0))
      ∷ change.Owner None ∷ []) d ≡ (1 ∷ [], Err (fault.Impossible Dacl));
}
unfolding edited acl_edited aces_edited list_edited
acl_states_and_more = search rules
