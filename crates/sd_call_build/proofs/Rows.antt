-- What an ACE and a SID of a new descriptor can be, and what is built, by hand (MS-DTYP 2.4.4.1, 2.4.4.3, 2.4.2 and
-- 2.4.6).
use Rattle.std.proofs.Common.{◌≡◌, ℕ, List, [], ◌∷◌, ◌++◌, true, false, Some, None, Ok, Err, refl, arith, rules}
use Rattle.std.specs.Borrow.{Bor}
use Rattle.sd_sid.specs.Sid.{sid_at}
use Rattle.sd_kinds.specs.Kinds.{kind_code, kind_entry, kind_of}
use Rattle.sd_kinds.specs.declared.kinds.AceKind.TheVariants as kinds
use Rattle.sd_parts.specs.Header.{header_bytes}
use Rattle.sd_parts.specs.declared.part.Which.TheVariants.{Dacl, Sacl}
use Rattle.sd_view.specs.Descriptor.{Descriptor}
use Rattle.sd_view.specs.Layout.{acl_part_size}
use Rattle.sd_view.specs.declared.acl_part.AclPart.TheVariants as acl
use Rattle.sd_sddl_builder.specs.declared.fault.SddlFault.TheVariants as sddl
use Rattle.sd_faults.specs.declared.line_fault.LineFault.TheVariants as line
use Rattle.sd_call.specs.declared.argument.Argument.TheVariants as argument
use Rattle.sd_call.specs.declared.outcome.CallFault.TheVariants as call
use Rattle.sd_call_build.specs.Build.{built, large_fault, new_fault}
use Rattle.sd_call_build.specs.New.{AreSmall, ace_in, acl_shown, can_be, guid_in, is_wrong_sid, large_part, made}
use Rattle.sd_call_build.specs.New.{new_descriptor, part_sizes, whole_sid, wrong_ace}
use Rattle.sd_call_build.specs.declared.new.NewAce.{NewAce}
use Rattle.sd_call_build.specs.declared.new.NewAcl.{NewAcl}
use Rattle.sd_call_build.specs.declared.new.NewDescriptor.{NewDescriptor}

-- Each flag but 0x20 can be.
flags : (can_be kinds.Allow 0xdf None None ≡ true) × (can_be kinds.Allow 0x20 None None ≡ false)
    × (can_be kinds.Label 0x21 None None ≡ false) × (can_be kinds.ObjectAudit 0xff None None ≡ false)
flags = (refl, refl, refl, refl)

-- each other flag by itself
single_flags : (can_be kinds.Allow 0x40 None None ≡ true) × (can_be kinds.Allow 0x80 None None ≡ true)
    × (can_be kinds.Allow 0x10 None None ≡ true)
single_flags = (refl, refl, refl)

-- GUIDs stand in object kinds alone.
guids : (can_be kinds.Audit 0 (Some []) None ≡ false) × (can_be kinds.Deny 0 None (Some []) ≡ false)
    × (can_be kinds.ObjectDeny 0 (Some []) None ≡ true) × (can_be kinds.ObjectAllow 0 None (Some []) ≡ true)
guids = (refl, refl, refl, refl)

guid_sizes : (guid_in [] ≡ Some None) × (guid_in (0 ∷ []) ≡ None)
    × (guid_in (0 ∷ 1 ∷ 2 ∷ 3 ∷ 4 ∷ 5 ∷ 6 ∷ 7 ∷ 8 ∷ 9 ∷ 10 ∷ 11 ∷ 12 ∷ 13 ∷ 14 ∷ 15 ∷ 16 ∷ []) ≡ None)
guid_sizes = (refl, refl, refl)

-- S-1-1-0, with a byte behind it, and no byte
sids : (whole_sid (1 ∷ 1 ∷ 0 ∷ 0 ∷ 0 ∷ 0 ∷ 0 ∷ 1 ∷ 0 ∷ 0 ∷ 0 ∷ 0 ∷ []) ≡ Some (record { authority = 1; subs = 0 ∷ [] }))
    × (whole_sid (1 ∷ 1 ∷ 0 ∷ 0 ∷ 0 ∷ 0 ∷ 0 ∷ 1 ∷ 0 ∷ 0 ∷ 0 ∷ 0 ∷ 0 ∷ []) ≡ None) × (whole_sid [] ≡ None)
unfolding sid_at
sids = (refl, refl, refl)

-- no bytes are no owner, and not a wrong one
wrong_sids : (is_wrong_sid [] ≡ false) × (is_wrong_sid (1 ∷ []) ≡ true)
    × (is_wrong_sid (1 ∷ 1 ∷ 0 ∷ 0 ∷ 0 ∷ 0 ∷ 0 ∷ 1 ∷ 0 ∷ 0 ∷ 0 ∷ 0 ∷ []) ≡ false)
unfolding sid_at
wrong_sids = (refl, refl, refl)

plain_ace : made kinds.Allow 3 1 None None (record { authority = 1; subs = 0 ∷ [] }) ≡ Some (record {
  kind = kinds.Allow;
  flags = 3;
  mask = 1;
  object = None;
  inherited = None;
  sid = record { authority = 1; subs = 0 ∷ [] };
})
plain_ace = refl

guid_bytes_and_more : record {
  -- bytes 00 01 02 .. 0f spell the GUID 03020100-0504-0706-0809-0a0b0c0d0e0f
  guid_bytes : guid_in (0 ∷ 1 ∷ 2 ∷ 3 ∷ 4 ∷ 5 ∷ 6 ∷ 7 ∷ 8 ∷ 9 ∷ 10 ∷ 11 ∷ 12 ∷ 13 ∷ 14 ∷ 15 ∷ [])
      ≡ Some (Some (3 ∷ 2 ∷ 1 ∷ 0 ∷ 5 ∷ 4 ∷ 7 ∷ 6 ∷ 8 ∷ 9 ∷ 10 ∷ 11 ∷ 12 ∷ 13 ∷ 14 ∷ 15 ∷ []));
  no_guid_in_a_plain_ace : made kinds.Allow 0 1 (Some []) None (record { authority = 1; subs = 0 ∷ [] }) ≡ None;
}
guid_bytes_and_more = search rules

-- ---- whole arguments

abbrev lent : {A : Type 0} → A → Bor A
lent value = record { ref_ptr = (0, 0); now = value }

abbrev everyone : List ℕ
everyone = 1 ∷ 1 ∷ 0 ∷ 0 ∷ 0 ∷ 0 ∷ 0 ∷ 1 ∷ 0 ∷ 0 ∷ 0 ∷ 0 ∷ []

abbrev system : List ℕ
system = 1 ∷ 1 ∷ 0 ∷ 0 ∷ 0 ∷ 0 ∷ 0 ∷ 5 ∷ 18 ∷ 0 ∷ 0 ∷ 0 ∷ []

-- (D;CI;0x2;;;WD)
abbrev deny : NewAce
deny = record {
  sid = lent everyone;
  object_type = lent [];
  inherited_object_type = lent [];
  mask = 2;
  kind = 1;
  flags = 2;
}

abbrev unknown : NewAce
unknown = record deny { kind = 4 }

abbrev list : List NewAce → NewAcl
list aces = record { aces = lent aces; state = 2 }

-- enum sdtool_acl_state
shown : (acl_shown (record { aces = lent []; state = 0 }) ≡ acl.Absent)
    × (acl_shown (record { aces = lent []; state = 1 }) ≡ acl.Null) × (acl_shown (list []) ≡ acl.List [])
shown = (refl, refl, refl)

ace : ace_in deny ≡ Some (record {
  kind = kinds.Deny;
  flags = 2;
  mask = 2;
  object = None;
  inherited = None;
  sid = record { authority = 1; subs = 0 ∷ [] };
})
unfolding ace_in sid_at kind_of kind_code kind_entry
ace = refl

-- (OA;CI;0x2;U;V;WD), where the two GUIDs are others, and with the second alone
abbrev type_bytes : List ℕ
type_bytes = 0 ∷ 1 ∷ 2 ∷ 3 ∷ 4 ∷ 5 ∷ 6 ∷ 7 ∷ 8 ∷ 9 ∷ 10 ∷ 11 ∷ 12 ∷ 13 ∷ 14 ∷ 15 ∷ []

abbrev other_bytes : List ℕ
other_bytes = 16 ∷ 17 ∷ 18 ∷ 19 ∷ 20 ∷ 21 ∷ 22 ∷ 23 ∷ 24 ∷ 25 ∷ 26 ∷ 27 ∷ 28 ∷ 29 ∷ 30 ∷ 31 ∷ []

abbrev type : List ℕ
type = 3 ∷ 2 ∷ 1 ∷ 0 ∷ 5 ∷ 4 ∷ 7 ∷ 6 ∷ 8 ∷ 9 ∷ 10 ∷ 11 ∷ 12 ∷ 13 ∷ 14 ∷ 15 ∷ []

abbrev other_type : List ℕ
other_type = 19 ∷ 18 ∷ 17 ∷ 16 ∷ 21 ∷ 20 ∷ 23 ∷ 22 ∷ 24 ∷ 25 ∷ 26 ∷ 27 ∷ 28 ∷ 29 ∷ 30 ∷ 31 ∷ []

abbrev of_types : List ℕ → List ℕ → NewAce
of_types object inherited =
    record deny { kind = 5; object_type = lent object; inherited_object_type = lent inherited }

object_aces : (ace_in (of_types type_bytes other_bytes) ≡ Some (record {
  kind = kinds.ObjectAllow;
  flags = 2;
  mask = 2;
  object = Some type;
  inherited = Some other_type;
  sid = record { authority = 1; subs = 0 ∷ [] };
})) × (ace_in (of_types [] other_bytes) ≡ Some (record {
  kind = kinds.ObjectAllow;
  flags = 2;
  mask = 2;
  object = None;
  inherited = Some other_type;
  sid = record { authority = 1; subs = 0 ∷ [] };
}))
unfolding ace_in sid_at kind_of kind_code kind_entry
object_aces = (refl, refl)

-- The first ACE that can't be is told. So is any ACE of an ACL that is no list, and a state that is none.
wrong : (wrong_ace (list (deny ∷ unknown ∷ unknown ∷ [])) ≡ Some 1) × (wrong_ace (list (deny ∷ [])) ≡ None)
    × (wrong_ace (record { aces = lent (deny ∷ []); state = 1 }) ≡ Some 0)
    × (wrong_ace (record { aces = lent []; state = 1 }) ≡ None)
    × (wrong_ace (record { aces = lent []; state = 3 }) ≡ Some 0)
unfolding ace_in sid_at kind_of kind_code kind_entry
wrong = (refl, refl, refl, refl, refl)

abbrev of_parts : List ℕ → List ℕ → NewAcl → NewAcl → NewDescriptor
of_parts owner group sacl dacl = record {
  owner = lent owner;
  group = lent group;
  sacl = sacl;
  dacl = dacl;
  control = 0x1004;
  resource_manager = 0;
}

abbrev absent : NewAcl
absent = record { aces = lent []; state = 0 }

abbrev none : NewAcl
none = record { aces = lent []; state = 3 }

-- The parts are looked at in the order owner, group, SACL, DACL.
order : (new_fault (of_parts (1 ∷ []) (1 ∷ []) none none) ≡ Some (call.Argument argument.Owner 0))
    × (new_fault (of_parts [] (1 ∷ []) none none) ≡ Some (call.Argument argument.Group 0))
    × (new_fault (of_parts [] [] none none) ≡ Some (call.Argument argument.Sacl 0))
    × (new_fault (of_parts [] [] (list []) none) ≡ Some (call.Argument argument.Dacl 0))
    × (new_fault (of_parts [] [] (list []) (list [])) ≡ None)
unfolding new_fault sid_at
order = (refl, refl, refl, refl, refl)

-- The ACE that can't be is told by its number, from 0 on.
entries : (new_fault (of_parts [] [] (list []) (list (deny ∷ unknown ∷ []))) ≡ Some (call.Argument argument.Dacl 1))
    × (new_fault (of_parts [] [] (list (deny ∷ deny ∷ unknown ∷ [])) (list (unknown ∷ [])))
    ≡ Some (call.Argument argument.Sacl 2))
unfolding new_fault ace_in sid_at kind_of kind_code kind_entry
entries = (refl, refl)

-- SR is always set. SP and DP say whether there is an ACL, and a null one counts. The caller's other bits stay.
abbrev null : NewAcl
null = record { aces = lent []; state = 1 }

abbrev control_with : ℕ → NewAcl → NewAcl → ℕ
control_with bits sacl dacl = (new_descriptor (record (of_parts [] [] sacl dacl) { control = bits })).control

-- the resource manager byte, behind the revision
resource_manager : ((new_descriptor (record (of_parts [] [] absent absent) { resource_manager = 7 })).rm ≡ 7)
    × (built (record (of_parts [] [] absent absent) { resource_manager = 7 })
    ≡ Ok (1 ∷ 7 ∷ 0 ∷ 0x90 ∷ 0 ∷ 0 ∷ 0 ∷ 0 ∷ 0 ∷ 0 ∷ 0 ∷ 0 ∷ 0 ∷ 0 ∷ 0 ∷ 0 ∷ 0 ∷ 0 ∷ 0 ∷ 0 ∷ []))
unfolding built new_fault sid_at header_bytes
resource_manager = (refl, refl)

-- the size of each part
sizes : part_sizes (record {
  control = 0x8014;
  rm = 0;
  owner = Some (record { authority = 5; subs = 32 ∷ 544 ∷ [] });
  group = Some (record { authority = 1; subs = 0 ∷ [] });
  sacl = acl.List [];
  dacl = acl.Null;
}) ≡ record { owner = 16; group = 12; sacl = 8; dacl = 0 }
sizes = refl

largest : AreSmall (record { owner = 68; group = 68; sacl = 65535; dacl = 65535 })
largest = record { owner = omega arith; group = omega arith; sacl = omega arith; dacl = omega arith }

larger_owner : AreSmall (record { owner = 69; group = 0; sacl = 0; dacl = 0 }) → ⊥
larger_owner h = let more = h.owner in omega arith

larger_group : AreSmall (record { owner = 0; group = 69; sacl = 0; dacl = 0 }) → ⊥
larger_group h = let more = h.group in omega arith

larger_sacl : AreSmall (record { owner = 0; group = 0; sacl = 65536; dacl = 0 }) → ⊥
larger_sacl h = let more = h.sacl in omega arith

larger_dacl : AreSmall (record { owner = 0; group = 0; sacl = 0; dacl = 65536 }) → ⊥
larger_dacl h = let more = h.dacl in omega arith

-- The size of an ACL has 16 bits (2.4.5), and the SACL is looked at first.
neither_too_large : (d : Descriptor) → acl_part_size d.sacl ≡ 65535 → acl_part_size d.dacl ≡ 65535 → large_part d ≡ None
neither_too_large d s h = rw s (rw h refl)

sacl_too_large : (d : Descriptor) → acl_part_size d.sacl ≡ 65536
    → large_fault d ≡ Some (call.Line (line.Sddl (sddl.AclTooLarge Sacl)))
sacl_too_large d h = rw h refl

dacl_too_large : (d : Descriptor) → acl_part_size d.sacl ≡ 65535 → acl_part_size d.dacl ≡ 65536
    → large_fault d ≡ Some (call.Line (line.Sddl (sddl.AclTooLarge Dacl)))
dacl_too_large d s h = rw s (rw h refl)

whole_arguments : record {
  -- An absent ACL has no ACE either, and a state is not cut to 8 bits.
  no_list : wrong_ace (record { aces = lent (deny ∷ []); state = 0 }) ∷ wrong_ace (record { aces = lent []; state = 0 })
      ∷ wrong_ace (record { aces = lent []; state = 256 }) ∷ wrong_ace (record { aces = lent []; state = 257 })
      ∷ wrong_ace (record { aces = lent []; state = 258 }) ∷ wrong_ace (record { aces = lent (deny ∷ []); state = 258 })
      ∷ [] ≡ Some 0 ∷ None ∷ Some 0 ∷ Some 0 ∷ Some 0 ∷ Some 0 ∷ [];
  -- 2.4.6: of the control word, SR and the bits for the ACLs are set as they have to be
  descriptor : new_descriptor (of_parts everyone system (record { aces = lent []; state = 0 }) (list (deny ∷ [])))
      ≡ record {
        control = 0x9004;
        rm = 0;
        owner = Some (record { authority = 1; subs = 0 ∷ [] });
        group = Some (record { authority = 5; subs = 18 ∷ [] });
        sacl = acl.Absent;
        dacl = acl.List (record {
          kind = kinds.Deny;
          flags = 2;
          mask = 2;
          object = None;
          inherited = None;
          sid = record { authority = 1; subs = 0 ∷ [] };
        } ∷ []);
      };
  control_bits : control_with 0xffff absent absent ∷ control_with 0x10 absent (list [])
      ∷ control_with 4 (list []) absent
      ∷ control_with 0 null null ∷ control_with 0x7fff (list []) null ∷ []
      ≡ 0xffeb ∷ 0x8004 ∷ 0x8010 ∷ 0x8014 ∷ 0xffff ∷ [];
  -- a null DACL has no bytes, and its offset is 0
  null_dacl : built (of_parts [] [] absent null)
      ≡ Ok (1 ∷ 0 ∷ 4 ∷ 0x90 ∷ 0 ∷ 0 ∷ 0 ∷ 0 ∷ 0 ∷ 0 ∷ 0 ∷ 0 ∷ 0 ∷ 0 ∷ 0 ∷ 0 ∷ 0 ∷ 0 ∷ 0 ∷ 0 ∷ []);
  -- an owner, a group, no SACL and a DACL of one ACE, one behind the other without gaps
  layout : built (of_parts everyone system (record { aces = lent []; state = 0 }) (list (deny ∷ []))) ≡ Ok (
      (1 ∷ 0 ∷ 0x04 ∷ 0x90 ∷ 20 ∷ 0 ∷ 0 ∷ 0 ∷ 32 ∷ 0 ∷ 0 ∷ 0 ∷ 0 ∷ 0 ∷ 0 ∷ 0 ∷ 44 ∷ 0 ∷ 0 ∷ 0
      ∷ []) ++ everyone ++ system
      ++ (2 ∷ 0 ∷ 28 ∷ 0 ∷ 1 ∷ 0 ∷ 0 ∷ 0 ∷ []) ++ (1 ∷ 2 ∷ 20 ∷ 0 ∷ 2 ∷ 0 ∷ 0 ∷ 0 ∷ []) ++ everyone);
  not_built : built (of_parts (1 ∷ []) [] (list []) (list [])) ≡ Err (call.Argument argument.Owner 0);
}
unfolding ace_in sid_at kind_of kind_code kind_entry built new_fault header_bytes
whole_arguments = search rules
