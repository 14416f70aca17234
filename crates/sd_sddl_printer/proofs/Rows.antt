-- Worked descriptors, printed.
use Rattle.std.proofs.Common.{◌≡◌, ℕ, List, [], ◌∷◌, ◌++◌, Option, Some, None, true, false, codes, refl, rules}
use Rattle.uuid.specs.Text.{by_index}
use Rattle.std.specs.Fmt.{digits}
use Rattle.sd_kinds.specs.Kinds.{kind_entry, kind_letters}
use Rattle.sd_ace.specs.Ace.{AccessControlEntry}
use Rattle.sd_kinds.specs.Flags.{flags_text}
use Rattle.sd_ace.specs.GuidText.{guid_text}
use Rattle.sd_ace.proofs.laws.WorkedGuids.{user_class}
use Rattle.sd_rights.specs.Rights.{rights_text}
use Rattle.sd_sid.specs.Sid.{SecurityId}
use Rattle.sd_sid.specs.SidText.{alias_of}
use Rattle.sd_kinds.specs.declared.kinds.AceKind.TheVariants as kinds
use Rattle.sd_view.specs.Descriptor.{Descriptor}
use Rattle.sd_view.specs.declared.acl_part.AclPart.TheVariants as acl
use Rattle.sd_sid.specs.declared.naming.Naming.{Naming}
use Rattle.sd_sid.proofs.laws.Everyone.{everyone}
use Rattle.sd_sddl_printer.specs.Printed.{ace_text, acl_flags_text, dacl_text, flags_field, group_text, kind_field}
use Rattle.sd_sddl_printer.specs.Printed.{object_field, owner_text, plain, rights_field, sacl_text, sddl, trustee_field}
use Rattle.sd_sddl_printer.specs.Printed.{trustee_text}

-- `unfolding printed` lets `refl` compute a row
printed : Unit {0}
unfolding kind_entry kind_letters sddl owner_text group_text dacl_text sacl_text acl_flags_text ace_text kind_field
    flags_field rights_field object_field trustee_field trustee_text alias_of flags_text rights_text guid_text digits
printed = tt

named : Naming
named = record { domain = None; numeric = false }

full_access : AccessControlEntry
full_access = record { kind = kinds.Allow; flags = 0; mask = 0x1f01ff; object = None; inherited = None; sid = everyone }

shared : Descriptor
shared = record {
  control = 0x8004;
  rm = 0;
  owner = Some (record { authority = 5; subs = 32 ∷ 544 ∷ [] });
  group = Some (record { authority = 5; subs = 18 ∷ [] });
  sacl = acl.Absent;
  dacl = acl.List (full_access ∷ []);
}

-- a SID of a domain, with and without that domain
admins : Descriptor
admins = record {
  control = 0x8000;
  rm = 0;
  owner = Some (record { authority = 5; subs = 21 ∷ 1 ∷ 2 ∷ 3 ∷ 512 ∷ [] });
  group = None;
  sacl = acl.Absent;
  dacl = acl.Absent;
}

domain : Option SecurityId
domain = Some (record { authority = 5; subs = 21 ∷ 1 ∷ 2 ∷ 3 ∷ [] })

-- a null SACL with all three flags, and every other bit
null_sacl : Descriptor
null_sacl = record { control = 0xffff; rm = 0xab; owner = None; group = None; sacl = acl.Null; dacl = acl.Absent }

shared_text_and_more : record {
  shared_text : sddl named shared ≡ codes "O:BAG:SYD:(A;;FA;;;WD)";
  -- no part at all
  bare_text : sddl named
      (record { control = 0x8000; rm = 7; owner = None; group = None; sacl = acl.Absent; dacl = acl.Absent }) ≡ [];
  -- a null DACL with all three flags
  null_text : sddl named
      (record { control = 0x9504; rm = 0; owner = None; group = None; sacl = acl.Absent; dacl = acl.Null })
      ≡ codes "D:PARAINO_ACCESS_CONTROL";
  admins_text : sddl named admins ≡ codes "O:S-1-5-21-1-2-3-512";
  admins_in_domain : sddl (record { domain = domain; numeric = false }) admins ≡ codes "O:DA";
  admins_in_numbers : sddl (record { domain = domain; numeric = true }) admins ≡ codes "O:S-1-5-21-1-2-3-512";
  null_sacl_text : sddl named null_sacl ≡ codes "S:PARAINO_ACCESS_CONTROL";
  -- what SDDL keeps of it: SR and SP, and PS, SC and SI
  null_sacl_is_kept : plain null_sacl
      ≡ record { control = 0xaa10; rm = 0; owner = None; group = None; sacl = acl.Null; dacl = acl.Absent };
  -- of a DACL without any: SR and DP, and PD, DC and DI
  empty_dacl_is_kept : plain (record null_sacl { sacl = acl.Absent; dacl = acl.List [] })
      ≡ record { control = 0x9504; rm = 0; owner = None; group = None; sacl = acl.Absent; dacl = acl.List [] };
  bare_is_kept : plain (record null_sacl { sacl = acl.Absent })
      ≡ record { control = 0x8000; rm = 0; owner = None; group = None; sacl = acl.Absent; dacl = acl.Absent };
}
unfolding printed named shared full_access everyone admins domain null_sacl
shared_text_and_more = search rules

-- an object ACE with either type, in a SACL that is auto-inherited, behind an empty DACL that is protected

typed : Option (List ℕ) → Option (List ℕ) → AccessControlEntry
typed object inherited = record {
  kind = kinds.ObjectAudit;
  flags = 0xd3;
  mask = 0x30;
  object = object;
  inherited = inherited;
  sid = everyone;
}

typed_text : sddl named (record {
  control = 0x9814;
  rm = 0;
  owner = None;
  group = None;
  sacl = acl.List (typed (Some user_class) None ∷ typed None (Some user_class) ∷ []);
  dacl = acl.List [];
}) ≡ codes "D:PS:AI(OU;OICIIDSAFA;RPWP;bf967aba-0de6-11d0-a285-00aa003049e2;;WD)"
    ++ codes "(OU;OICIIDSAFA;RPWP;;bf967aba-0de6-11d0-a285-00aa003049e2;WD)"
unfolding printed named typed user_class everyone by_index
typed_text = refl
