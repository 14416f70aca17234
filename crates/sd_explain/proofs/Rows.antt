-- Worked descriptors, explained.
use Rattle.std.proofs.Common.{◌≡◌, [], ◌∷◌, ◌++◌, Some, None, true, false, codes, rules}
use Rattle.uuid.specs.Text.{by_index}
use Rattle.std.specs.Fmt.{digits}
use Rattle.sd_kinds.specs.Kinds.{kind_entry, kind_letters}
use Rattle.sd_ace.specs.Ace.{AccessControlEntry}
use Rattle.sd_kinds.specs.Flags.{flags_text}
use Rattle.sd_ace.specs.GuidText.{guid_text}
use Rattle.sd_ace.proofs.laws.WorkedGuids.{other_class, user_class}
use Rattle.sd_rights.specs.Rights.{rights_text}
use Rattle.sd_sid.specs.Sid.{SecurityId}
use Rattle.sd_sid.specs.SidText.{alias_of}
use Rattle.sd_kinds.specs.declared.kinds.AceKind.TheVariants as kinds
use Rattle.sd_sid.specs.declared.naming.Naming.{Naming}
use Rattle.sd_sid.proofs.laws.Everyone.{everyone}
use Rattle.sd_view.specs.Descriptor.{Descriptor}
use Rattle.sd_view.specs.declared.acl_part.AclPart.TheVariants as acl
use Rattle.sd_explain.specs.Explain.{ace_head, ace_line, ace_rights, ace_trustee, control_line, count_line, explain}
use Rattle.sd_explain.specs.Explain.{rm_line, sid_line, sid_words}

-- `unfolding explained` lets `refl` compute a row
explained : Unit {0}
unfolding kind_entry kind_letters explain control_line rm_line sid_line sid_words count_line ace_line ace_head
    ace_rights ace_trustee alias_of flags_text rights_text guid_text digits
explained = tt

named : Naming
named = record { domain = None; numeric = false }

full_access : AccessControlEntry
full_access = record { kind = kinds.Allow; flags = 0; mask = 0x1f01ff; object = None; inherited = None; sid = everyone }

shared : Descriptor
shared = record {
  control = 0x8004;
  rm = 0;
  owner = Some (record { authority = 5; subs = 32 ∷ 544 ∷ [] });
  group = Some (record { authority = 5; subs = 18 ∷ [] });
  sacl = acl.Absent;
  dacl = acl.List (full_access ∷ []);
}

-- bits without a code, and no part at all
bare : Descriptor
bare = record { control = 0x80c0; rm = 0xff; owner = None; group = None; sacl = acl.Absent; dacl = acl.Absent }

-- every bit, and null ACLs
full : Descriptor
full = record { control = 0xffff; rm = 0x0a; owner = None; group = None; sacl = acl.Null; dacl = acl.Null }

-- a label with all of its rights, as the 4,095th ACE of a SACL
high : SecurityId
high = record { authority = 16; subs = 12288 ∷ [] }

no_access : AccessControlEntry
no_access = record { kind = kinds.Label; flags = 0xdf; mask = 7; object = None; inherited = None; sid = high }

-- both types of an object ACE
typed : AccessControlEntry
typed = record {
  kind = kinds.ObjectDeny;
  flags = 2;
  mask = 0x10;
  object = Some user_class;
  inherited = Some other_class;
  sid = everyone;
}

shared_lines_and_more : record {
  shared_lines : explain named shared
      ≡ codes "control 0x8004 DP SR\nrm 0x00\nowner S-1-5-32-544 BA\ngroup S-1-5-18 SY\ndacl list 1\n"
      ++ codes "dacl 1 A flags none mask 0x001f01ff rights FA sid S-1-1-0 WD\nsacl absent\nend\n";
  bare_lines : explain named bare
      ≡ codes "control 0x80c0 SR\nrm 0xff\nowner none\ngroup none\ndacl absent\nsacl absent\nend\n";
  full_control : explain named full
      ≡ codes "control 0xffff OD GD DP DD SP SD DC SC DI SI PD PS RM SR\nrm 0x0a\n"
      ++ codes "owner none\ngroup none\ndacl null\nsacl null\nend\n";
  -- numbers alone, and an empty mask
  numbered : ace_line (record { domain = None; numeric = true }) (codes "dacl ") 1 (record full_access { mask = 0 })
      ≡ codes "dacl 1 A flags none mask 0x00000000 rights 0x0 sid S-1-1-0\n";
  label : ace_line named (codes "sacl ") 4095 no_access
      ≡ codes "sacl 4095 ML flags OICINPIOIDSAFA mask 0x00000007 rights NWNRNX sid S-1-16-12288 HI\n";
  typed_line : ace_line named (codes "dacl ") 10 typed
      ≡ codes "dacl 10 OD flags CI mask 0x00000010 rights RP object bf967aba-0de6-11d0-a285-00aa003049e2"
      ++ codes " inherited 10111213-2021-3031-0102-030405060708 sid S-1-1-0 WD\n";
}
unfolding explained named shared full_access everyone bare full no_access high by_index typed user_class other_class
shared_lines_and_more = search rules

-- ---- a domain

-- S-1-5-21-1-2-3, with its administrators and its users
a_domain : SecurityId
a_domain = record { authority = 5; subs = 21 ∷ 1 ∷ 2 ∷ 3 ∷ [] }

domain_admins : SecurityId
domain_admins = record { authority = 5; subs = 21 ∷ 1 ∷ 2 ∷ 3 ∷ 512 ∷ [] }

domain_users : SecurityId
domain_users = record { authority = 5; subs = 21 ∷ 1 ∷ 2 ∷ 3 ∷ 513 ∷ [] }

-- of the owner, of the group and of the ACEs of both ACLs
in_a_domain : Descriptor
in_a_domain = record {
  control = 0x8014;
  rm = 0;
  owner = Some domain_admins;
  group = Some domain_users;
  sacl = acl.List (record full_access { kind = kinds.Audit; flags = 0x40; sid = domain_users } ∷ []);
  dacl = acl.List (record full_access { sid = domain_admins } ∷ []);
}

words_of_admins_and_more : record {
  -- an alias of a domain is printed under that domain alone, and not where numbers alone are asked for
  words_of_admins : sid_words (record { domain = Some a_domain; numeric = false }) domain_admins
      ∷ sid_words (record { domain = Some a_domain; numeric = true }) domain_admins
      ∷ sid_words (record { domain = None; numeric = false }) domain_admins
      ∷ sid_words (record { domain = Some domain_users; numeric = false }) domain_admins ∷ []
      ≡ codes "S-1-5-21-1-2-3-512 DA" ∷ codes "S-1-5-21-1-2-3-512" ∷ codes "S-1-5-21-1-2-3-512"
      ∷ codes "S-1-5-21-1-2-3-512" ∷ [];
  lines_of_a_domain : explain (record { domain = Some a_domain; numeric = false }) in_a_domain
      ≡ codes "control 0x8014 DP SP SR\nrm 0x00\nowner S-1-5-21-1-2-3-512 DA\n"
      ++ codes "group S-1-5-21-1-2-3-513 DU\ndacl list 1\n"
      ++ codes "dacl 1 A flags none mask 0x001f01ff rights FA sid S-1-5-21-1-2-3-512 DA\nsacl list 1\n"
      ++ codes "sacl 1 AU flags SA mask 0x001f01ff rights FA sid S-1-5-21-1-2-3-513 DU\nend\n";
}
unfolding explained a_domain domain_admins domain_users in_a_domain full_access
words_of_admins_and_more = search rules
