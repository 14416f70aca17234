-- Worked rows, computed: verdicts and the ACEs that they need.
use Rattle.std.proofs.Common.{◌≡◌, ℕ, Bool, true, false, List, [], ◌∷◌, map, Option, Some, None, refl, arith, rules}
use Rattle.sd_ace.specs.Ace.{AccessControlEntry}
use Rattle.sd_rights.specs.Mapping.{GenericMapping, mapped}
use Rattle.sd_sid.specs.Sid.{SecurityId}
use Rattle.sd_sid.proofs.laws.Everyone.{everyone}
use Rattle.sd_token.specs.Token.{Entry, Holder}
use Rattle.sd_kinds.specs.declared.kinds.AceKind.{AceKind}
use Rattle.sd_kinds.specs.declared.kinds.AceKind.TheVariants as kinds
use Rattle.sd_token.specs.declared.token.EntryKind.TheVariants.{DenyOnly, Enabled}
use Rattle.sd_view.specs.Descriptor.{Descriptor}
use Rattle.sd_view.specs.declared.acl_part.AclPart.{AclPart}
use Rattle.sd_view.specs.declared.acl_part.AclPart.TheVariants as acl
use Rattle.sd_check.specs.Applies.{applies}
use Rattle.sd_check.specs.Ask.{AreRights, Asked, ask_fault, asks_maximum, wanted_of}
use Rattle.sd_check.specs.Granted.{granted}
use Rattle.sd_check.specs.Need.{all_below, check_bound, least, need, owner_matters}
use Rattle.sd_check.specs.Reasons.{grants, reason_of, reasons, reasons_need}
use Rattle.sd_check.specs.Verdict.{missing, rights_below, verdict, won}
use Rattle.sd_check.specs.declared.ask.AskFault.TheVariants.{EmptyRequest, ReservedBits}
use Rattle.sd_check.specs.declared.reason.Reason.{Reason}
use Rattle.sd_check.specs.declared.reason.Reason.TheVariants as reason
use Rattle.sd_check.specs.declared.verdict.Verdict.{Verdict}
use Rattle.sd_check.specs.declared.verdict.Verdict.TheVariants.{Denied, Granted}

-- `unfolding computed` lets `refl` compute a row
computed : Unit {0}
unfolding mapped applies granted missing won verdict rights_below all_below least need reason_of reasons reasons_need
computed = tt

-- S-1-3-4 and S-1-5-10 (MS-DTYP 2.4.2.4)
owner_rights : SecurityId
owner_rights = record { authority = 3; subs = 4 ∷ [] }

principal_self : SecurityId
principal_self = record { authority = 5; subs = 10 ∷ [] }

administrators : SecurityId
administrators = record { authority = 5; subs = 32 ∷ 544 ∷ [] }

user : SecurityId
user = record { authority = 5; subs = 21 ∷ 1 ∷ 2 ∷ 3 ∷ 1001 ∷ [] }

-- an ACE without an object type
ace : AceKind → ℕ → ℕ → SecurityId → AccessControlEntry
ace kind flags mask sid = record { kind = kind; flags = flags; mask = mask; object = None; inherited = None; sid = sid }

descriptor : Option SecurityId → AclPart → Descriptor
descriptor owner dacl = record { control = 0x8004; rm = 0; owner = owner; group = None; sacl = acl.Absent; dacl = dacl }

-- the generic rights of files
files : GenericMapping
files = record { read = 0x120089; write = 0x120116; execute = 0x1200a0; all = 0x1f01ff }

asked : ℕ → Bool → Asked
asked wanted maximum = record {
  wanted = wanted_of files wanted;
  maximum = maximum;
  mapping = files;
  object = None;
  principal_self = None;
  security = false;
  take_ownership = false;
}

-- who holds these entries, and no level
held : List Entry → Holder
held entries = record { entries = entries; level = None }

two_entries : List Entry
two_entries = (administrators, DenyOnly) ∷ (everyone, Enabled) ∷ []

-- the label of a file that grants all to everyone, at a level
at_level : List AccessControlEntry → ℕ → Verdict
at_level labels level = verdict (record (descriptor None (acl.List (ace kinds.Allow 0 0x1f01ff everyone ∷ []))) {
  sacl = acl.List labels;
}) (record { entries = (everyone, Enabled) ∷ []; level = Some level }) (asked 0 true)

-- the SID of a level
level_sid : ℕ → SecurityId
level_sid level = record { authority = 16; subs = level ∷ [] }

-- the null DACL of an object of high integrity
null_dacl_under_a_label : verdict (record (descriptor None acl.Null) {
  sacl = acl.List (ace kinds.Label 0 1 (level_sid 12288) ∷ []);
}) (record { entries = (everyone, Enabled) ∷ []; level = Some 8192 }) (asked 0 true) ≡ Granted 0x1200a9
unfolding computed everyone ace descriptor files asked level_sid
null_dacl_under_a_label = refl

deny_only_and_more : record {
  -- a deny-only entry does not allow
  deny_only : verdict (descriptor None (acl.List (ace kinds.Allow 0 0x1f01ff administrators ∷ [])))
      (held ((user, Enabled) ∷ (administrators, DenyOnly) ∷ [])) (asked 0x120089 false) ≡ Denied 0x120089;
  denied_first : verdict (descriptor None (acl.List
      (ace kinds.Deny 0 0x120116 administrators ∷ ace kinds.Allow 0 0x1f01ff everyone ∷ [])))
      (held two_entries) (asked 0 true) ≡ Granted 0xd00e9;
  allowed_first : verdict (descriptor None (acl.List
      (ace kinds.Allow 0 0x1f01ff everyone ∷ ace kinds.Deny 0 0x120116 administrators ∷ [])))
      (held two_entries) (asked 0 true) ≡ Granted 0x1f01ff;
  owner_reads_and_writes_the_dacl : verdict (descriptor (Some user) (acl.List []))
      (held ((user, Enabled) ∷ [])) (asked 0x60000 false) ≡ Granted 0x60000;
  owner_rights_bind : verdict (descriptor (Some user) (acl.List (ace kinds.Allow 0 0x20000 owner_rights ∷ [])))
      (held ((user, Enabled) ∷ [])) (asked 0 true) ≡ Granted 0x20000;
  -- inherited only
  owner_rights_pass : verdict (descriptor (Some user) (acl.List (ace kinds.Allow 0xa 0x1 owner_rights ∷ [])))
      (held ((user, Enabled) ∷ [])) (asked 0x60001 false) ≡ Denied 0x1;
  all_that_are_missing : verdict (descriptor None (acl.List
      (ace kinds.Deny 0 0x1 everyone ∷ ace kinds.Deny 0 0x2 everyone ∷ [])))
      (held ((everyone, Enabled) ∷ [])) (asked 0x3 false) ≡ Denied 0x3;
  null_dacl : verdict (descriptor None acl.Null) (held ((everyone, Enabled) ∷ [])) (asked 0 true) ≡ Granted 0x1f01ff;
  no_system_security : verdict (descriptor None acl.Null) (held ((everyone, Enabled) ∷ [])) (asked 0x1000000 false)
      ≡ Denied 0x1000000;
  empty_dacl : verdict (descriptor None (acl.List [])) (held ((everyone, Enabled) ∷ [])) (asked 0 true) ≡ Denied 0;
  -- by itself, without a SID that it stands for
  self_is_itself : verdict (descriptor None (acl.List (ace kinds.Allow 0 0x1 principal_self ∷ [])))
      (held ((principal_self, Enabled) ∷ [])) (asked 0x1 false) ≡ Granted 0x1;
  one_ace_is_enough : need (descriptor None (acl.List
      (ace kinds.Allow 0 0x1f01ff everyone ∷ ace kinds.Allow 0 0x1f01ff administrators ∷ [])))
      ((everyone, Enabled) ∷ []) (asked 0x120089 false) ≡ 1;
  no_ace_is_enough : need (descriptor None (acl.List
      (ace kinds.Allow 0 0x1f01ff administrators ∷ ace kinds.Allow 0 0x1 administrators ∷ [])))
      ((everyone, Enabled) ∷ []) (asked 0x120089 false) ≡ 2;
  empty_request : ask_fault 0 false ≡ Some EmptyRequest;
  reserved_bits : ask_fault 0x4000000 false ≡ Some ReservedBits;
  maximum_allowed : ask_fault 0x2000000 false ≡ None;
  not_written_from_below : at_level (ace kinds.Label 0 1 (level_sid 12288) ∷ []) 8192 ≡ Granted 0x1200a9;
  equal_level : at_level (ace kinds.Label 0 1 (level_sid 12288) ∷ []) 12288 ≡ Granted 0x1f01ff;
  no_label : at_level [] 4096 ≡ Granted 0x1200a9;
  only_write_is_left : at_level (ace kinds.Label 0 6 (level_sid 12288) ∷ []) 8192 ≡ Granted 0x120116;
  empty_policy : at_level (ace kinds.Label 0 0 (level_sid 12288) ∷ []) 8192 ≡ Granted 0x1201bf;
  nothing_is_left : at_level (ace kinds.Label 0 7 (level_sid 12288) ∷ []) 8192 ≡ Denied 0;
  inherit_only_label : at_level
      (ace kinds.Label 8 1 (level_sid 16384) ∷ ace kinds.Label 0 4 (level_sid 4096) ∷ []) 8192 ≡ Granted 0x1f01ff;
}
unfolding computed everyone administrators user ace descriptor files asked held two_entries owner_rights principal_self
    at_level level_sid
deny_only_and_more = search rules

-- 8192, medium, where there is no label, and NW (MS-DTYP 2.4.4.13)

below_medium_and_more : record {
  below_medium : at_level [] 8191 ≡ Granted 0x1200a9;
  medium : at_level [] 8192 ≡ Granted 0x1f01ff;
}
unfolding computed everyone ace descriptor files asked at_level level_sid
below_medium_and_more = search rules

-- what is no label decides nothing: two numbers, none, another authority, an audit ACE

two_numbers_and_more : record {
  two_numbers : at_level (ace kinds.Label 0 1 (record { authority = 16; subs = 12288 ∷ 0 ∷ [] }) ∷ []) 8192
      ≡ Granted 0x1f01ff;
  no_number : at_level (ace kinds.Label 0 1 (record { authority = 16; subs = [] }) ∷ []) 8192 ≡ Granted 0x1f01ff;
  other_authority : at_level (ace kinds.Label 0 1 (record { authority = 15; subs = 12288 ∷ [] })
      ∷ ace kinds.Label 0 1 (record { authority = 17; subs = 12288 ∷ [] }) ∷ []) 8192 ≡ Granted 0x1f01ff;
  audit_of_a_level : at_level (ace kinds.Audit 0 1 (level_sid 12288) ∷ []) 8192 ≡ Granted 0x1f01ff;
  -- the first label counts, whatever its other flags
  first_label : at_level (ace kinds.Label 0xd7 1 (level_sid 12288) ∷ ace kinds.Label 0 7 (level_sid 16384) ∷ []) 8192
      ≡ Granted 0x1200a9;
  first_label_is_lower : at_level (ace kinds.Label 0 7 (level_sid 4096) ∷ ace kinds.Label 0 7 (level_sid 16384) ∷ [])
      4096 ≡ Granted 0x1f01ff;
}
unfolding computed everyone ace descriptor files asked at_level level_sid
two_numbers_and_more = search rules

-- each bit of the policy by itself: no read up, no execute up; further bits of the mask say nothing

no_read_up_alone_and_more : record {
  no_read_up_alone : at_level (ace kinds.Label 0 2 (level_sid 12288) ∷ []) 8192 ≡ Granted 0x1201b6;
  no_execute_up_alone : at_level (ace kinds.Label 0 4 (level_sid 12288) ∷ []) 8192 ≡ Granted 0x12019f;
  further_bits : at_level (ace kinds.Label 0 9 (level_sid 12288) ∷ []) 8192 ≡ Granted 0x1200a9;
  one_level_below : at_level (ace kinds.Label 0 7 (level_sid 12288) ∷ []) 12287 ≡ Denied 0;
}
unfolding computed everyone ace descriptor files asked at_level level_sid
no_read_up_alone_and_more = search rules

-- what one asks of a descriptor, with the token of everyone

of_everyone : Descriptor → Asked → Verdict
of_everyone d ask = verdict d (held ((everyone, Enabled) ∷ [])) ask

to_everyone : List AccessControlEntry → Asked → Verdict
to_everyone aces ask = of_everyone (descriptor None (acl.List aces)) ask

-- generic rights mean those of files, in an ACE and in what is asked

generic_rows : record {
  generic_read_in_an_ace : to_everyone (ace kinds.Allow 0 0x80000000 everyone ∷ []) (asked 0 true) ≡ Granted 0x120089;
  generic_write_in_an_ace : to_everyone (ace kinds.Allow 0 0x40000000 everyone ∷ []) (asked 0 true) ≡ Granted 0x120116;
  generic_execute_in_an_ace : to_everyone (ace kinds.Allow 0 0x20000000 everyone ∷ []) (asked 0 true)
      ≡ Granted 0x1200a0;
  generic_all_is_asked : to_everyone (ace kinds.Allow 0 0x1f01fe everyone ∷ []) (asked 0x10000000 false) ≡ Denied 0x1;
}
unfolding computed everyone ace descriptor files asked held of_everyone to_everyone
generic_rows = search rules

-- the two privileges: right 24 by the one alone, WRITE_OWNER by the other, and nothing else by either

privileged : Asked → Asked
privileged ask = record ask { security = true; take_ownership = true }

two_privileges : record {
  security_privilege : to_everyone [] (privileged (asked 0x1000000 false)) ≡ Granted 0x1000000;
  security_is_no_maximum : of_everyone (descriptor None acl.Null) (privileged (asked 0 true)) ≡ Granted 0x1f01ff;
  take_ownership_privilege : to_everyone [] (privileged (asked 0 true)) ≡ Granted 0x80000;
  no_other_right : to_everyone [] (privileged (asked 0x1f0000 false)) ≡ Denied 0x170000;
  no_privilege : to_everyone (ace kinds.Allow 0 0x1f01ff administrators ∷ []) (asked 0x80000 false) ≡ Denied 0x80000;
  -- right 24 in an ACE grants nothing
  system_security_in_an_ace : to_everyone (ace kinds.Allow 0 0x1000000 everyone ∷ []) (asked 0x1000000 false)
      ≡ Denied 0x1000000;
}
unfolding computed everyone ace descriptor files asked held of_everyone to_everyone privileged administrators
two_privileges = search rules

-- the owner: deny-only is not enough; an audit ACE for OWNER RIGHTS takes nothing, and one of an object type does

object_type : List ℕ
object_type = 0xba ∷ 0x7a ∷ 0x96 ∷ 0xbf ∷ 0xe6 ∷ 0x0d ∷ 0xd0 ∷ 0x11 ∷ 0xa2 ∷ 0x85 ∷ 0 ∷ 0xaa ∷ 0 ∷ 0x30 ∷ 0x49 ∷ 0xe2
    ∷ []

-- an ACE of that type
typed : AceKind → ℕ → SecurityId → AccessControlEntry
typed kind mask sid = record (ace kind 0 mask sid) { object = Some object_type }

owner_is_deny_only_and_more : record {
  owner_is_deny_only : verdict (descriptor (Some user) (acl.List [])) (held ((user, DenyOnly)
      ∷ [])) (asked 0x20000 false)
      ≡ Denied 0x20000;
  owner_has_no_more : verdict (descriptor (Some user) (acl.List [])) (held ((user, Enabled) ∷ [])) (asked 0xf0000 false)
      ≡ Denied 0x90000;
  audit_of_owner_rights : verdict (descriptor (Some user) (acl.List (ace kinds.Audit 0 0x20000 owner_rights ∷ [])))
      (held ((user, Enabled) ∷ [])) (asked 0x60000 false) ≡ Granted 0x60000;
  denied_owner_rights : verdict (descriptor (Some user) (acl.List (ace kinds.Deny 0 0x1 owner_rights ∷ [])))
      (held ((user, Enabled) ∷ [])) (asked 0x60001 false) ≡ Denied 0x60001;
  object_of_owner_rights : verdict (descriptor (Some user)
      (acl.List (typed kinds.ObjectAllow 0x100 owner_rights ∷ []))) (held ((user, Enabled) ∷ [])) (asked 0x20000 false)
      ≡ Denied 0x20000;
  -- without an owner, OWNER RIGHTS is nobody, also for a token that lists it
  nobodys_rights : verdict (descriptor None (acl.List (ace kinds.Allow 0 0x1 owner_rights ∷ [])))
      (held ((owner_rights, Enabled) ∷ [])) (asked 0x1 false) ≡ Denied 0x1;
}
unfolding computed user descriptor files asked held owner_rights ace object_type typed
owner_is_deny_only_and_more = search rules

-- object types: of none, of the one that is asked for, and of another; the inherited one is not looked at

of_type : Asked → Asked
of_type ask = record ask { object = Some object_type }

object_types : record {
  object_ace_without_a_type : to_everyone (ace kinds.ObjectAllow 0 0x100 everyone ∷ []) (asked 0x100 false)
      ≡ Granted 0x100;
  type_is_not_asked : to_everyone (typed kinds.ObjectAllow 0x100 everyone ∷ []) (asked 0x100 false) ≡ Denied 0x100;
  type_is_asked : to_everyone (typed kinds.ObjectAllow 0x100 everyone ∷ []) (of_type (asked 0x100 false))
      ≡ Granted 0x100;
  type_is_denied : to_everyone (typed kinds.ObjectDeny 0x100 everyone ∷ ace kinds.Allow 0 0x1f01ff everyone ∷ [])
      (of_type (asked 0x101 false)) ≡ Denied 0x100;
}
unfolding computed everyone ace descriptor files asked held of_everyone to_everyone object_type typed of_type
object_types = search rules

-- another one in its first byte, or in its last

other_types : List (List ℕ)
other_types =
    (0xbb ∷ 0x7a ∷ 0x96 ∷ 0xbf ∷ 0xe6 ∷ 0x0d ∷ 0xd0 ∷ 0x11 ∷ 0xa2 ∷ 0x85 ∷ 0 ∷ 0xaa ∷ 0 ∷ 0x30 ∷ 0x49 ∷ 0xe2 ∷ [])
    ∷ (0xba ∷ 0x7a ∷ 0x96 ∷ 0xbf ∷ 0xe6 ∷ 0x0d ∷ 0xd0 ∷ 0x11 ∷ 0xa2 ∷ 0x85 ∷ 0 ∷ 0xaa ∷ 0 ∷ 0x30 ∷ 0x49 ∷ 0xe3 ∷ [])
    ∷ []

another_type_is_asked_and_more : record {
  another_type_is_asked : map (λ other. to_everyone (typed kinds.ObjectAllow 0x100 everyone ∷ [])
      (record (asked 0x100 false) { object = Some other })) other_types ≡ Denied 0x100 ∷ Denied 0x100 ∷ [];
  another_type_is_denied : map (λ other. to_everyone
      (typed kinds.ObjectDeny 0x100 everyone ∷ ace kinds.Allow 0 0x1f01ff everyone ∷ [])
      (record (asked 0x100 false) { object = Some other })) other_types ≡ Granted 0x100 ∷ Granted 0x100 ∷ [];
  inherited_type : to_everyone
      (record (ace kinds.ObjectAllow 0 0x100 everyone) { inherited = Some object_type } ∷ []) (asked 0x100 false)
      ≡ Granted 0x100;
}
unfolding computed everyone ace descriptor files asked held of_everyone to_everyone object_type typed other_types
another_type_is_asked_and_more = search rules

-- PRINCIPAL SELF is replaced once

self_is_rows : record {
  self_is_the_user : verdict (descriptor None (acl.List (ace kinds.Allow 0 0x1 principal_self ∷ [])))
      (held ((user, Enabled) ∷ [])) (record (asked 0x1 false) { principal_self = Some user }) ≡ Granted 0x1;
  self_is_owner_rights : verdict (descriptor (Some user) (acl.List (ace kinds.Allow 0 0x1 principal_self ∷ [])))
      (held ((user, Enabled) ∷ [])) (record (asked 0x1 false) { principal_self = Some owner_rights }) ≡ Denied 0x1;
}
unfolding computed principal_self user ace descriptor files asked held owner_rights
self_is_rows = search rules

-- an ACE that is inherit-only does not apply; one with any other flag does

inherit_only_and_more : record {
  inherit_only : to_everyone (ace kinds.Allow 0x8 0x1 everyone ∷ []) (asked 0x1 false) ≡ Denied 0x1;
  other_flags : to_everyone (ace kinds.Allow 0xd7 0x1 everyone ∷ []) (asked 0x1 false) ≡ Granted 0x1;
  -- audit ACEs and labels of the DACL decide nothing
  no_access_kind : to_everyone (ace kinds.Audit 0 0x1 everyone ∷ ace kinds.ObjectAudit 0 0x1 everyone
      ∷ ace kinds.Label 0 0x1 everyone ∷ []) (asked 0x1 false) ≡ Denied 0x1;
  absent_dacl : of_everyone (descriptor None acl.Absent) (asked 0 true) ≡ Granted 0x1f01ff;
  second_reserved_bit : ask_fault 0x8000000 true ≡ Some ReservedBits;
  generic_all_is_not_reserved : ask_fault 0x10000000 false ≡ None;
}
unfolding computed everyone ace descriptor files asked held of_everyone to_everyone
inherit_only_and_more = search rules

-- ACCESS_SYSTEM_SECURITY is the last right, and bit 25 asks for the maximum

bit_25 : (asks_maximum 0x2000000 ≡ true) × (asks_maximum 0xfdffffff ≡ false)
bit_25 = (refl, refl)

every_right : AreRights (record (asked 0 false) {
  wanted = 0x1ffffff;
  mapping = record { read = 0; write = 0; execute = 0; all = 0x1ffffff };
})
unfolding asked
every_right = record { wanted = omega arith; all = omega arith }

one_more_is_wanted : AreRights (record (asked 0 false) { wanted = 0x2000000 }) → ⊥
unfolding asked
one_more_is_wanted h = let more = h.wanted in omega arith

one_more_of_all : AreRights (record (asked 0 false) {
  mapping = record { read = 0; write = 0; execute = 0; all = 0x2000000 };
}) → ⊥
unfolding asked
one_more_of_all h = let more = h.all in omega arith

wanted_rights_and_more : record {
  wanted_rights : wanted_of files 0x83000001 ∷ wanted_of files 0x2000000 ∷ [] ≡ 0x1120089 ∷ 0 ∷ [];
  -- a deny-only entry denies, by an object ACE too, and does not allow
  deny_only_by_an_object_ace : verdict (descriptor None (acl.List
      (ace kinds.ObjectDeny 0 0x1 administrators ∷ ace kinds.ObjectAllow 0 0x2 administrators
      ∷ ace kinds.Allow 0 0x1 everyone ∷ []))) (held two_entries) (asked 0x3 false) ≡ Denied 0x3;
}
unfolding computed files everyone administrators ace descriptor asked two_entries held
wanted_rights_and_more = search rules

-- how much is compared: each ACE and the owner with each entry

bounds : check_bound (descriptor None (acl.List (ace kinds.Allow 0 1 everyone ∷ ace kinds.Audit 0 1 user ∷ []))) 3
    ∷ check_bound (descriptor None acl.Null) 3 ∷ check_bound (descriptor None acl.Absent) 3 ∷ [] ≡ 9 ∷ 3 ∷ 3 ∷ []
unfolding everyone user ace descriptor
bounds = refl

-- who the owner is matters for READ_CONTROL and WRITE_DAC alone, and not to a DACL that grants all

owners_rights : owner_matters (descriptor None (acl.List [])) (asked 0x20000 false)
    ∷ owner_matters (descriptor None (acl.List [])) (asked 0x40000 false)
    ∷ owner_matters (descriptor None (acl.List [])) (asked 0x1f9ffff false)
    ∷ owner_matters (descriptor None (acl.List [])) (asked 0 true)
    ∷ owner_matters (descriptor None acl.Null) (asked 0x60000 false) ∷ [] ≡ true ∷ true ∷ false ∷ true ∷ false ∷ []
unfolding computed descriptor files asked
owners_rights = refl

-- what needs no ACE: right 24, the owner's rights, and all of a null DACL

of_the_user : ℕ → ℕ
of_the_user wanted = need (descriptor (Some user) (acl.List (ace kinds.Allow 0 0x80000 everyone ∷ [])))
    ((user, Enabled) ∷ (everyone, Enabled) ∷ []) (asked wanted false)

needs : of_the_user 0x1000000 ∷ of_the_user 0x60000 ∷ of_the_user 0x80000 ∷ [] ≡ 0 ∷ 0 ∷ 1 ∷ []
unfolding computed everyone user ace descriptor files asked of_the_user
needs = refl

-- the maximum may be asked for alone
maximum_alone : (ask_fault 0 true ≡ None) × (ask_fault 0x10000 true ≡ None)
maximum_alone = (refl, refl)

-- each privilege by itself grants its own right

by_and_more : record {
  by_security : to_everyone [] (record (asked 0x1080000 false) { security = true }) ≡ Denied 0x80000;
  by_take_ownership : to_everyone [] (record (asked 0x1080000 false) { take_ownership = true }) ≡ Denied 0x1000000;
}
unfolding computed everyone ace descriptor files asked held of_everyone to_everyone
by_and_more = search rules

-- with the maximum, the rights of generic all are in question, and no others

with_all : ℕ → Asked
with_all all = record (asked 0 true) { mapping = record { read = 0x20000; write = 0x40000; execute = 0x1; all = all } }

maximum_in_question : map (λ all. owner_matters (descriptor None (acl.List [])) (with_all all))
    (0x20000 ∷ 0x40000 ∷ 0x9ffff ∷ []) ≡ true ∷ true ∷ false ∷ []
unfolding computed descriptor files asked with_all
maximum_in_question = refl

-- why the user, who is the owner, has some rights or not

of_user : List AccessControlEntry → AclPart → Descriptor
of_user labels dacl = record (descriptor (Some user) dacl) { sacl = acl.List labels }

user_at : Option ℕ → Holder
user_at level = record { entries = (user, Enabled) ∷ (everyone, Enabled) ∷ []; level = level }

why : AclPart → List ℕ → List Reason
why dacl rights = map (λ right. reason_of right (of_user [] dacl) (user_at None) (asked 0x4 false)) rights

-- places count all ACEs: one that audits, one for heirs alone, one for somebody else
five_aces : List AccessControlEntry
five_aces = ace kinds.Audit 0 0x1 everyone ∷ ace kinds.Allow 8 0x1 everyone ∷ ace kinds.Allow 0 0x1 administrators
    ∷ ace kinds.Deny 0 0x1 everyone ∷ ace kinds.Allow 0 0x3 everyone ∷ []

without_a_dacl : (why acl.Null (0 ∷ 17 ∷ 23 ∷ 24 ∷ [])
    ≡ reason.NoDacl ∷ reason.NoDacl ∷ reason.NoDacl ∷ reason.Nothing ∷ [])
    × (why acl.Absent (0 ∷ 19 ∷ 24 ∷ []) ≡ reason.NoDacl ∷ reason.NoDacl ∷ reason.Nothing ∷ [])
unfolding computed everyone user descriptor files asked of_user user_at why
without_a_dacl = (refl, refl)

with_privileges : AclPart → List ℕ → List Reason
with_privileges dacl rights =
    map (λ right. reason_of right (of_user [] dacl) (user_at None) (privileged (asked 0x4 false))) rights

by_privilege : (with_privileges (acl.List (ace kinds.Deny 0 0x10f0000 everyone ∷ [])) (16 ∷ 18 ∷ 19 ∷ 24 ∷ [])
    ≡ reason.Denied 0 ∷ reason.Owner ∷ reason.Privilege ∷ reason.Privilege ∷ [])
    × (with_privileges acl.Null (19 ∷ 24 ∷ []) ≡ reason.NoDacl ∷ reason.Privilege ∷ [])
unfolding computed everyone user ace descriptor files asked of_user user_at privileged with_privileges
by_privilege = (refl, refl)

why_the_user : record {
  first_that_applies : why (acl.List five_aces) (0 ∷ 1 ∷ 2 ∷ [])
      ≡ reason.Denied 3 ∷ reason.Granted 4 ∷ reason.Nothing ∷ [];
  -- generic read has the rights 0, 3 and 7, and not 1
  generic_right_decides : why (acl.List (ace kinds.Deny 0 0x80000000 everyone ∷ ace kinds.Allow 0 0x3 everyone ∷ []))
      (0 ∷ 1 ∷ 3 ∷ 7 ∷ []) ≡ reason.Denied 0 ∷ reason.Granted 1 ∷ reason.Denied 0 ∷ reason.Denied 0 ∷ [];
  -- an owner has two rights, also if an ACE denies them
  owner_comes_first : why (acl.List (ace kinds.Deny 0 0xe0000 everyone ∷ [])) (17 ∷ 18 ∷ 19 ∷ [])
      ≡ reason.Owner ∷ reason.Owner ∷ reason.Denied 0 ∷ [];
  owner_is_bound : why (acl.List (ace kinds.Allow 0 0x20000 owner_rights ∷ [])) (17 ∷ 18 ∷ [])
      ≡ reason.Granted 0 ∷ reason.Nothing ∷ [];
  no_ace_grants_right_24 : why (acl.List (ace kinds.Allow 0 0x1080000 everyone ∷ [])) (16 ∷ 19 ∷ 24 ∷ [])
      ≡ reason.Nothing ∷ reason.Granted 0 ∷ reason.Nothing ∷ [];
}
unfolding computed everyone administrators user ace descriptor files asked of_user user_at why five_aces owner_rights
why_the_user = search rules

-- below the label: what it takes, it takes also from an owner, a privilege and a null DACL, and if nothing would grant
-- it

below : List AccessControlEntry → AclPart → List ℕ → List Reason
below labels dacl rights =
    map (λ right. reason_of right (of_user labels dacl) (user_at (Some 8191)) (privileged (asked 0x4 false))) rights

high_label : List AccessControlEntry
high_label = ace kinds.Audit 0 1 everyone ∷ ace kinds.Label 8 1 (level_sid 16384)
    ∷ ace kinds.Label 0 1 (level_sid 12288)
    ∷ ace kinds.Label 0 7 (level_sid 16384) ∷ []

label_comes_first : (below high_label acl.Null (0 ∷ 1 ∷ 17 ∷ 18 ∷ 19 ∷ 24 ∷ [])
    ≡ reason.NoDacl ∷ reason.Label (Some 2) ∷ reason.NoDacl ∷ reason.Label (Some 2) ∷ reason.Label (Some 2)
    ∷ reason.Privilege ∷ [])
    × (below high_label (acl.List []) (0 ∷ 1 ∷ 17 ∷ 18 ∷ [])
    ≡ reason.Nothing ∷ reason.Label (Some 2) ∷ reason.Owner ∷ reason.Label (Some 2) ∷ [])
unfolding computed everyone user ace descriptor files asked level_sid of_user user_at privileged below high_label
label_comes_first = (refl, refl)

-- the default label has no place, also beside labels that do not count
default_label : (below [] (acl.List (ace kinds.Allow 0 0x3 everyone ∷ [])) (0 ∷ 1 ∷ [])
    ≡ reason.Granted 0 ∷ reason.Label None ∷ [])
    × (below (ace kinds.Label 8 1 (level_sid 16384) ∷ ace kinds.Audit 0 1 (level_sid 16384) ∷ []) acl.Null (0 ∷ 1 ∷ [])
    ≡ reason.NoDacl ∷ reason.Label None ∷ [])
unfolding computed everyone user ace descriptor files asked level_sid of_user user_at privileged below
default_label = (refl, refl)

below_the_label : record {
  all_25 : reasons (of_user [] (acl.List (ace kinds.Deny 0 0x2 everyone ∷ ace kinds.Allow 0 0x1f01ff everyone ∷ [])))
      (user_at None) (asked 0 true)
      ≡ reason.Granted 1 ∷ reason.Denied 0 ∷ reason.Granted 1 ∷ reason.Granted 1 ∷ reason.Granted 1 ∷ reason.Granted 1
      ∷ reason.Granted 1 ∷ reason.Granted 1 ∷ reason.Granted 1 ∷ reason.Nothing ∷ reason.Nothing ∷ reason.Nothing
      ∷ reason.Nothing ∷ reason.Nothing ∷ reason.Nothing ∷ reason.Nothing ∷ reason.Granted 1 ∷ reason.Owner
      ∷ reason.Owner
      ∷ reason.Granted 1 ∷ reason.Granted 1 ∷ reason.Nothing ∷ reason.Nothing ∷ reason.Nothing ∷ reason.Nothing ∷ [];
  granting : map grants (reason.NoDacl ∷ reason.Owner ∷ reason.Privilege ∷ reason.Granted 0 ∷ [])
      ≡ true ∷ true ∷ true ∷ true ∷ [];
  denying : map grants (reason.Nothing ∷ reason.Label None ∷ reason.Label (Some 0) ∷ reason.Denied 0 ∷ [])
      ≡ false ∷ false ∷ false ∷ false ∷ [];
}
unfolding computed everyone user ace descriptor files asked of_user user_at
below_the_label = search rules

-- the ACEs that the reasons need: each right below 24 that is left by the label, the owner and the privilege

needed : List AccessControlEntry → AclPart → Option ℕ → ℕ
needed labels dacl level = reasons_need (of_user labels dacl) (user_at level) (privileged (asked 0x4 false))

two_aces : ℕ → AclPart
two_aces mask = acl.List (ace kinds.Deny 0 mask everyone ∷ ace kinds.Allow 0 0x1 everyone ∷ [])

reasons_needed : needed [] (two_aces 0xf1ffff) None ∷ needed [] (two_aces 0xf1fffe) None ∷ needed [] acl.Null None
    ∷ needed (ace kinds.Label 0 7 (level_sid 12288) ∷ []) (two_aces 0) (Some 8192)
    ∷ needed (ace kinds.Label 0 1 (level_sid 12288) ∷ []) (two_aces 0x1001a9) (Some 8192) ∷ []
    ≡ 1 ∷ 2 ∷ 0 ∷ 0 ∷ 1 ∷ []
unfolding computed everyone user ace descriptor files asked level_sid of_user user_at privileged needed two_aces
reasons_needed = refl
