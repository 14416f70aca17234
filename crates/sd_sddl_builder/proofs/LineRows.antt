-- Worked lines, read.
use Rattle.std.proofs.Common.{◌≡◌, ℕ, zero, suc, List, [], ◌∷◌, ◌++◌, map, replicate, Option, Some, None, codes, refl}
use Rattle.std.proofs.Common.{Result, Ok, Err, rules}
use Rattle.sd_kinds.specs.Kinds.{kind_entry, kind_letters, kind_named}
use Rattle.sd_ace.specs.Ace.{AccessControlEntry}
use Rattle.sd_kinds.specs.Flags.{flags_reads}
use Rattle.sd_ace.specs.GuidText.{guid_reads}
use Rattle.sd_text.specs.Names.{run_of}
use Rattle.sd_rights.specs.Rights.{rights_reads}
use Rattle.sd_sid.specs.Sid.{SecurityId}
use Rattle.sd_sid.specs.SidText.{has_form, letters_read, numbers_read, sid_reads}
use Rattle.sd_kinds.specs.declared.kinds.AceKind.TheVariants as kinds
use Rattle.sd_sid.specs.declared.sid_text.SidFault.TheVariants as sid_fault
use Rattle.sd_sid.proofs.laws.Everyone.{everyone}
use Rattle.sd_view.specs.Descriptor.{Descriptor}
use Rattle.sd_view.specs.declared.acl_part.AclPart.{AclPart}
use Rattle.sd_view.specs.declared.acl_part.AclPart.TheVariants as acl
use Rattle.sd_parts.specs.declared.part.Which.{Which}
use Rattle.sd_parts.specs.declared.part.Which.TheVariants as which
use Rattle.sd_sddl_builder.specs.declared.fault.SddlFault.{SddlFault}
use Rattle.sd_parts.specs.Control.{no_flags}
use Rattle.sd_sddl_fields.specs.FieldTexts.{front_reads, kind_reads, object_reads}
use Rattle.sd_sddl_builder.specs.Meaning.{Said, acl_said, ace_reads, body_reads, each, acl_part_reads, first_large}
use Rattle.sd_sddl_builder.specs.Meaning.{means, section_reads, sections_mean}
use Rattle.sd_sddl_builder.specs.Line.{Section}
use Rattle.sd_sddl_builder.specs.declared.fault.SddlFault.TheVariants as fault

-- `unfolding read` lets `refl` compute a row
read_but_guids : Unit {0}
unfolding kind_entry kind_letters kind_named means body_reads acl_part_reads ace_reads front_reads kind_reads
    object_reads flags_reads rights_reads run_of
read_but_guids = tt

read_sids : Unit {0}
unfolding sid_reads has_form letters_read numbers_read
read_sids = tt

read : Unit {0}
unfolding read_but_guids read_sids guid_reads
read = tt

full_access : AccessControlEntry
full_access = record { kind = kinds.Allow; flags = 0; mask = 0x1f01ff; object = None; inherited = None; sid = everyone }

administrators : SecurityId
administrators = record { authority = 5; subs = 32 ∷ 544 ∷ [] }

-- no part at all
pub bare : Descriptor
bare = record { control = 0x8000; rm = 0; owner = None; group = None; sacl = acl.Absent; dacl = acl.Absent }

-- a DACL alone
with_dacl : ℕ → AclPart → Descriptor
with_dacl control dacl =
    record { control = control; rm = 0; owner = None; group = None; sacl = acl.Absent; dacl = dacl }

pub blank_line : means (codes " ") None ≡ Ok bare
unfolding read bare
blank_line = refl

system : SecurityId
system = record { authority = 5; subs = 18 ∷ [] }

audit : AccessControlEntry
audit = record { kind = kinds.Audit; flags = 0xc0; mask = 0x10000000; object = None; inherited = None; sid = system }

-- an object ACE, of what its GUID reads as
object_type : List ℕ
object_type = codes "bf967aba-0de6-11d0-a285-00aa003049e2"

users : Option (List ℕ) → Option (List ℕ) → AccessControlEntry
users object inherited = record {
  kind = kinds.ObjectAllow;
  flags = 2;
  mask = 0x10;
  object = object;
  inherited = inherited;
  sid = record { authority = 5; subs = 11 ∷ [] };
}

object_ace : (g : List ℕ) → guid_reads object_type ≡ Some g
    → means (codes "D:(OA;CI;RP;bf967aba-0de6-11d0-a285-00aa003049e2;;AU)") None
    ≡ Ok (with_dacl 0x8004 (acl.List (users (Some g) None ∷ [])))
unfolding read_but_guids read_sids object_type users with_dacl
object_ace g h = rw h refl

inherited_object : (g : List ℕ) → guid_reads object_type ≡ Some g
    → ace_reads None (codes "OA" ∷ codes "CI" ∷ codes "RP" ∷ [] ∷ object_type ∷ codes "AU" ∷ [])
    ≡ Ok (users None (Some g))
unfolding read_but_guids read_sids object_type users
inherited_object g h = rw h refl

-- SIDs
one_sid : SecurityId → Descriptor
one_sid s = record { control = 0x8000; rm = 0; owner = Some s; group = None; sacl = acl.Absent; dacl = acl.Absent }

a_domain : SecurityId
a_domain = record { authority = 5; subs = 21 ∷ 1 ∷ 2 ∷ 3 ∷ [] }

its_administrators : SecurityId
its_administrators = record { authority = 5; subs = 21 ∷ 1 ∷ 2 ∷ 3 ∷ 512 ∷ [] }

-- access masks
one_mask : ℕ → Result Descriptor SddlFault
one_mask mask = Ok (with_dacl 0x8004 (acl.List (record full_access { mask = mask } ∷ [])))

-- a field has at most 183 bytes
zeros : ℕ → List ℕ
zeros zero = []
zeros (suc n) = 48 ∷ zeros n

null_dacl_and_more : record {
  null_dacl : means (codes "D:NO_ACCESS_CONTROL") None ≡ Ok (with_dacl 0x8004 acl.Null);
  -- blanks, and letters in either case
  whole_line : means (codes " o:ba  d:pai (a;;fa;;;wd) ") None
      ≡ Ok (record (with_dacl 0x9404 (acl.List (full_access ∷ []))) { owner = Some administrators });
  -- no ACE at all
  empty_dacl : means (codes "D:") None ≡ Ok (with_dacl 0x8004 (acl.List []));
  -- the flags of either ACL: PD, DC and DI, and PS, SC and SI
  dacl_flags : means (codes "D:PARAI") None ≡ Ok (with_dacl 0x9504 (acl.List []));
  sacl_flags : means (codes "S:arpai") None ≡ Ok (record bare { control = 0xaa10; sacl = acl.List [] });
  -- all four parts, in an order that none prints
  four_parts : means (codes "S:AR(AU;SAFA;GA;;;SY)(A;;FA;;;WD)G:SYD:PNO_ACCESS_CONTROLO:BA") None
      ≡ Ok (record {
        control = 0x9214;
        rm = 0;
        owner = Some administrators;
        group = Some system;
        sacl = acl.List (audit ∷ full_access ∷ []);
        dacl = acl.Null;
      });
  hex_authority : means (codes "O:S-1-0x000000000005-32-544") None ≡ Ok (one_sid administrators);
  large_authority : means (codes "O:S-1-0x000100000000") None
      ≡ Ok (one_sid (record { authority = 0x100000000; subs = [] }));
  in_domain : means (codes "O:DA") (Some a_domain) ≡ Ok (one_sid its_administrators);
  no_mask : means (codes "D:(A;;;;;WD)") None ≡ one_mask 0;
  octal : means (codes "D:(A;;017;;;WD)") None ≡ one_mask 15;
  decimal : means (codes "D:(A;;15;;;WD)") None ≡ one_mask 15;
  hex : means (codes "D:(A;;0xf;;;WD)") None ≡ one_mask 15;
  no_octal : means (codes "D:(A;;08;;;WD)") None ≡ Err fault.Rights;
  long_field : means (codes "D:(A;;0x" ++ zeros 181 ++ codes ";;;WD)") None ≡ one_mask 0;
  longer_field : means (codes "D:(A;;0x" ++ zeros 182 ++ codes ";;;WD)") None ≡ Err fault.Rights;
  -- the first fault
  five_fields : means (codes "D:(A;;FA;;WD)") None ≡ Err fault.Shape;
  shape_first : means (codes "O:ZZD:(A;;FA;;WD)") None ≡ Err fault.Shape;
  twice_next : means (codes "O:BAO:ZZ") None ≡ Err fault.PartTwice;
  no_form : means (codes "O:BAD") None ≡ Err (fault.Sid sid_fault.SidForm);
  no_owner : means (codes "O:") None ≡ Err (fault.Sid sid_fault.SidForm);
  no_domain : means (codes "O:DA") None ≡ Err (fault.Sid sid_fault.NeedsDomain);
  no_alias : means (codes "O:ZZ") None ≡ Err (fault.Sid sid_fault.Alias);
  large_number : means (codes "O:S-1-4294967296") None ≡ Err (fault.Sid sid_fault.Number);
  half_flag : means (codes "D:PA") None ≡ Err fault.Flags;
  null_with_ace : means (codes "D:NO_ACCESS_CONTROL(A;;FA;;;WD)") None ≡ Err fault.Flags;
  no_flag : means (codes "D:(A;XX;FA;;;WD)") None ≡ Err fault.Flags;
  no_right : means (codes "D:(A;;GA1;;;WD)") None ≡ Err fault.Rights;
  no_guid : means (codes "D:(A;;FA;x;;WD)") None ≡ Err fault.Guid;
  no_kind : means (codes "D:(XA;;FA;;;WD)") None ≡ Err fault.Kind;
  blank_field : means (codes "D:(A; ;FA;;;WD)") None ≡ Err fault.Flags;
}
unfolding read with_dacl everyone full_access administrators bare system audit one_sid a_domain its_administrators
    one_mask zeros
null_dacl_and_more = search rules

-- Shape: parentheses, heads and fields, at each place one thing wrong.

without_a_domain : List ℕ → Result Descriptor SddlFault
without_a_domain text = means text None

parentheses_and_more : record {
  parentheses : map without_a_domain
      (codes "(" ∷ codes ")" ∷ codes "D:(A;;FA;;;WD" ∷ codes "D:A;;FA;;;WD)" ∷ codes "D:((A;;FA;;;WD))" ∷ codes "O:(BA)"
      ∷ codes "O:BA(A;;FA;;;WD)" ∷ codes "(A;;FA;;;WD)" ∷ codes "D:()" ∷ [])
      ≡ replicate 9 (Err fault.Shape);
  heads : map without_a_domain
      (codes "x" ∷ codes "xO:BA" ∷ codes "X:BA" ∷ codes ":" ∷ codes "O:B:A" ∷ codes "O :BA" ∷ codes "D:P:(A;;FA;;;WD)"
      ∷ codes "D:(A;;FA;;;WD):" ∷ codes "G:SY:" ∷ codes "O;BA" ∷ codes "D(A;;FA;;;WD)" ∷ [])
      ≡ replicate 11 (Err fault.Shape);
  behind_aces : map without_a_domain
      (codes "D:(A;;FA;;;WD)P" ∷ codes "D:(A;;FA;;;WD) x (A;;FA;;;WD)" ∷ codes "D:(A;;FA;;;WD)(A;;FA;;WD)"
      ∷ codes "S:(A;;FA;;;WD;)" ∷ codes "D:(A;;FA;;;WD)xS:" ∷ [])
      ≡ replicate 5 (Err fault.Shape);
  no_six_fields : ace_reads None (codes "A" ∷ [] ∷ codes "FA" ∷ [] ∷ codes "WD" ∷ []) ≡ Err fault.Shape;
  -- a colon inside parentheses makes no head
  colon_inside : means (codes "D:(A;;FA;;;O:BA)") None ≡ Err (fault.Sid sid_fault.SidForm);
  -- four heads in lower case, and blanks wherever they may stand
  lower_case : means (codes "o:bag:syd:s:") None
      ≡ Ok (record {
        control = 0x8014;
        rm = 0;
        owner = Some administrators;
        group = Some system;
        sacl = acl.List [];
        dacl = acl.List [];
      });
  blanks : means (codes "\t D: P \t(A;;FA;;;WD) \t(A;;FA;;;WD)\t O:\tBA \t") None
      ≡ Ok (record (with_dacl 0x9004 (acl.List (full_access ∷ full_access ∷ []))) { owner = Some administrators });
  -- no blank stands between the letters of a name, and no line feed counts as one
  no_blanks : map without_a_domain (codes "O:B A" ∷ codes "O:BA\n" ∷ codes "O:\rBA" ∷ [])
      ≡ replicate 3 (Err (fault.Sid sid_fault.SidForm));
  -- each part twice, in either case, and two parts that differ
  twice : map without_a_domain
      (codes "O:BAo:BA" ∷ codes "G:SYO:BAG:SY" ∷ codes "D:d:" ∷ codes "S:O:BAS:" ∷ codes "O:BAG:SYG:SY" ∷ [])
      ≡ replicate 5 (Err fault.PartTwice);
}
unfolding read without_a_domain administrators system with_dacl full_access everyone
parentheses_and_more = search rules

-- the flags of an ACL have at most 183 bytes, too

letters_p : ℕ → List ℕ
letters_p n = codes "D:" ++ replicate n 80

-- An ACE for one trustee takes 20 bytes: 3,276 of them and the ACL's header take 65,528.
many : ℕ → List AccessControlEntry
many zero = []
many (suc n) = full_access ∷ many n

acl_with : Which → ℕ → Said
acl_with w count = acl_said w no_flags (acl.List (many count))

-- a field that does not read comes before an ACL that is too large
field_before_large : (domain : Option SecurityId) (ss : List Section) (e : SddlFault)
    → each (section_reads domain) ss ≡ Err e → sections_mean domain ss ≡ Err e
field_before_large domain ss e h = rw h refl

long_flags_and_more : record {
  long_flags : means (letters_p 183) None ≡ Ok (with_dacl 0x9004 (acl.List []));
  longer_flags : means (letters_p 184) None ≡ Err fault.Flags;
  -- shape before a part that stands twice
  shape_before_twice : means (codes "O:BAO:BA(") None ≡ Err fault.Shape;
  -- the fields from the left, of an ACE and of the line
  kind_first : means (codes "D:(XA;XX;GA1;x;;ZZ)") None ≡ Err fault.Kind;
  flags_next : means (codes "D:(A;XX;GA1;x;;ZZ)") None ≡ Err fault.Flags;
  rights_next : means (codes "D:(A;;GA1;x;;ZZ)") None ≡ Err fault.Rights;
  object_next : means (codes "D:(A;;FA;x;;ZZ)") None ≡ Err fault.Guid;
  inherited_next : means (codes "D:(OA;;FA;;x;ZZ)") None ≡ Err fault.Guid;
  sid_last : means (codes "D:(A;;FA;;;ZZ)") None ≡ Err (fault.Sid sid_fault.Alias);
  owner_first : means (codes "O:ZZD:(XA;;FA;;;WD)") None ≡ Err (fault.Sid sid_fault.Alias);
  dacl_first : means (codes "D:(XA;;FA;;;WD)O:ZZ") None ≡ Err fault.Kind;
  full : first_large (acl_with which.Dacl 3276 ∷ []) ≡ None;
  large_dacl : first_large (acl_with which.Dacl 3277 ∷ acl_with which.Sacl 3277 ∷ []) ≡ Some which.Dacl;
  large_sacl : first_large (acl_with which.Dacl 3276 ∷ acl_with which.Sacl 3277 ∷ []) ≡ Some which.Sacl;
}
unfolding read letters_p with_dacl acl_with many full_access everyone
long_flags_and_more = search rules
