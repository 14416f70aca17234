-- Texts of parts, by hand (MS-DTYP 2.5.1.1, 2.4.4 and 2.3.4.3).
use Rattle.std.proofs.Common.{◌≡◌, [], ◌∷◌, true, false, codes, None, Some, Ok, Err, refl}
use Rattle.std.specs.Prelude.{List}
use Rattle.sd_ace.specs.Ace.{AccessControlEntry}
use Rattle.sd_kinds.specs.Flags.{flags_reads, flags_text}
use Rattle.sd_kinds.specs.declared.kinds.AceKind.TheVariants as kinds
use Rattle.sd_rights.specs.Rights.{rights_reads, rights_text}
use Rattle.sd_sid.specs.Sid.{sid_at}
use Rattle.sd_text.specs.Names.{run_of}
use Rattle.sd_sddl_builder.specs.declared.fault.SddlFault.TheVariants as sddl
use Rattle.sd_view.specs.Descriptor.{Descriptor}
use Rattle.sd_view.specs.declared.acl_part.AclPart.TheVariants as acl
use Rattle.sd_call.specs.Arguments.{optional_sid_in}
use Rattle.sd_call.specs.Outcomes.{done, failed}
use Rattle.sd_call.specs.declared.argument.Argument.TheVariants as which
use Rattle.sd_call.specs.declared.outcome.CallFault.TheVariants as call
use Rattle.sd_call_convert.specs.AceTexts.{ace_alone, domain_of_ace, alone}
use Rattle.sd_call_convert.specs.Conversions.{read_under}
use Rattle.sd_call_convert.specs.FieldTexts.{flags_in, flags_to_text, guid_to_text, of_text, rights_in}
use Rattle.sd_call_convert.specs.FieldTexts.{rights_to_text, told}

-- Empty rights and flags are 0; 010 is octal, and a label has rights of its own.
rights : (rights_in [] ≡ Ok 0) × (rights_in (codes "010") ≡ Ok 8) × (rights_in (codes "0x10") ≡ Ok 16)
    × (rights_in (codes "F") ≡ Err (of_text sddl.Rights)) × (rights_in (codes " FA") ≡ Err (of_text sddl.Rights))
unfolding rights_reads run_of
rights = (refl, refl, refl, refl, refl)

printed_rights : (rights_to_text 1 false ≡ codes "CC") × (rights_to_text 1 true ≡ codes "NW")
unfolding rights_text
printed_rights = (refl, refl)

flags : (flags_in [] ≡ Ok 0) × (flags_in (codes "OIci") ≡ Ok 3) × (flags_in (codes "O") ≡ Err (of_text sddl.Flags))
unfolding flags_reads run_of
flags = (refl, refl, refl)

-- 0x20 is no flag, and neither is a bit behind a byte.
printed_flags : (flags_to_text 0x13 ≡ Ok (codes "OICIID")) × (flags_to_text 0 ≡ Ok [])
    × (flags_to_text 0x20 ≡ Err (call.Argument which.Flags 0)) × (flags_to_text 256 ≡ Err (call.Argument which.Flags 0))
unfolding flags_text
printed_flags = (refl, refl, refl, refl)

numbers : (told (Ok 7) ≡ record { outcome = done 0; number = 7 })
    × (told (Err (of_text sddl.Flags)) ≡ record { outcome = failed (of_text sddl.Flags); number = 0 })
numbers = (refl, refl)

no_guid : (guid_to_text [] ≡ Err (call.Argument which.Guid 0))
    × (guid_to_text (0 ∷ []) ≡ Err (call.Argument which.Guid 0))
no_guid = (refl, refl)

-- What does not begin with a parenthesis is no ACE, and neither is what has more than one or another part.
begins : (domain_of_ace (codes "A;;;;;WD") [] ≡ Err (of_text sddl.Shape))
    × (domain_of_ace [] [] ≡ Err (of_text sddl.Shape)) × (domain_of_ace (codes "(") [] ≡ Ok None)
    × (domain_of_ace (codes "x") (1 ∷ []) ≡ Err (call.Argument which.Domain 0))
unfolding domain_of_ace optional_sid_in read_under sid_at
begins = (refl, refl, refl, refl)

abbrev ace : AccessControlEntry
ace = record {
  kind = kinds.Allow;
  flags = 0;
  mask = 1;
  object = None;
  inherited = None;
  sid = record { authority = 1; subs = 0 ∷ [] };
}

abbrev dacl : List AccessControlEntry → Descriptor
dacl aces =
    record { control = 0x8004; rm = 0; owner = None; group = None; sacl = acl.Absent; dacl = acl.List aces }

by_itself : (alone (Ok (dacl (ace ∷ []))) ≡ Ok ace) × (alone (Ok (dacl [])) ≡ Err (of_text sddl.Shape))
    × (alone (Ok (dacl (ace ∷ ace ∷ []))) ≡ Err (of_text sddl.Shape))
    × (alone (Err (of_text sddl.Kind)) ≡ Err (of_text sddl.Kind))
by_itself = (refl, refl, refl, refl)

with_another_part : (ace_alone (record (dacl (ace ∷ [])) { owner = Some ace.sid }) ≡ None)
    × (ace_alone (record (dacl (ace ∷ [])) { group = Some ace.sid }) ≡ None)
    × (ace_alone (record (dacl (ace ∷ [])) { sacl = acl.Null }) ≡ None)
    × (ace_alone (record (dacl []) { dacl = acl.Null }) ≡ None)
with_another_part = (refl, refl, refl, refl)
