-- Conversions by hand: the order in which arguments are looked at, and short descriptors (MS-DTYP 2.4.6, 2.5.1.1).
use Rattle.std.proofs.Common.{◌≡◌, ℕ, List, [], ◌∷◌, ◌++◌, length, true, false, Some, None, codes, Ok, Err, refl, rules}
use Rattle.std.specs.Fmt.{digits}
use Rattle.sd_sid.specs.Sid.{sid_at}
use Rattle.sd_sid.specs.SidText.{alias_of, has_form, letters_read, numbers_read, sid_reads}
use Rattle.sd_sid.specs.declared.sid_text.SidFault.TheVariants as sid
use Rattle.sd_parts.specs.Header.{header_bytes}
use Rattle.sd_acl_view.specs.Bytes.{u16_at, u32_at}
use Rattle.sd_view.specs.Reading.{acl_part_fault, acl_shown, fault, header_fault, overlap_fault, overlaps_fault}
use Rattle.sd_view.specs.Reading.{parts_fault, reading, sid_fault, sid_shown}
use Rattle.sd_view.specs.declared.acl_part.AclPart.TheVariants as acl
use Rattle.sd_view.specs.declared.fault.SdFault.TheVariants as sd
use Rattle.sd_explain.specs.Explain.{control_line, explain, rm_line, sid_line, sid_words}
use Rattle.sd_sddl_builder.specs.Meaning.{body_reads, means}
use Rattle.sd_sddl_builder.specs.declared.fault.SddlFault.TheVariants as sddl_fault
use Rattle.sd_sddl_printer.specs.Printed.{dacl_text, group_text, owner_text, sacl_text, sddl, trustee_text}
use Rattle.sd_faults.specs.declared.line_fault.LineFault.TheVariants as line
use Rattle.sd_call.specs.Arguments.{descriptor_in, optional_sid_in}
use Rattle.sd_call.specs.declared.argument.Argument.TheVariants as which
use Rattle.sd_call.specs.declared.outcome.CallFault.TheVariants as call
use Rattle.sd_call_convert.specs.Conversions.{domain_for, explained, from_sddl, laid_out, named_in, normalized}
use Rattle.sd_call_convert.specs.Conversions.{read_under, text_in, to_sddl}

-- The domain is looked at before the descriptor, and before the length of a text.
domain_first : (to_sddl [] (1 ∷ []) false ≡ Err (call.Argument which.Domain 0))
    × (explained [] (1 ∷ []) true ≡ Err (call.Argument which.Domain 0))
    × (domain_for [] (1 ∷ []) ≡ Err (call.Argument which.Domain 0))
unfolding named_in optional_sid_in sid_at
domain_first = (refl, refl, refl)

short : (to_sddl [] [] false ≡ Err (call.Line (line.Sd sd.Short)))
    × (normalized [] ≡ Err (call.Line (line.Sd sd.Short)))
unfolding named_in optional_sid_in descriptor_in reading fault header_fault
short = (refl, refl)

-- a control word of 0x8000, and a resource manager byte of 0xff that is kept
abbrev header : List ℕ
header = 1 ∷ 0xff ∷ 0 ∷ 0x80 ∷ 0 ∷ 0 ∷ 0 ∷ 0 ∷ 0 ∷ 0 ∷ 0 ∷ 0 ∷ 0 ∷ 0 ∷ 0 ∷ 0 ∷ 0 ∷ 0 ∷ 0 ∷ 0 ∷ []

-- SDTOOL_MOST_TEXT: a text of so many bytes is read, and one of a byte more is too long, whatever its bytes are
longest : (text : List ℕ) → length text ≡ 1049872 → domain_for text [] ≡ Ok None
unfolding optional_sid_in read_under
longest text h = rw h refl

too_long : (text : List ℕ) → length text ≡ 1049873 → domain_for text [] ≡ Err (call.Line line.TooLong)
unfolding optional_sid_in read_under
too_long text h = rw h refl

-- Of a text that is too long and a wrong domain, the domain is the fault.
too_long_under_a_wrong_domain : (text : List ℕ) → length text ≡ 1049873
    → (domain_for text (1 ∷ []) ≡ Err (call.Argument which.Domain 0))
    × (from_sddl text (1 ∷ []) ≡ Err (call.Argument which.Domain 0))
    × (from_sddl text [] ≡ Err (call.Line line.TooLong))
unfolding optional_sid_in read_under sid_at
too_long_under_a_wrong_domain text h = (refl, refl, rw h refl)

-- SDTOOL_MOST_BYTES: one byte more is too long in each call, whatever the bytes are
too_many_bytes : (bytes : List ℕ) → length bytes ≡ 131227
    → (to_sddl bytes [] false ≡ Err (call.Line line.TooLong)) × (explained bytes [] true ≡ Err (call.Line line.TooLong))
    × (normalized bytes ≡ Err (call.Line line.TooLong))
unfolding named_in optional_sid_in descriptor_in
too_many_bytes bytes h = (rw h refl, rw h refl, rw h refl)

-- Administrators as the owner, behind the header
abbrev owned : List ℕ
owned = (1 ∷ 0 ∷ 0 ∷ 0x80 ∷ 20 ∷ 0 ∷ 0 ∷ 0 ∷ 0 ∷ 0 ∷ 0 ∷ 0 ∷ 0 ∷ 0 ∷ 0 ∷ 0 ∷ 0 ∷ 0 ∷ 0 ∷ 0 ∷ [])
    ++ (1 ∷ 2 ∷ 0 ∷ 0 ∷ 0 ∷ 0 ∷ 0 ∷ 5 ∷ 32 ∷ 0 ∷ 0 ∷ 0 ∷ 32 ∷ 2 ∷ 0 ∷ 0 ∷ [])

owner_alone : (to_sddl owned [] false ≡ Ok (codes "O:BA")) × (to_sddl owned [] true ≡ Ok (codes "O:S-1-5-32-544"))
unfolding named_in optional_sid_in descriptor_in reading fault header_fault parts_fault sid_fault sid_shown sid_at
    acl_part_fault acl_shown overlaps_fault overlap_fault u16_at u32_at sddl owner_text group_text dacl_text sacl_text
    trustee_text alias_of digits
owner_alone = (refl, refl)

meant : laid_out (Ok (record {
  control = 0x8000;
  rm = 0;
  owner = Some (record { authority = 5; subs = 32 ∷ 544 ∷ [] });
  group = None;
  sacl = acl.Absent;
  dacl = acl.Absent;
})) ≡ Ok owned
unfolding header_bytes
meant = refl

no_domain_and_more : record {
  no_domain : domain_for (codes "O:BA") [] ≡ Ok None;
  layout_of_header : normalized header ≡ Ok header;
  no_text : to_sddl header [] false ≡ Ok [];
  explained_header : explained header [] false
      ≡ Ok (codes "control 0x8000 SR\nrm 0xff\nowner none\ngroup none\ndacl absent\nsacl absent\nend\n");
  -- The empty text is a descriptor without parts.
  empty_text : from_sddl [] []
      ≡ Ok (1 ∷ 0 ∷ 0 ∷ 0x80 ∷ 0 ∷ 0 ∷ 0 ∷ 0 ∷ 0 ∷ 0 ∷ 0 ∷ 0 ∷ 0 ∷ 0 ∷ 0 ∷ 0 ∷ 0 ∷ 0 ∷ 0 ∷ 0 ∷ []);
  -- A text with the end of its line is refused.
  text_with_its_line_end : from_sddl (codes "O:BA\n") [] ≡ Err (call.Line (line.Sddl (sddl_fault.Sid sid.SidForm)));
  layout_of_owned : normalized owned ≡ Ok owned;
}
unfolding optional_sid_in read_under descriptor_in reading fault header_fault parts_fault sid_fault sid_shown
    acl_part_fault acl_shown overlaps_fault overlap_fault u16_at u32_at header_bytes named_in sddl owner_text group_text
    dacl_text sacl_text explain control_line rm_line sid_line means body_reads sid_reads has_form sid_at
no_domain_and_more = search rules

-- ---- a domain: S-1-5-21-1-2-3, whose administrators are the owner

abbrev domain : List ℕ
domain = 1 ∷ 4 ∷ 0 ∷ 0 ∷ 0 ∷ 0 ∷ 0 ∷ 5 ∷ 21 ∷ 0 ∷ 0 ∷ 0 ∷ 1 ∷ 0 ∷ 0 ∷ 0 ∷ 2 ∷ 0 ∷ 0 ∷ 0 ∷ 3 ∷ 0 ∷ 0 ∷ 0 ∷ []

abbrev owned_by_admins : List ℕ
owned_by_admins = (1 ∷ 0 ∷ 0 ∷ 0x80 ∷ 20 ∷ 0 ∷ 0 ∷ 0 ∷ 0 ∷ 0 ∷ 0 ∷ 0 ∷ 0 ∷ 0 ∷ 0 ∷ 0 ∷ 0 ∷ 0 ∷ 0 ∷ 0 ∷ [])
    ++ (1 ∷ 5 ∷ 0 ∷ 0 ∷ 0 ∷ 0 ∷ 0 ∷ 5 ∷ 21 ∷ 0 ∷ 0 ∷ 0 ∷ 1 ∷ 0 ∷ 0 ∷ 0 ∷ 2 ∷ 0 ∷ 0 ∷ 0 ∷ 3 ∷ 0 ∷ 0 ∷ 0
    ∷ 0 ∷ 2 ∷ 0 ∷ 0 ∷ [])

-- The alias is printed under its domain alone, and not where numbers are asked for.
printed_in_a_domain : (to_sddl owned_by_admins domain false ≡ Ok (codes "O:DA"))
    × (to_sddl owned_by_admins domain true ≡ Ok (codes "O:S-1-5-21-1-2-3-512"))
    × (to_sddl owned_by_admins [] false ≡ Ok (codes "O:S-1-5-21-1-2-3-512"))
unfolding named_in optional_sid_in descriptor_in reading fault header_fault parts_fault sid_fault sid_shown sid_at
    acl_part_fault acl_shown overlaps_fault overlap_fault u16_at u32_at sddl owner_text group_text dacl_text sacl_text
    trustee_text alias_of digits
printed_in_a_domain = (refl, refl, refl)

explained_in_a_domain : (explained owned_by_admins domain false
    ≡ Ok (codes "control 0x8000 SR\nrm 0x00\nowner S-1-5-21-1-2-3-512 DA\ngroup none\ndacl absent\nsacl absent\nend\n"))
    × (explained owned_by_admins domain true
    ≡ Ok (codes "control 0x8000 SR\nrm 0x00\nowner S-1-5-21-1-2-3-512\ngroup none\ndacl absent\nsacl absent\nend\n"))
unfolding named_in optional_sid_in descriptor_in reading fault header_fault parts_fault sid_fault sid_shown sid_at
    acl_part_fault acl_shown overlaps_fault overlap_fault u16_at u32_at explain control_line rm_line sid_line sid_words
    alias_of digits
explained_in_a_domain = (refl, refl)

read_in_a_domain : (from_sddl (codes "O:DA") domain ≡ Ok owned_by_admins)
    × (from_sddl (codes "O:S-1-5-21-1-2-3-512") [] ≡ Ok owned_by_admins)
    × (from_sddl (codes "O:DA") [] ≡ Err (call.Line (line.Sddl (sddl_fault.Sid sid.NeedsDomain))))
unfolding optional_sid_in read_under sid_at means body_reads sid_reads has_form letters_read numbers_read header_bytes
read_in_a_domain = (refl, refl, refl)

-- The domain is looked at before the text, and a fault of the text is told as the program does.
faults_of_a_text : (from_sddl (codes "O") (1 ∷ []) ≡ Err (call.Argument which.Domain 0))
    × (from_sddl (codes "O") [] ≡ Err (call.Line (line.Sddl sddl_fault.Shape)))
    × (text_in None (codes "O:BAO:BA") ≡ Err (call.Line (line.Sddl sddl_fault.PartTwice)))
unfolding optional_sid_in read_under sid_at means
faults_of_a_text = (refl, refl, refl)
