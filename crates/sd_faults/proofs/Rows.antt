-- The numbers, names and texts of faults (docs/FORMAT.md, "Errors"), computed.
use Rattle.std.proofs.Common.{◌≡◌, [], ◌∷◌, codes, map, refl, replicate, Some, None, rules}
use Rattle.std.specs.Fmt.{digits}
use Rattle.sd_sid.specs.declared.sid_text.SidFault.TheVariants as sid
use Rattle.sd_parts.specs.declared.part.Part.TheVariants as part
use Rattle.sd_parts.specs.declared.part.Which.TheVariants as which
use Rattle.sd_faults.specs.FaultNames.{fault_name}
use Rattle.sd_faults.specs.Faults.{fault_text, part_number}
use Rattle.sd_inherit.specs.declared.derivation.DeriveFault.TheVariants.{DerivedTooLarge}
use Rattle.sd_view.specs.declared.fault.SdFault.TheVariants as sd
use Rattle.sd_sddl_builder.specs.declared.fault.SddlFault.TheVariants as sddl
use Rattle.sd_buffer.specs.declared.buffer.TextFault.TheVariants as text
use Rattle.sd_faults.specs.declared.line_fault.LineFault.TheVariants.{Derive, Sd, Sddl, Text, TooLong}

pub overlap_text : fault_text (Sd (sd.Overlap part.Owner part.Group)) ≡ codes "error 14 overlap owner group"
unfolding fault_text digits
overlap_text = refl

-- every fault, with its number, its name and its parts

pub texts_without_parts : map fault_text
    (TooLong ∷ Text text.HexDigit ∷ Text text.HexOdd ∷ Text text.Base64 ∷ Sd sd.Short ∷ Sd sd.Revision
    ∷ Sd sd.NotSelfRelative ∷ Sddl sddl.Shape ∷ Sddl sddl.PartTwice ∷ Sddl (sddl.Sid sid.Alias)
    ∷ Sddl (sddl.Sid sid.NeedsDomain) ∷ Sddl (sddl.Sid sid.Number) ∷ Sddl (sddl.Sid sid.SidForm) ∷ Sddl sddl.Flags
    ∷ Sddl sddl.Rights ∷ Sddl sddl.Guid ∷ Sddl sddl.Kind ∷ [])
    ≡ codes "error 1 too-long" ∷ codes "error 2 hex-digit" ∷ codes "error 3 hex-odd" ∷ codes "error 4 base64"
    ∷ codes "error 5 short" ∷ codes "error 6 revision" ∷ codes "error 7 not-self-relative" ∷ codes "error 20 shape"
    ∷ codes "error 21 part-twice" ∷ codes "error 22 alias" ∷ codes "error 23 needs-domain" ∷ codes "error 24 number"
    ∷ codes "error 25 sid-form" ∷ codes "error 26 flags" ∷ codes "error 27 rights" ∷ codes "error 28 guid"
    ∷ codes "error 29 kind" ∷ []
unfolding fault_text digits
texts_without_parts = refl

pub texts_with_parts : map fault_text
    (Sd (sd.Offset part.Owner) ∷ Sd (sd.Sid part.Group) ∷ Sd (sd.Acl part.Sacl) ∷ Sd (sd.AceSize part.Dacl)
    ∷ Sd (sd.AceType part.Sacl) ∷ Sd (sd.AceFlags part.Dacl) ∷ Sd (sd.Overlap part.Sacl part.Dacl)
    ∷ Sddl (sddl.AclTooLarge which.Dacl) ∷ Derive (DerivedTooLarge which.Sacl) ∷ [])
    ≡ codes "error 8 offset owner" ∷ codes "error 9 sid group" ∷ codes "error 10 acl sacl"
    ∷ codes "error 11 ace-size dacl" ∷ codes "error 12 ace-type sacl" ∷ codes "error 13 ace-flags dacl"
    ∷ codes "error 14 overlap sacl dacl" ∷ codes "error 30 acl-too-large dacl"
    ∷ codes "error 40 derived-too-large sacl" ∷ []
unfolding fault_text digits
texts_with_parts = refl

-- the names of faults that no line has, and no name between

-- enum sdtool_part of include/sdtool.h
part_numbers : (part_number None ≡ 0) × (part_number (Some part.Owner) ≡ 1) × (part_number (Some part.Group) ≡ 2)
    × (part_number (Some part.Sacl) ≡ 3) × (part_number (Some part.Dacl) ≡ 4)
part_numbers = (refl, refl, refl, refl, refl)

further_names_and_more : record {
  further_names : map fault_name (50 ∷ 51 ∷ 60 ∷ 61 ∷ 62 ∷ 70 ∷ 71 ∷ 72 ∷ 73 ∷ [])
      ≡ codes "empty-request" ∷ codes "reserved-bits" ∷ codes "read" ∷ codes "write" ∷ codes "too-many-reads"
      ∷ codes "argument" ∷ codes "too-small" ∷ codes "no-memory" ∷ codes "change" ∷ [];
  no_names : map fault_name
      (0 ∷ 15 ∷ 16 ∷ 17 ∷ 18 ∷ 19 ∷ 31 ∷ 32 ∷ 33 ∷ 34 ∷ 35 ∷ 36 ∷ 37 ∷ 38 ∷ 39 ∷ 41 ∷ 42 ∷ 43 ∷ 44 ∷ 45 ∷ 46 ∷ 47
      ∷ 48 ∷ 49 ∷ 52 ∷ 53 ∷ 54 ∷ 55 ∷ 56 ∷ 57 ∷ 58 ∷ 59 ∷ 63 ∷ 64 ∷ 65 ∷ 66 ∷ 67 ∷ 68 ∷ 69 ∷ 74 ∷ 256 ∷ 257 ∷ [])
      ≡ replicate 42 [];
}
further_names_and_more = search rules
