-- The control word and the sizes of parts, with the numbers of MS-DTYP 2.4.6, 2.4.5 and 2.4.2.
use Rattle.std.proofs.Common.{◌≡◌, ℕ, List, [], ◌∷◌, true, false, codes, refl, rules}
use Rattle.std.specs.Prelude.{map}
use Rattle.sd_parts.specs.Control.{acl_flags, all_flags, control_of, dacl_present, flag_bits, no_flags, other_acl}
use Rattle.sd_parts.specs.Control.{present_bit, sacl_present, self_relative}
use Rattle.sd_parts.specs.Header.{header_bytes}
use Rattle.sd_parts.specs.Parts.{each_part, get_part, part_of, same_part, set_part, sid_part_of}
use Rattle.sd_parts.specs.declared.control.TheConstants.{CONTROL_BITS, DACL_AUTO_INHERITED, DACL_AUTO_INHERIT_REQUIRED}
use Rattle.sd_parts.specs.declared.control.TheConstants.{DACL_DEFAULTED, DACL_PRESENT, DACL_PROTECTED}
use Rattle.sd_parts.specs.declared.control.TheConstants.{GROUP_DEFAULTED, OWNER_DEFAULTED, RM_CONTROL_VALID}
use Rattle.sd_parts.specs.declared.control.TheConstants.{SACL_AUTO_INHERITED, SACL_AUTO_INHERIT_REQUIRED}
use Rattle.sd_parts.specs.declared.control.TheConstants.{SACL_DEFAULTED, SACL_PRESENT, SACL_PROTECTED, SELF_RELATIVE}
use Rattle.sd_parts.specs.declared.limits.TheConstants.{ACL_HEADER_SIZE, ACL_REVISION, ACL_REVISION_DS, CAPACITY}
use Rattle.sd_parts.specs.declared.limits.TheConstants.{HEADER_SIZE, MOST_ACL_SIZE, MOST_SID_SIZE, SID_HEADER_SIZE}
use Rattle.sd_parts.specs.declared.control.AclFlags.{AclFlags}
use Rattle.sd_parts.specs.declared.part.Part.{Part}
use Rattle.sd_parts.specs.declared.part.Part.TheVariants.{Owner, Group, Sacl, Dacl}
use Rattle.sd_parts.specs.declared.part.Parts.{Parts}
use Rattle.sd_parts.specs.declared.part.SidPart.TheVariants as sid
use Rattle.sd_parts.specs.declared.part.Which.TheVariants as which

named_bits_and_more : record {
  -- each named bit, in rising order: 0x40 and 0x80 have no name
  named_bits : map (λ b. b.bit) CONTROL_BITS
      ≡ 1 ∷ 2 ∷ 4 ∷ 8 ∷ 16 ∷ 32 ∷ 256 ∷ 512 ∷ 1024 ∷ 2048 ∷ 4096 ∷ 8192 ∷ 16384 ∷ 32768 ∷ [];
  each_bit : OWNER_DEFAULTED ∷ GROUP_DEFAULTED ∷ DACL_PRESENT ∷ DACL_DEFAULTED ∷ SACL_PRESENT ∷ SACL_DEFAULTED
      ∷ DACL_AUTO_INHERIT_REQUIRED ∷ SACL_AUTO_INHERIT_REQUIRED ∷ DACL_AUTO_INHERITED ∷ SACL_AUTO_INHERITED
      ∷ DACL_PROTECTED ∷ SACL_PROTECTED ∷ RM_CONTROL_VALID ∷ SELF_RELATIVE ∷ []
      ≡ 0x1 ∷ 0x2 ∷ 0x4 ∷ 0x8 ∷ 0x10 ∷ 0x20 ∷ 0x100 ∷ 0x200 ∷ 0x400 ∷ 0x800 ∷ 0x1000 ∷ 0x2000 ∷ 0x4000 ∷ 0x8000 ∷ [];
}
named_bits_and_more = search rules

-- P, AR and AI, each alone, and its bit

each_flag : List AclFlags
each_flag = record no_flags { protected = true } ∷ record no_flags { auto_inherit_required = true }
    ∷ record no_flags { auto_inherited = true } ∷ []

bits_of_each_flag : (map (flag_bits which.Dacl) each_flag ≡ 0x1000 ∷ 0x100 ∷ 0x400 ∷ [])
    × (map (flag_bits which.Sacl) each_flag ≡ 0x2000 ∷ 0x200 ∷ 0x800 ∷ [])
unfolding each_flag
bits_of_each_flag = (refl, refl)

flags_of_each_bit : (map (acl_flags which.Dacl) (0x1000 ∷ 0x100 ∷ 0x400 ∷ []) ≡ each_flag)
    × (map (acl_flags which.Sacl) (0x2000 ∷ 0x200 ∷ 0x800 ∷ []) ≡ each_flag)
unfolding each_flag
flags_of_each_bit = (refl, refl)

-- the flags of one ACL are not those of the other
flags_of_the_other : (acl_flags which.Sacl 0x1500 ≡ no_flags) × (acl_flags which.Dacl 0x2a00 ≡ no_flags)
flags_of_the_other = (refl, refl)

bits_of_flags : (flag_bits which.Dacl all_flags ≡ 0x1500) × (flag_bits which.Sacl all_flags ≡ 0x2a00)
bits_of_flags = (refl, refl)

present_bits : (present_bit which.Dacl ≡ 0x4) × (present_bit which.Sacl ≡ 0x10)
present_bits = (refl, refl)

-- SR is set, DP and SP are what they have to be, and every other bit stays
control_words : (control_of 0xffff false false ≡ 0xffeb) × (control_of 0 true false ≡ 0x8010)
    × (control_of 0x17 false true ≡ 0x8007)
control_words = (refl, refl, refl)

sizes : (HEADER_SIZE ≡ 20) × (SID_HEADER_SIZE ≡ 8) × (MOST_SID_SIZE ≡ 68) × (ACL_HEADER_SIZE ≡ 8)
    × (MOST_ACL_SIZE ≡ 65535) × (CAPACITY ≡ 131226)
sizes = (refl, refl, refl, refl, refl, refl)

revisions : (ACL_REVISION ≡ 2) × (ACL_REVISION_DS ≡ 4)
revisions = (refl, refl)

-- the bits that are looked at in a control word: SR, SP and DP, each among all others and without any

self_relative_bit : (self_relative 0x8000 ≡ true) × (self_relative 0x7fff ≡ false)
self_relative_bit = (refl, refl)

sacl_bit : (sacl_present 0x10 ≡ true) × (sacl_present 0xffef ≡ false)
sacl_bit = (refl, refl)

dacl_bit : (dacl_present 0x4 ≡ true) × (dacl_present 0xfffb ≡ false)
dacl_bit = (refl, refl)

other_acls : (other_acl which.Sacl ≡ which.Dacl) × (other_acl which.Dacl ≡ which.Sacl)
other_acls = (refl, refl)

letters_and_more : record {
  -- the codes that explanations print, in the order of the bits
  letters : map (λ b. b.first ∷ b.second ∷ []) CONTROL_BITS
      ≡ codes "OD" ∷ codes "GD" ∷ codes "DP" ∷ codes "DD" ∷ codes "SP" ∷ codes "SD" ∷ codes "DC" ∷ codes "SC"
      ∷ codes "DI" ∷ codes "SI" ∷ codes "PD" ∷ codes "PS" ∷ codes "RM" ∷ codes "SR" ∷ [];
  -- revision 1, the resource manager byte, the control word, and the offsets of owner, group, SACL and DACL
  header : header_bytes 0xab 0x8014 (record { owner = 0x01020304; group = 0x20; sacl = 0x30; dacl = 0x40 })
      ≡ 1 ∷ 0xab ∷ 0x14 ∷ 0x80 ∷ 4 ∷ 3 ∷ 2 ∷ 1 ∷ 0x20 ∷ 0 ∷ 0 ∷ 0 ∷ 0x30 ∷ 0 ∷ 0 ∷ 0 ∷ 0x40 ∷ 0 ∷ 0 ∷ 0 ∷ [];
}
unfolding header_bytes
letters_and_more = search rules

-- the parts, and a value for each of them

every_part : List Part
every_part = Owner ∷ Group ∷ Sacl ∷ Dacl ∷ []

numbered : Parts ℕ
numbered = record { owner = 1; group = 2; sacl = 3; dacl = 4 }

parts_of_halves_and_more : record {
  parts_of_halves : sid_part_of sid.Owner ∷ sid_part_of sid.Group ∷ part_of which.Sacl ∷ part_of which.Dacl ∷ []
      ≡ every_part;
  same_parts : map (λ p. map (same_part p) every_part) every_part
      ≡ (true ∷ false ∷ false ∷ false ∷ []) ∷ (false ∷ true ∷ false ∷ false ∷ [])
      ∷ (false ∷ false ∷ true ∷ false ∷ []) ∷ (false ∷ false ∷ false ∷ true ∷ []) ∷ [];
  values : map (λ p. get_part p numbered) every_part ≡ 1 ∷ 2 ∷ 3 ∷ 4 ∷ [];
  other_values : map (λ p. set_part p 9 numbered) every_part
      ≡ record { owner = 9; group = 2; sacl = 3; dacl = 4 } ∷ record { owner = 1; group = 9; sacl = 3; dacl = 4 }
      ∷ record { owner = 1; group = 2; sacl = 9; dacl = 4 } ∷ record { owner = 1; group = 2; sacl = 3; dacl = 9 } ∷ [];
  one_value : each_part true ≡ record { owner = true; group = true; sacl = true; dacl = true };
}
unfolding every_part numbered
parts_of_halves_and_more = search rules
