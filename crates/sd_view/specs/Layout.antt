-- The one written form of a descriptor (MS-DTYP 2.4.6).
use Rattle.std.specs.Prelude.{ℕ, ◌+◌, ◌==◌, if◌then◌else◌, List, [], ◌++◌, Option, Some, None}
use Rattle.sd_parts.specs.Header.{header_bytes}
use Rattle.sd_parts.specs.declared.part.Parts.{Parts}
use Rattle.sd_sid.specs.Sid.{SecurityId, sid_bytes, sid_size}
use Rattle.sd_acl_view.specs.Acl.{acl_size}
use Rattle.sd_acl_view.specs.AclLayout.{acl_bytes}
use Rattle.sd_view.specs.Descriptor.{Descriptor}
use Rattle.sd_view.specs.declared.acl_part.AclPart.{AclPart}
use Rattle.sd_view.specs.declared.acl_part.AclPart.TheVariants as acl

-- the bytes of a part, and how many there are
abbrev pub sid_part : Option SecurityId → List ℕ
sid_part None = []
sid_part (Some s) = sid_bytes s

abbrev pub sid_part_size : Option SecurityId → ℕ
sid_part_size None = 0
sid_part_size (Some s) = sid_size s

abbrev pub acl_part : AclPart → List ℕ
acl_part acl.Absent = []
acl_part acl.Null = []
acl_part (acl.List aces) = acl_bytes aces

abbrev pub acl_part_size : AclPart → ℕ
acl_part_size acl.Absent = 0
acl_part_size acl.Null = 0
acl_part_size (acl.List aces) = acl_size aces

-- the offset of a part of this size that begins there, and 0 where there is none: no part is empty
abbrev pub offset_if : ℕ → ℕ → ℕ
offset_if start size = if size == 0 then 0 else start

-- where the parts stand
abbrev pub group_offset : Descriptor → ℕ
group_offset d = 20 + sid_part_size d.owner

abbrev pub sacl_offset : Descriptor → ℕ
sacl_offset d = group_offset d + sid_part_size d.group

abbrev pub dacl_offset : Descriptor → ℕ
dacl_offset d = sacl_offset d + acl_part_size d.sacl

-- the written size
abbrev pub size : Descriptor → ℕ
size d = dacl_offset d + acl_part_size d.dacl

abbrev pub offsets : Descriptor → Parts ℕ
offsets d = record {
  owner = offset_if 20 (sid_part_size d.owner);
  group = offset_if (group_offset d) (sid_part_size d.group);
  sacl = offset_if (sacl_offset d) (acl_part_size d.sacl);
  dacl = offset_if (dacl_offset d) (acl_part_size d.dacl);
}

abbrev pub descriptor_header : Descriptor → List ℕ
descriptor_header d = header_bytes d.rm d.control (offsets d)

-- the parts that stand, in their order and without gaps
abbrev pub parts_bytes : Descriptor → List ℕ
parts_bytes d = sid_part d.owner ++ (sid_part d.group ++ (acl_part d.sacl ++ acl_part d.dacl))

abbrev pub layout : Descriptor → List ℕ
layout d = descriptor_header d ++ parts_bytes d
