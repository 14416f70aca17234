-- Bytes of a descriptor that have no gap, and the one written form of each part (MS-DTYP 2.4.6).
use Rattle.std.specs.Prelude.{◌≡◌, ℕ, List, ◌++◌, length, drop}
use Rattle.sd_acl_view.specs.AclLayout.{acl_bytes}
use Rattle.sd_view.specs.Descriptor.{Descriptor, Shows, dacl_at, sacl_at}
use Rattle.sd_view.specs.Layout.{size}
use Rattle.sd_view.specs.declared.acl_part.AclPart.{AclPart}
use Rattle.sd_view.specs.declared.acl_part.AclPart.TheVariants as acl

-- an ACL stands in its written form (MS-DTYP 2.4.5); the offset is 0 where none stands
abbrev pub AclIsWritten : List ℕ → ℕ → AclPart → Type 0
AclIsWritten bytes offset acl.Absent = offset ≡ 0
AclIsWritten bytes offset acl.Null = offset ≡ 0
AclIsWritten bytes offset (acl.List aces) = (rest : List ℕ) × (drop offset bytes ≡ acl_bytes aces ++ rest)

-- as many bytes as the layout has, and so no gap; in each ACL revision 4 exactly where an object ACE stands
pub record IsWritten (bytes : List ℕ) (d : Descriptor) : Type 0 where
  pub size : length bytes ≡ size d
  pub sacl : AclIsWritten bytes (sacl_at bytes) d.sacl
  pub dacl : AclIsWritten bytes (dacl_at bytes) d.dacl

-- the bytes show some descriptor in this form
pub record IsWrittenForm (bytes : List ℕ) : Type 0 where
  pub descriptor : Descriptor
  pub shows : Shows bytes descriptor
  pub written : IsWritten bytes descriptor
