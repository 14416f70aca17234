-- The layout of a descriptor is as long as its size says.
use Rattle.std.proofs.Common.{◌≡◌, ◌≤◌, ◌+◌, ℕ, Bool, List, ◌∷◌, ◌++◌, length, Option, Some, None, refl, ap, ◌∙◌}
use Rattle.std.proofs.Common.{arith, length-append}
use Rattle.std.specs.Prelude.{IfSome}
use Rattle.std.specs.List.{flat_map}
use Rattle.byteorder.specs.Endian.{little_bytes}
use Rattle.byteorder.specs.Numbers.{little_number-reads_back}
use Rattle.sd_ace.specs.Ace.{AccessControlEntry}
use Rattle.sd_ace.specs.AceLayout.{ace_bytes}
use Rattle.sd_sid.specs.Sid.{SecurityId, IsSid}
use Rattle.sd_sid.proofs.laws.SidLaws.{length-sid_bytes}
use Rattle.sd_parts.specs.Header.{header_bytes}
use Rattle.sd_acl_view.specs.Acl.{IsAcl, acl_size}
use Rattle.sd_acl_view.specs.AclLayout.{acl_bytes}
use Rattle.sd_acl_view.specs.Bytes.{u16_at}
use Rattle.sd_view.specs.Descriptor.{Descriptor, IsAclPart, IsDescriptor}
use Rattle.sd_view.specs.Layout.{acl_part, acl_part_size, descriptor_header, layout, sid_part, sid_part_size, size}
use Rattle.sd_view.specs.declared.acl_part.AclPart.{AclPart}
use Rattle.sd_view.specs.declared.acl_part.AclPart.TheVariants as acl
use Rattle.sd_acl_view.proofs.laws.AclLayoutSizes.{acl_size-most, length-acl_bytes}

-- a part has as many bytes as its size says, and is no larger than the largest SID or ACL
pub length-sid_part : (o : Option SecurityId) → length (sid_part o) ≡ sid_part_size o
length-sid_part None = refl
length-sid_part (Some s) = length-sid_bytes s

sid_part_size-most : (o : Option SecurityId) → IfSome o IsSid → sid_part_size o ≤ 68
sid_part_size-most None h = omega arith
sid_part_size-most (Some s) h = omega (arith, h.count)

pub length-acl_part : (p : AclPart) → length (acl_part p) ≡ acl_part_size p
length-acl_part acl.Absent = refl
length-acl_part acl.Null = refl
length-acl_part (acl.List aces) = length-acl_bytes aces

acl_part_size-most : (present : Bool) (p : AclPart) → IsAclPart present p → acl_part_size p ≤ 65532
acl_part_size-most present acl.Absent h = omega arith
acl_part_size-most present acl.Null h = omega arith
acl_part_size-most present (acl.List aces) h = acl_size-most aces h.1

-- a header has 20 bytes
pub length-header : (d : Descriptor) → length (descriptor_header d) ≡ 20
unfolding header_bytes
length-header d = refl

-- header, two SIDs of at most 68 bytes and two ACLs of at most 65,532
pub size-most : (d : Descriptor) → IsDescriptor d → size d ≤ 131220
size-most d h =
    let owner = sid_part_size-most d.owner h.owner in
    let group = sid_part_size-most d.group h.group in
    let sacl = acl_part_size-most _ d.sacl h.sacl in
    let dacl = acl_part_size-most _ d.dacl h.dacl in
    omega arith

-- five lists in a row
length-five : (a b c d e : List ℕ)
    → length (a ++ (b ++ (c ++ (d ++ e)))) ≡ length a + (length b + (length c + (length d + length e)))
length-five a b c d e = simp length-append

-- the layout has as many bytes as its size says
pub length-layout : (d : Descriptor) → length (layout d) ≡ size d
length-layout d =
    let owner = length-sid_part d.owner in
    let group = length-sid_part d.group in
    let sacl = length-acl_part d.sacl in
    let dacl = length-acl_part d.dacl in
    length-five (descriptor_header d) (sid_part d.owner) (sid_part d.group) (acl_part d.sacl) (acl_part d.dacl)
    ∙ omega (arith, length-header d)

-- an ACL's size field tells its written size
pub acl_size-read : (bytes rest : List ℕ) (aces : List AccessControlEntry) → IsAcl aces → bytes ≡ acl_bytes aces ++ rest
    → u16_at 2 bytes ≡ acl_size aces
unfolding u16_at
acl_size-read bytes rest aces h found =
    ap (u16_at 2) found
    ∙ little_number-reads_back 2 (acl_size aces)
    (little_bytes 2 (length aces) ++ (0 ∷ 0 ∷ (flat_map ace_bytes aces ++ rest))) h.fits
