-- No bytes that show a descriptor are fewer than its size says.
use Rattle.std.proofs.Common.{◌≡◌, ◌≤◌, ◌⊎◌, inl, inr, ℕ, ◌+◌, Bool, List, length, drop, Option, Some, None, refl, ap}
use Rattle.std.proofs.Common.{◌∙◌, arith, length-append, length-drop}
use Rattle.sd_ace.specs.Ace.{AccessControlEntry}
use Rattle.sd_sid.specs.Sid.{SecurityId}
use Rattle.sd_acl_view.specs.Acl.{BeginsWithAcl, acl_size}
use Rattle.sd_acl_view.specs.Bytes.{u16_at}
use Rattle.sd_view.specs.Descriptor.{Apart, AreApart, Descriptor, Extent, Shows, ShowsAclPart, ShowsSid, acl_extent}
use Rattle.sd_view.specs.Descriptor.{dacl_at, group_at, owner_at, sacl_at, sid_extent}
use Rattle.sd_parts.specs.Control.{dacl_present, sacl_present}
use Rattle.sd_parts.specs.declared.part.Part.TheVariants.{Owner, Group, Sacl, Dacl}
use Rattle.sd_view.specs.Layout.{acl_part_size, sid_part_size, size}
use Rattle.sd_view.specs.declared.acl_part.AclPart.{AclPart}
use Rattle.sd_view.specs.declared.acl_part.AclPart.TheVariants as acl
use Rattle.sd_acl_view.proofs.laws.AclLaws.{acl-fits, sid-room, u16_at-front}

-- an ACL's extent is as long as its size field says, and at least as long as its written size
acl-inside : (offset : ℕ) (bytes : List ℕ) (aces : List AccessControlEntry) → 20 ≤ offset
    → BeginsWithAcl (drop offset bytes) aces
    → (acl_size aces ≤ u16_at 2 (drop offset bytes)) × (offset + u16_at 2 (drop offset bytes) ≤ length bytes)
acl-inside offset bytes aces low (extent, rest, shape, h) =
    let field : u16_at 2 (drop offset bytes) ≡ length extent = ap (u16_at 2) shape
    ∙ u16_at-front 2 extent rest (omega (arith, h.header)) ∙ h.size in
    let whole = ap length shape in
    let header = h.header in (
      omega (arith, field, acl-fits extent aces h),
      omega (arith, field, whole, header, length-append extent rest, length-drop offset bytes),
    )

-- A part's extent: past the header, inside the bytes, and with room for the part. One that does not
-- stand has the empty extent after the header.
abbrev first_of : Extent → ℕ
first_of None = 20
first_of (Some p) = p.0

abbrev extent_end : Extent → ℕ
extent_end None = 20
extent_end (Some p) = p.1

record HoldsExtent (e : Extent) (n total : ℕ) : Type 0 where
  low : 20 ≤ first_of e
  room : first_of e + n ≤ extent_end e
  inside : extent_end e ≤ total

sid-held : (bytes : List ℕ) (offset : ℕ) (o : Option SecurityId) → 20 ≤ length bytes → ShowsSid bytes offset o
    → HoldsExtent (sid_extent offset o) (sid_part_size o) (length bytes)
sid-held bytes offset None header h = record { low = omega arith; room = omega arith; inside = header }
sid-held bytes offset (Some s) header h = record { low = h.0; room = omega arith; inside = sid-room offset bytes s h.1 }

acl-held : (bytes : List ℕ) (present : Bool) (offset : ℕ) (p : AclPart) → 20 ≤ length bytes
    → ShowsAclPart bytes present offset p
    → HoldsExtent (acl_extent bytes offset p) (acl_part_size p) (length bytes)
acl-held bytes present offset acl.Absent header h = record { low = omega arith; room = omega arith; inside = header }
acl-held bytes present offset acl.Null header h = record { low = omega arith; room = omega arith; inside = header }
acl-held bytes present offset (acl.List aces) header h =
    let found = acl-inside offset bytes aces h.1 h.2 in
    record { low = h.1; room = omega (arith, found.0); inside = found.1 }

-- of two extents that share no byte one ends before the other begins
follows : (e f : Extent) → Apart e f → 20 ≤ first_of e → 20 ≤ first_of f → (extent_end e ≤ first_of f)
    ⊎ (extent_end f ≤ first_of e)
follows None f h low high = inl high
follows (Some p) None h low high = inr low
follows (Some p) (Some q) h low high = h

-- so four extents, of which no two share a byte, have room for four parts one after the other
four-fit : (e f g h : Extent) (k l m n total : ℕ) → HoldsExtent e k total → HoldsExtent f l total
    → HoldsExtent g m total
    → HoldsExtent h n total
    → AreApart (record { owner = e; group = f; sacl = g; dacl = h }) → 20 + k + l + m + n ≤ total
four-fit e f g h k l m n total owner group sacl dacl apart =
    let owner_group = follows e f (apart Owner Group refl) owner.low group.low in
    let owner_sacl = follows e g (apart Owner Sacl refl) owner.low sacl.low in
    let owner_dacl = follows e h (apart Owner Dacl refl) owner.low dacl.low in
    let group_sacl = follows f g (apart Group Sacl refl) group.low sacl.low in
    let group_dacl = follows f h (apart Group Dacl refl) group.low dacl.low in
    let sacl_dacl = follows g h (apart Sacl Dacl refl) sacl.low dacl.low in
    grind arith

-- bytes that show a descriptor are at least as many as its size says
pub size-least : (bytes : List ℕ) (d : Descriptor) → Shows bytes d → size d ≤ length bytes
size-least bytes d h =
    four-fit _ _ _ _ (sid_part_size d.owner) (sid_part_size d.group) (acl_part_size d.sacl) (acl_part_size d.dacl)
    (length bytes)
    (sid-held bytes (owner_at bytes) d.owner h.header h.owner)
    (sid-held bytes (group_at bytes) d.group h.header h.group)
    (acl-held bytes (sacl_present d.control) (sacl_at bytes) d.sacl h.header h.sacl)
    (acl-held bytes (dacl_present d.control) (dacl_at bytes) d.dacl h.header h.dacl)
    h.apart
