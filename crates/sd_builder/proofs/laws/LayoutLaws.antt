-- The layout of a descriptor shows it.
use Rattle.std.proofs.Common.{◌≡◌, ◌≤◌, ◌<◌, inl, ℕ, ◌+◌, ◌^◌, Bool, true, false, cond, List, [], ◌++◌}
use Rattle.std.proofs.Common.{drop, slice_index, Option, Some, None, refl, sym, ap, ◌∙◌, arith}
use Rattle.std.specs.Prelude.{◌==◌, if◌then◌else◌, IfSome}
use Rattle.std.proofs.lemmas.List.{append-nil}
use Rattle.byteorder.specs.Endian.{little_bytes}
use Rattle.byteorder.specs.Numbers.{little_number-reads_back}
use Rattle.sd_sid.specs.Sid.{SecurityId, IsSid, sid_size}
use Rattle.sd_acl_view.specs.Acl.{acl_size}
use Rattle.sd_acl_view.specs.AclLayout.{acl_bytes}
use Rattle.sd_acl_view.specs.Bytes.{u16_at, u32_at}
use Rattle.sd_view.specs.Descriptor.{Apart, AreApart, Descriptor, Extent, IsAclPart, IsDescriptor, Shows, ShowsAclPart}
use Rattle.sd_view.specs.Descriptor.{ShowsSid, acl_extent, control_at, dacl_at, group_at, owner_at, sacl_at, sid_extent}
use Rattle.sd_view.specs.Layout.{acl_part, acl_part_size, dacl_offset, descriptor_header, group_offset, layout}
use Rattle.sd_view.specs.Layout.{offset_if, offsets, parts_bytes, sacl_offset, sid_part, sid_part_size}
use Rattle.sd_parts.specs.Header.{header_bytes}
use Rattle.sd_parts.specs.declared.part.Parts.{Parts}
use Rattle.sd_view.specs.declared.acl_part.AclPart.{AclPart}
use Rattle.sd_view.specs.declared.acl_part.AclPart.TheVariants as acl
use Rattle.sd_view.proofs.laws.ApartLaws.{six-apart}
use Rattle.sd_view.proofs.laws.LayoutSizes.{acl_size-read, length-acl_part, length-header, length-layout}
use Rattle.sd_view.proofs.laws.LayoutSizes.{length-sid_part, size-most}
use Rattle.sd_view.proofs.laws.Places.{after, not-zero, offset-stands}
use Rattle.sd_builder.proofs.laws.AclLayoutLaws.{acl_bytes-shows}

-- the fields of a header
module _ (rm control : ℕ) (o : Parts ℕ) (rest : List ℕ) where
  pub header-revision : slice_index (header_bytes rm control o ++ rest) 0 ≡ 1
  unfolding header_bytes
  header-revision = refl

  pub header-rm : slice_index (header_bytes rm control o ++ rest) 1 ≡ rm
  unfolding header_bytes
  header-rm = refl

  pub header-control : control < 2 ^ 16 → u16_at 2 (header_bytes rm control o ++ rest) ≡ control
  unfolding u16_at header_bytes
  header-control h =
      little_number-reads_back 2 control
      (little_bytes 4 o.owner
      ++ (little_bytes 4 o.group ++ (little_bytes 4 o.sacl ++ (little_bytes 4 o.dacl ++ rest)))) h

  pub header-owner : o.owner < 2 ^ 32 → u32_at 4 (header_bytes rm control o ++ rest) ≡ o.owner
  unfolding u32_at header_bytes
  header-owner h =
      little_number-reads_back 4 o.owner
      (little_bytes 4 o.group ++ (little_bytes 4 o.sacl ++ (little_bytes 4 o.dacl ++ rest))) h

  pub header-group : o.group < 2 ^ 32 → u32_at 8 (header_bytes rm control o ++ rest) ≡ o.group
  unfolding u32_at header_bytes
  header-group h = little_number-reads_back 4 o.group (little_bytes 4 o.sacl ++ (little_bytes 4 o.dacl ++ rest)) h

  pub header-sacl : o.sacl < 2 ^ 32 → u32_at 12 (header_bytes rm control o ++ rest) ≡ o.sacl
  unfolding u32_at header_bytes
  header-sacl h = little_number-reads_back 4 o.sacl (little_bytes 4 o.dacl ++ rest) h

  pub header-dacl : o.dacl < 2 ^ 32 → u32_at 16 (header_bytes rm control o ++ rest) ≡ o.dacl
  unfolding u32_at header_bytes
  header-dacl h = little_number-reads_back 4 o.dacl rest h

cond-most : (b : Bool) (n : ℕ) → cond b 0 n ≤ n
cond-most true n = omega arith
cond-most false n = omega arith

-- where a part of a size stands that begins at an offset
abbrev extent_if : ℕ → ℕ → Extent
extent_if start n = if n == 0 then None else Some (start, start + n)

offset-most : (start n : ℕ) → offset_if start n ≤ start
offset-most start n = cond-most (n == 0) start

extent-stands : (start n : ℕ) → 0 < n → extent_if start n ≡ Some (start, start + n)
extent-stands start n h = rw (not-zero n h) refl

-- parts that follow each other share no byte
cond-apart : (b c : Bool) (p q : ℕ × ℕ) → p.1 ≤ q.0 → Apart (cond b None (Some p)) (cond c None (Some q))
cond-apart true c p q h = tt
cond-apart false true p q h = tt
cond-apart false false p q h = inl h

apart : (p m q n : ℕ) → p + m ≤ q → Apart (extent_if p m) (extent_if q n)
apart p m q n h = cond-apart (m == 0) (n == 0) (p, p + m) (q, q + n) h

parts-apart : (p k l m n : ℕ)
    → AreApart (record {
      owner = extent_if p k;
      group = extent_if (p + k) l;
      sacl = extent_if (p + k + l) m;
      dacl = extent_if (p + k + l + m) n;
    })
parts-apart p k l m n =
    six-apart _ (apart p k (p + k) l (omega arith)) (apart p k (p + k + l) m (omega arith))
    (apart p k (p + k + l + m) n (omega arith)) (apart (p + k) l (p + k + l) m (omega arith))
    (apart (p + k) l (p + k + l + m) n (omega arith)) (apart (p + k + l) m (p + k + l + m) n (omega arith))

-- a SID that stands where it begins is shown there
sid-stands : (bytes rest : List ℕ) (offset start : ℕ) (o : Option SecurityId)
    → offset ≡ offset_if start (sid_part_size o)
    → drop start bytes ≡ sid_part o ++ rest → 20 ≤ start → IfSome o IsSid
    → ShowsSid bytes offset o × (sid_extent offset o ≡ extent_if start (sid_part_size o))
sid-stands bytes rest offset start None at shape low h = (at, refl)
sid-stands bytes rest offset start (Some s) at shape low h =
    let same : offset ≡ start = at ∙ offset-stands start (sid_size s) (omega arith) in
    let extent = extent-stands start (sid_size s) (omega arith) in (
      (omega (arith, same, low), record { limits = h; rest = rest; shape = ap (λ (n : ℕ). drop n bytes) same ∙ shape }),
      ap (λ (n : ℕ). sid_extent n (Some s)) same ∙ sym extent,
    )

-- so is an ACL
acl-stands : (bytes rest : List ℕ) (offset start : ℕ) (present : Bool) (p : AclPart)
    → offset ≡ offset_if start (acl_part_size p)
    → drop start bytes ≡ acl_part p ++ rest → 20 ≤ start → IsAclPart present p
    → ShowsAclPart bytes present offset p × (acl_extent bytes offset p ≡ extent_if start (acl_part_size p))
acl-stands bytes rest offset start present acl.Absent at shape low h = (h, refl)
acl-stands bytes rest offset start present acl.Null at shape low h = ((h, at), refl)
acl-stands bytes rest offset start present (acl.List aces) at shape low h =
    let same : offset ≡ start = at ∙ offset-stands start (acl_size aces) (omega arith) in
    let extent = extent-stands start (acl_size aces) (omega arith) in
    let found : drop offset bytes ≡ acl_bytes aces ++ rest = ap (λ (n : ℕ). drop n bytes) same ∙ shape in
    let long = acl_size-read (drop offset bytes) rest aces h.1 found in (
      (h.0, omega (arith, same, low), (acl_bytes aces, rest, found, acl_bytes-shows aces h.1)),
      ap (λ (n : ℕ). Some (offset, offset + n)) long ∙ ap (λ (n : ℕ). Some (n, n + acl_size aces)) same ∙ sym extent,
    )

-- the fields of the layout's header
offset-small : (start n : ℕ) → start ≤ 131220 → offset_if start n < 2 ^ 32
offset-small start n h = omega (arith, offset-most start n)

record Header (d : Descriptor) : Type 0 where
  revision : slice_index (layout d) 0 ≡ 1
  rm : slice_index (layout d) 1 ≡ d.rm
  control : control_at (layout d) ≡ d.control
  owner : owner_at (layout d) ≡ offset_if 20 (sid_part_size d.owner)
  group : group_at (layout d) ≡ offset_if (group_offset d) (sid_part_size d.group)
  sacl : sacl_at (layout d) ≡ offset_if (sacl_offset d) (acl_part_size d.sacl)
  dacl : dacl_at (layout d) ≡ offset_if (dacl_offset d) (acl_part_size d.dacl)

header : (d : Descriptor) → IsDescriptor d → Header d
header d h =
    let most = size-most d h in
    let o = offsets d in
    let rest = parts_bytes d in
    record {
      revision = header-revision d.rm d.control o rest;
      rm = header-rm d.rm d.control o rest;
      control = header-control d.rm d.control o rest h.control;
      owner = header-owner d.rm d.control o rest (offset-small 20 (sid_part_size d.owner) (omega arith));
      group = header-group d.rm d.control o rest (offset-small (group_offset d) (sid_part_size d.group) (omega arith));
      sacl = header-sacl d.rm d.control o rest (offset-small (sacl_offset d) (acl_part_size d.sacl) (omega arith));
      dacl = header-dacl d.rm d.control o rest (offset-small (dacl_offset d) (acl_part_size d.dacl) (omega arith));
    }

-- what stands from the first byte of each part on
record Rests (d : Descriptor) : Type 0 where
  owner : drop 20 (layout d) ≡ sid_part d.owner ++ (sid_part d.group ++ (acl_part d.sacl ++ acl_part d.dacl))
  group : drop (group_offset d) (layout d) ≡ sid_part d.group ++ (acl_part d.sacl ++ acl_part d.dacl)
  sacl : drop (sacl_offset d) (layout d) ≡ acl_part d.sacl ++ acl_part d.dacl
  dacl : drop (dacl_offset d) (layout d) ≡ acl_part d.dacl ++ []

rests : (d : Descriptor) → IsDescriptor d → Rests d
rests d h =
    let bytes = layout d in
    let acls = acl_part d.sacl ++ acl_part d.dacl in
    let owner = after 0 20 bytes (descriptor_header d) (sid_part d.owner ++ (sid_part d.group ++ acls))
    (length-header d) refl in
    let group = after 20 (sid_part_size d.owner) bytes (sid_part d.owner) (sid_part d.group ++ acls)
    (length-sid_part d.owner) owner in
    let sacl = after (group_offset d) (sid_part_size d.group) bytes (sid_part d.group) acls (length-sid_part d.group)
    group in
    let dacl = after (sacl_offset d) (acl_part_size d.sacl) bytes (acl_part d.sacl) (acl_part d.dacl)
    (length-acl_part d.sacl) sacl in
    record { owner = owner; group = group; sacl = sacl; dacl = dacl ∙ sym (append-nil (acl_part d.dacl)) }

-- the layout of a descriptor shows it
pub layout-shows : (d : Descriptor) → IsDescriptor d → Shows (layout d) d
layout-shows d h =
    let bytes = layout d in
    let first = header d h in
    let rest = rests d h in
    let owner = sid-stands bytes _ (owner_at bytes) 20 d.owner first.owner rest.owner (omega arith) h.owner in
    let group = sid-stands bytes _ (group_at bytes) (group_offset d) d.group first.group rest.group (omega arith)
    h.group in
    let sacl = acl-stands bytes _ (sacl_at bytes) (sacl_offset d) _ d.sacl first.sacl rest.sacl (omega arith) h.sacl in
    let dacl = acl-stands bytes _ (dacl_at bytes) (dacl_offset d) _ d.dacl first.dacl rest.dacl (omega arith) h.dacl in
    record {
      header = omega (arith, length-layout d);
      revision = first.revision;
      rm = first.rm;
      control = first.control;
      relative = h.relative;
      owner = owner.0;
      group = group.0;
      sacl = sacl.0;
      dacl = dacl.0;
      apart = rw (owner.1, group.1, sacl.1, dacl.1)
          (parts-apart 20 (sid_part_size d.owner) (sid_part_size d.group) (acl_part_size d.sacl)
          (acl_part_size d.dacl));
    }
