-- The bytes that a builder leaves have no gaps, and where the calls came in the order of the layout they are the
-- layout.
use Rattle.std.proofs.Common.{◌≡◌, ℕ, ◌+◌, Bool, true, false, List, [], ◌∷◌, ◌++◌, append-nil, length, Option, Some}
use Rattle.std.proofs.Common.{None, refl, sym, ap, subst, ◌∙◌, arith}
use Rattle.std.specs.Prelude.{if◌then◌else◌, is_some}
use Rattle.std.specs.List.{filter, flat_map}
use Rattle.sd_sid.specs.Sid.{SecurityId}
use Rattle.sd_parts.specs.Control.{control_of}
use Rattle.sd_view.specs.Layout.{acl_part, acl_part_size, layout, offset_if, parts_bytes, sid_part, sid_part_size}
use Rattle.sd_view.specs.WrittenForm.{IsWritten}
use Rattle.sd_view.specs.declared.acl_part.AclPart.{AclPart}
use Rattle.sd_view.specs.declared.acl_part.AclPart.TheVariants as acl
use Rattle.sd_parts.specs.declared.part.Part.{Part}
use Rattle.sd_parts.specs.declared.part.Part.TheVariants as part
use Rattle.sd_view.proofs.laws.LayoutSizes.{length-acl_part, length-sid_part}
use Rattle.sd_view.proofs.laws.Places.{offset-stands}
use Rattle.sd_builder.specs.Builds.{Builds}
use Rattle.sd_builder.specs.Draft.{Draft, DraftParts, built, built_bytes, is_present, offset_among, part_bytes}
use Rattle.sd_parts.specs.Parts.{same_part}
use Rattle.sd_parts.proofs.laws.PartLaws.{same-is}
use Rattle.sd_builder.specs.declared.builder.Builder.{Builder}
use Rattle.sd_builder.proofs.Building.{closed-from}
use Rattle.sd_builder.proofs.Finished.{exact, is-written}

-- ---- no gaps

-- as many bytes as the layout has, and each ACL in its one written form
pub builds-written : (b : Builder) (bytes : List ℕ) (t : Draft) (flags rm : ℕ) → Builds b bytes t
    → t.parts.«open» ≡ None → IsWritten (built_bytes flags rm t) (built flags rm t.parts)
unfolding Builds
builds-written b bytes t flags rm h e =
    let now = closed-from b bytes t t h e h in
    let word = control_of flags (is_present t.parts.sacl) (is_present t.parts.dacl) in
    subst (λ (x : List ℕ). IsWritten x (built flags rm t.parts)) (exact b bytes t flags rm word now.order refl)
    (is-written b bytes t.parts flags rm word now.parts)

-- ---- the order of the layout

abbrev pub is_listed : AclPart → Bool
is_listed acl.Absent = false
is_listed acl.Null = false
is_listed (acl.List aces) = true

abbrev pub has_bytes : DraftParts → Part → Bool
has_bytes t part.Owner = is_some t.owner
has_bytes t part.Group = is_some t.group
has_bytes t part.Sacl = is_listed t.sacl
has_bytes t part.Dacl = is_listed t.dacl

abbrev pub all_parts : List Part
all_parts = part.Owner ∷ part.Group ∷ part.Sacl ∷ part.Dacl ∷ []

-- the parts that have bytes, in the order of the layout
abbrev pub layout_order : DraftParts → List Part
layout_order t = filter (has_bytes t) all_parts

no-sid : (o : Option SecurityId) → is_some o ≡ false → sid_part o ≡ []
no-sid None e = refl
no-sid (Some s) e = absurd (cc)

no-acl : (a : AclPart) → is_listed a ≡ false → acl_part a ≡ []
no-acl acl.Absent e = refl
no-acl acl.Null e = refl
no-acl (acl.List aces) e = absurd (cc)

no-bytes : (t : DraftParts) (p : Part) → has_bytes t p ≡ false → part_bytes t p ≡ []
no-bytes t part.Owner e = no-sid t.owner e
no-bytes t part.Group e = no-sid t.group e
no-bytes t part.Sacl e = no-acl t.sacl e
no-bytes t part.Dacl e = no-acl t.dacl e

has-same : (t : DraftParts) (p q : Part) → same_part p q ≡ true → has_bytes t p ≡ has_bytes t q
has-same t p q e = ap (has_bytes t) (same-is p q e)

-- parts without bytes may be left out
bytes-of-those : (t : DraftParts) (ps : List Part)
    → flat_map (part_bytes t) (filter (has_bytes t) ps) ≡ flat_map (part_bytes t) ps
bytes-of-those t [] = refl
bytes-of-those t (p ∷ ps) = by_test (has_bytes t p) refl (bytes-of-those t ps)
  where
    by_test : (c : Bool) → has_bytes t p ≡ c
        → flat_map (part_bytes t) (filter (has_bytes t) ps) ≡ flat_map (part_bytes t) ps
        → flat_map (part_bytes t) (filter (has_bytes t) (p ∷ ps)) ≡ flat_map (part_bytes t) (p ∷ ps)
    by_test true e rest = rw (e, rest) refl
    by_test false e rest = rw (e, no-bytes t p e) rest

-- the offset of a part among those, and 0 where it is none of them
abbrev offset_if_any : ℕ → DraftParts → List Part → Part → ℕ
offset_if_any start t ps q = if has_bytes t q then offset_among start t ps q else 0

no-offset : (c : Bool) → ◌≡◌ {A = ℕ} 0 (if c then 0 else 0)
no-offset true = refl
no-offset false = refl

offset-of-those : (start : ℕ) (t : DraftParts) (ps : List Part) (q : Part)
    → offset_among start t (filter (has_bytes t) ps) q ≡ offset_if_any start t ps q
offset-of-those start t [] q = no-offset (has_bytes t q)
offset-of-those start t (p ∷ ps) q =
    by_tests (has_bytes t p) (same_part q p) refl refl (λ (n : ℕ). offset-of-those n t ps q)
  where
    by_tests : (c s : Bool) → has_bytes t p ≡ c → same_part q p ≡ s
        → ((n : ℕ) → offset_among n t (filter (has_bytes t) ps) q ≡ offset_if_any n t ps q)
        → offset_among start t (filter (has_bytes t) (p ∷ ps)) q ≡ offset_if_any start t (p ∷ ps) q
    by_tests true true e f rest = rw (e, f, has-same t q p f, e) refl
    by_tests true false e f rest = rw (e, f) (rest (start + length (part_bytes t p)))
    by_tests false true e f rest = rw (e, has-same t q p f, e) (rest start ∙ rw (has-same t q p f, e) refl)
    by_tests false false e f rest =
        let still : start ≡ start + 0 = omega arith in
        rw (e, f, no-bytes t p e) (rest start ∙ ap (λ (n : ℕ). offset_if_any n t ps q) still)

-- an offset by whether the part has bytes is one by its size
sid-offset : (o : Option SecurityId) (n m : ℕ) → n ≡ m → (if is_some o then n else 0) ≡ offset_if m (sid_part_size o)
sid-offset None n m e = refl
sid-offset (Some s) n m e = e ∙ sym (offset-stands m (sid_part_size (Some s)) (omega arith))

acl-offset : (a : AclPart) (n m : ℕ) → n ≡ m → (if is_listed a then n else 0) ≡ offset_if m (acl_part_size a)
acl-offset acl.Absent n m e = refl
acl-offset acl.Null n m e = refl
acl-offset (acl.List aces) n m e = e ∙ sym (offset-stands m (acl_part_size (acl.List aces)) (omega arith))

-- where the calls came in the order of the layout
pub built-layout : (flags rm : ℕ) (t : Draft) → t.order ≡ layout_order t.parts
    → built_bytes flags rm t ≡ layout (built flags rm t.parts)
built-layout flags rm t e =
    let u = t.parts in
    let word = control_of flags (is_present u.sacl) (is_present u.dacl) in
    let at = λ (p : Part). ap (λ (ps : List Part). offset_among 20 u ps p) e ∙ offset-of-those 20 u all_parts p in
    let o = length-sid_part u.owner in
    let g = length-sid_part u.group in
    let s = length-acl_part u.sacl in
    let owner = at part.Owner ∙ sid-offset u.owner 20 20 refl in
    let group = at part.Group ∙ sid-offset u.group _ (20 + sid_part_size u.owner) (omega (arith, o)) in
    let sacl = at part.Sacl
    ∙ acl-offset u.sacl _ (20 + sid_part_size u.owner + sid_part_size u.group) (omega (arith, o, g)) in
    let dacl = at part.Dacl
    ∙ acl-offset u.dacl _ (20 + sid_part_size u.owner + sid_part_size u.group + acl_part_size u.sacl)
    (omega (arith, o, g, s)) in
    let rest : flat_map (part_bytes u) t.order ≡ parts_bytes (built flags rm u) =
    ap (flat_map (part_bytes u)) e ∙ bytes-of-those u all_parts
    ∙ ap (λ (x : List ℕ). sid_part u.owner ++ (sid_part u.group ++ (acl_part u.sacl ++ x)))
    (append-nil (acl_part u.dacl)) in
    rw (owner, group, sacl, dacl, rest) refl
