-- Parts that stand in a builder's buffer: they stay where they are when more is appended, and when the header is
-- written.
use Rattle.std.proofs.Common.{◌≡◌, ◌≤◌, ◌<◌, inr, ℕ, ◌+◌, ◌^◌, List, [], ◌++◌, length, drop, false, Option, Some, None}
use Rattle.std.proofs.Common.{refl, sym, ap, ◌∙◌, append_assoc, arith, length-append, length-drop}
use Rattle.std.specs.Prelude.{unwrap_or}
use Rattle.std.proofs.lemmas.List.{append-nil, drop-append-le}
use Rattle.std.proofs.lemmas.Slice.{drop-append-drop}
use Rattle.std.proofs.Math.Seq.{drop-append_seam}
use Rattle.sd_sid.specs.Sid.{SecurityId, sid_bytes}
use Rattle.sd_sid.proofs.laws.SidLaws.{length-sid_bytes}
use Rattle.sd_acl_view.specs.AclLayout.{acl_bytes}
use Rattle.sd_builder.specs.Inner.Building.{Given, PartStands, PartsStand, Stands, closed_size, extent_at, extents_kept}
use Rattle.sd_builder.specs.Inner.Building.{given, given_acl, given_bytes, given_sid, given_size, list, nothing, null}
use Rattle.sd_builder.specs.Inner.Building.{placed, sid}
use Rattle.sd_view.specs.Descriptor.{Apart, Extent}
use Rattle.sd_builder.specs.Draft.{DraftParts}
use Rattle.sd_view.specs.declared.acl_part.AclPart.{AclPart}
use Rattle.sd_view.specs.declared.acl_part.AclPart.TheVariants as acl
use Rattle.sd_builder.specs.declared.builder.Builder.{Builder}
use Rattle.sd_parts.specs.Parts.{get_part, same_part}
use Rattle.sd_parts.specs.declared.part.Part.{Part}
use Rattle.sd_parts.specs.declared.part.Part.TheVariants as part
use Rattle.sd_parts.proofs.laws.PartLaws.{each-part, get-other, get-set}
use Rattle.sd_view.proofs.laws.ApartLaws.{apart-with}
use Rattle.sd_acl_view.proofs.laws.AclLayoutSizes.{acl_size-most, length-acl_bytes}

-- what stands in some bytes stands in others
abbrev pub Kept : List ℕ → List ℕ → Type 0
Kept bytes new = (offset : ℕ) (part : List ℕ) → Stands bytes offset part → Stands new offset part

pub appended : (bytes more : List ℕ) → Kept bytes (bytes ++ more)
appended bytes more offset part h = record {
  low = h.low;
  inside = omega (arith, h.inside, length-append bytes more);
  rest = h.rest ++ more;
  shape = drop-append-le offset bytes more (omega (arith, h.inside)) ∙ ap (λ (r : List ℕ). r ++ more) h.shape
      ∙ append_assoc part h.rest more;
}

pub headed : (bytes header : List ℕ) → length header ≡ 20 → Kept bytes (header ++ drop 20 bytes)
headed bytes header long offset part h = record {
  low = h.low;
  inside = omega (arith, long, h.low, h.inside, length-append header (drop 20 bytes), length-drop 20 bytes);
  rest = h.rest;
  shape = drop-append-drop 20 bytes header offset h.low long ∙ h.shape;
}

-- what is appended stands at the end
pub stands-last : (bytes part : List ℕ) → 20 ≤ length bytes → Stands (bytes ++ part) (length bytes) part
stands-last bytes part h = record {
  low = h;
  inside = omega (arith, length-append bytes part);
  rest = [];
  shape = drop-append_seam bytes part ∙ sym (append-nil part);
}

pub part-kept : (bytes new : List ℕ) (offset : Option ℕ) (g : Given) → Kept bytes new → PartStands bytes offset g
    → PartStands new offset g
part-kept bytes new None g k h = h
part-kept bytes new (Some offset) nothing k h = h
part-kept bytes new (Some offset) null k h = h
part-kept bytes new (Some offset) (sid s) k h = (h.0, k offset (sid_bytes s) h.1)
part-kept bytes new (Some offset) (list aces) k h = (h.0, k offset (acl_bytes aces) h.1)

-- what the builder keeps and what it was given agree on which parts there are
pub given-none : (bytes : List ℕ) (offset : Option ℕ) (g : Given) → PartStands bytes offset g → g ≡ nothing
    → offset ≡ None
given-none bytes None g h e = refl
given-none bytes (Some offset) nothing h e = absurd h
given-none bytes (Some offset) null h e = absurd (cc)
given-none bytes (Some offset) (sid s) h e = absurd (cc)
given-none bytes (Some offset) (list aces) h e = absurd (cc)

pub none-given : (bytes : List ℕ) (offset : Option ℕ) (g : Given) → PartStands bytes offset g → offset ≡ None
    → g ≡ nothing
none-given bytes None g h e = h
none-given bytes (Some offset) g h e = absurd (cc)

-- each extent ends within the bytes
abbrev EndsWithin : Extent → ℕ → Type 0
EndsWithin None n = Unit {0}
EndsWithin (Some p) n = p.1 ≤ n

part-ends : (bytes : List ℕ) (offset : Option ℕ) (g : Given) → PartStands bytes offset g
    → EndsWithin (extent_at offset g) (length bytes)
part-ends bytes None g h = tt
part-ends bytes (Some offset) nothing h = tt
part-ends bytes (Some offset) null h = tt
part-ends bytes (Some offset) (sid s) h = omega (arith, h.1.inside, length-sid_bytes s)
part-ends bytes (Some offset) (list aces) h = omega (arith, h.1.inside, length-acl_bytes aces)

-- so a part at the end of the bytes shares none with another
last-apart : (n : ℕ) (g : Given) (e : Extent) → EndsWithin e n → Apart (extent_at (Some n) g) e
last-apart n nothing e h = tt
last-apart n null e h = tt
last-apart n (sid s) None h = tt
last-apart n (sid s) (Some p) h = inr h
last-apart n (list aces) None h = tt
last-apart n (list aces) (Some p) h = inr h

-- the offsets and the number of the bytes are small
pub part-small : (bytes : List ℕ) (offset : Option ℕ) (g : Given) → PartStands bytes offset g → length bytes ≤ 131226
    → unwrap_or offset 0 < 2 ^ 32
part-small bytes None g h room = omega arith
part-small bytes (Some offset) nothing h room = absurd h
part-small bytes (Some offset) null h room = omega (arith, h)
part-small bytes (Some offset) (sid s) h room = omega (arith, h.1.inside, room)
part-small bytes (Some offset) (list aces) h room = omega (arith, h.1.inside, room)

sid-most : (bytes : List ℕ) (offset : Option ℕ) (o : Option SecurityId) → PartStands bytes offset (given_sid o)
    → length (given_bytes (given_sid o)) ≤ 68
sid-most bytes offset None h = omega arith
sid-most bytes None (Some s) h = absurd (cc)
sid-most bytes (Some offset) (Some s) h = omega (arith, h.0.count, length-sid_bytes s)

acl-most : (bytes : List ℕ) (offset : Option ℕ) (p : AclPart) → PartStands bytes offset (given_acl p)
    → length (given_bytes (given_acl p)) ≤ 65532
acl-most bytes offset acl.Absent h = omega arith
acl-most bytes offset acl.Null h = omega arith
acl-most bytes None (acl.List aces) h = absurd (cc)
acl-most bytes (Some offset) (acl.List aces) h = omega (arith, length-acl_bytes aces, acl_size-most aces h.0)

-- The bytes that there is room for, where a part is not given yet. For an ACL they are six more than it has at most,
-- since the size of an ACL is a multiple of four.
abbrev pub most_of : Part → ℕ
most_of part.Owner = 68
most_of part.Group = 68
most_of part.Sacl = 65538
most_of part.Dacl = 65538

-- the header stands, and there is room for the parts that are not given yet
pub record Room (bytes : List ℕ) (t : DraftParts) : Type 0 where
  pub low : 20 ≤ length bytes
  pub most : length bytes ≤ 131226
  pub left : (p : Part) → given t p ≡ nothing → length bytes + most_of p ≤ 131226

pub room : (bytes : List ℕ) (b : Builder) (t : DraftParts) → PartsStand bytes b t → Room bytes t
room bytes b t h =
    let owner = sid-most bytes b.offsets.owner t.owner (h.each part.Owner) in
    let group = sid-most bytes b.offsets.group t.group (h.each part.Group) in
    let sacl = acl-most bytes b.offsets.sacl t.sacl (h.each part.Sacl) in
    let dacl = acl-most bytes b.offsets.dacl t.dacl (h.each part.Dacl) in
    record {
      low = omega (arith, h.size);
      most = omega (arith, h.size);
      left = elim [
        | part.Owner ↦ λ e. omega (arith, h.size, ap given_size e)
        | part.Group ↦ λ e. omega (arith, h.size, ap given_size e)
        | part.Sacl ↦ λ e. omega (arith, h.size, ap given_size e)
        | part.Dacl ↦ λ e. omega (arith, h.size, ap given_size e)
      ];
    }

-- one part more is given
pub record IsOneMore (t u : DraftParts) (p : Part) (g : Given) : Type 0 where
  pub is : given u p ≡ g
  pub free : given t p ≡ nothing
  pub others : (q : Part) → same_part p q ≡ false → given u q ≡ given t q

closed-more : (t u : DraftParts) (p : Part) (g : Given) → IsOneMore t u p g
    → closed_size u ≡ closed_size t + given_size g
closed-more t u p g h =
    let is = ap given_size h.is in
    let free = ap given_size h.free in
    let same = λ (q : Part) (e : same_part p q ≡ false). ap given_size (h.others q e) in
    by_part p is free same
  where
    by_part : (p : Part) → given_size (given u p) ≡ given_size g → given_size (given t p) ≡ 0
        → ((q : Part) → same_part p q ≡ false → given_size (given u q) ≡ given_size (given t q))
        → closed_size u ≡ closed_size t + given_size g
    by_part part.Owner is free same =
        omega (arith, is, free, same part.Group refl, same part.Sacl refl, same part.Dacl refl)
    by_part part.Group is free same =
        omega (arith, is, free, same part.Owner refl, same part.Sacl refl, same part.Dacl refl)
    by_part part.Sacl is free same =
        omega (arith, is, free, same part.Owner refl, same part.Group refl, same part.Dacl refl)
    by_part part.Dacl is free same =
        omega (arith, is, free, same part.Owner refl, same part.Group refl, same part.Sacl refl)

-- where a part stands, by what is kept and what is given of it
extent-kept : (b : Builder) (t : DraftParts) (p : Part)
    → get_part p (extents_kept b t) ≡ extent_at (get_part p b.offsets) (given t p)
extent-kept b t part.Owner = refl
extent-kept b t _ = refl

one-more : (bytes new : List ℕ) (b : Builder) (t u : DraftParts) (p : Part) (n : ℕ) (g : Given) → IsOneMore t u p g
    → Kept bytes new → PartStands new (Some n) g → length new ≡ length bytes + given_size g
    → ((e : Extent) → EndsWithin e (length bytes) → Apart (extent_at (Some n) g) e)
    → PartsStand bytes b t → PartsStand new (placed p n b) u
one-more bytes new b t u p n g more keep stands long beside h =
    let there = get-set p (Some n) b.offsets in
    let same = λ (q : Part) (other : same_part p q ≡ false). get-other p q (Some n) b.offsets other in
    let here : get_part p (extents_kept (placed p n b) u) ≡ extent_at (Some n) g =
    extent-kept (placed p n b) u p ∙ rw (there, more.is) refl in
    record {
      each = each-part (λ q. PartStands new (get_part q (placed p n b).offsets) (given u q)) p
          (rw (there, more.is) stands)
          (λ q other. rw (same q other, more.others q other) (part-kept bytes new _ _ keep (h.each q)));
      apart = apart-with (extents_kept b t) (extents_kept (placed p n b) u) p h.apart
          (λ q other.
          extent-kept (placed p n b) u q ∙ rw (same q other, more.others q other) (sym (extent-kept b t q)))
          (λ q other. rw (here, extent-kept b t q) (beside _ (part-ends bytes _ _ (h.each q))));
      size = omega (arith, h.size, long, closed-more t u p g more);
    }

-- a part with bytes more, or a null ACL
pub part-more : (bytes : List ℕ) (b : Builder) (t u : DraftParts) (p : Part) (g : Given) → IsOneMore t u p g
    → PartStands (bytes ++ given_bytes g) (Some (length bytes)) g → PartsStand bytes b t
    → PartsStand (bytes ++ given_bytes g) (placed p (length bytes) b) u
part-more bytes b t u p g more stands h =
    one-more bytes _ b t u p (length bytes) g more (appended bytes (given_bytes g)) stands
    (length-append bytes (given_bytes g)) (last-apart (length bytes) g) h

pub null-more : (bytes : List ℕ) (b : Builder) (t u : DraftParts) (p : Part) → IsOneMore t u p null
    → PartsStand bytes b t → PartsStand bytes (placed p 0 b) u
null-more bytes b t u p more h =
    one-more bytes bytes b t u p 0 null more (λ offset part stands. stands) refl (omega arith) (λ e ends. tt) h
