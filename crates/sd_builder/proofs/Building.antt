-- How each call of a builder goes on with what was built. A call's condition speaks of one draft; what the builder
-- keeps shows that the condition then holds of each draft that it was given.
use Rattle.std.proofs.Common.{◌≡◌, ◌≤◌, ◌<◌, ℕ, ◌+◌, ◌%◌, ◌^◌, ◌||◌, Bool, false, List, [], ◌∷◌, ◌++◌, length, take}
use Rattle.std.proofs.Common.{drop, Option, Some, None, refl, sym, ap, subst, ◌∙◌, append_assoc, arith, length-append}
use Rattle.std.specs.Prelude.{IsSome}
use Rattle.std.specs.List.{flat_map}
use Rattle.std.proofs.lemmas.Grind.{flat_map-append}
use Rattle.std.proofs.lemmas.List.{append-nil, drop_all, drop_at, take_at}
use Rattle.std.proofs.lemmas.List.Folds.{list_any-append}
use Rattle.std.proofs.Math.Seq.{drop-append-add}
use Rattle.std.proofs.Math.Bool.{or-false}
use Rattle.byteorder.specs.Endian.{little_bytes}
use Rattle.sd_ace.specs.Ace.{AccessControlEntry, IsAce, ace_size}
use Rattle.sd_kinds.specs.Kinds.{is_object}
use Rattle.sd_sid.specs.Sid.{SecurityId, IsSid, sid_bytes}
use Rattle.sd_acl_view.specs.Acl.{acl_size, has_object}
use Rattle.sd_ace.specs.AceLayout.{ace_bytes}
use Rattle.sd_acl_view.specs.AclLayout.{acl_bytes, acl_header, revision_if}
use Rattle.sd_builder.specs.Builds.{Builds}
use Rattle.sd_builder.specs.Inner.Building.{Building, OpenAt, OpenIsFree, OpenStands, PartStands, PartsStand}
use Rattle.sd_builder.specs.Inner.Building.{StandsInOrder, given, given_acl, given_sid, list, nothing, placed, sid}
use Rattle.sd_builder.specs.Draft.{CanBegin, Draft, DraftParts, IsOpen, IsOpenIn, acl_for, begun, closed_in, ended}
use Rattle.sd_builder.specs.Draft.{ended_in, nothing_given, open_size, open_size_in, sid_for, with_ace, with_acl}
use Rattle.sd_builder.specs.Draft.{with_sid}
use Rattle.sd_view.specs.declared.acl_part.AclPart.{AclPart}
use Rattle.sd_view.specs.declared.acl_part.AclPart.TheVariants as acl
use Rattle.sd_builder.specs.declared.builder.Builder.{Builder}
use Rattle.sd_builder.specs.declared.builder.OpenAcl.{OpenAcl}
use Rattle.sd_parts.specs.declared.part.Which.{Which}
use Rattle.sd_parts.specs.declared.part.Which.TheVariants as lists
use Rattle.sd_parts.specs.Parts.{each_part, get_part, part_of, same_part, sid_part_of}
use Rattle.sd_parts.specs.declared.part.Part.{Part}
use Rattle.sd_parts.specs.declared.part.Part.TheVariants as part
use Rattle.sd_parts.specs.declared.part.SidPart.{SidPart}
use Rattle.sd_parts.specs.declared.part.SidPart.TheVariants as sids
use Rattle.sd_view.proofs.laws.ApartLaws.{six-apart}
use Rattle.sd_acl_view.proofs.laws.AceLists.{all-more, size-more}
use Rattle.sd_acl_view.proofs.laws.AclLayoutSizes.{acl_size-fourth, aces-many, length-aces}
use Rattle.sd_builder.proofs.Order.{given-reopened, more-order, null-order, order-reopened}
use Rattle.sd_builder.proofs.Standing.{IsOneMore, given-none, none-given, null-more, part-more, room, stands-last}

-- what the builder keeps and what it was given agree on which ACL is open
open-given : (front tail : List ℕ) (o : Option OpenAcl) (u : Option (Which × List AccessControlEntry))
    → OpenStands front tail o u → u ≡ None → o ≡ None
open-given front tail None u h e = refl
open-given front tail (Some o) None h e = absurd h
open-given front tail (Some o) (Some u) h e = absurd (cc)

given-open : (front tail : List ℕ) (o : Option OpenAcl) (u : Option (Which × List AccessControlEntry))
    → OpenStands front tail o u → o ≡ None
    → (u ≡ None) × (tail ≡ [])
given-open front tail None None h e = (refl, h)
given-open front tail None (Some u) h e = absurd h
given-open front tail (Some o) u h e = absurd (cc)

-- no ACL is open: all that the buffer holds is closed
pub record IsClosed (b : Builder) (bytes : List ℕ) (t : Draft) : Type 0 where
  pub parts : PartsStand bytes b t.parts
  pub order : StandsInOrder bytes b t
  pub kept : b.open ≡ None
  pub given : t.parts.«open» ≡ None

is_closed : (b : Builder) (bytes : List ℕ) (t : Draft) → Building b bytes t → b.open ≡ None → IsClosed b bytes t
is_closed b bytes t h e =
    let o = given-open h.closed h.tail b.open t.parts.«open» h.«open» e in
    let whole : bytes ≡ h.closed = h.shape ∙ ap (λ (r : List ℕ). h.closed ++ r) o.1 ∙ append-nil h.closed in
    record {
      parts = subst (λ (r : List ℕ). PartsStand r b t.parts) (sym whole) h.parts;
      order = subst (λ (r : List ℕ). StandsInOrder r b t) (sym whole) h.order;
      kept = e;
      given = o.0;
    }

pub closed-from : (b : Builder) (bytes : List ℕ) (t0 t : Draft) → Building b bytes t0
    → t0.parts.«open» ≡ None → Building b bytes t → IsClosed b bytes t
closed-from b bytes t0 t h0 e h =
    is_closed b bytes t h (open-given h0.closed h0.tail b.open t0.parts.«open» h0.«open» e)

no_open : (bytes : List ℕ) (o : Option OpenAcl) (u : Option (Which × List AccessControlEntry)) → o ≡ None → u ≡ None
    → OpenStands bytes [] o u
no_open bytes None None e f = refl
no_open bytes None (Some u) e f = absurd (cc)
no_open bytes (Some o) u e f = absurd (cc)

no_free : (u : Option (Which × List AccessControlEntry)) (t : DraftParts) → u ≡ None → OpenIsFree u t
no_free None t e = tt
no_free (Some u) t e = absurd (cc)

building : (b : Builder) (bytes : List ℕ) (t : Draft) → PartsStand bytes b t.parts → StandsInOrder bytes b t
    → b.open ≡ None → t.parts.«open» ≡ None → Building b bytes t
building b bytes t parts order kept given = record {
  closed = bytes;
  tail = [];
  shape = sym (append-nil bytes);
  parts = parts;
  order = order;
  «open» = no_open bytes b.open t.parts.«open» kept given;
  free = no_free t.parts.«open» t.parts given;
}

-- which ACL is open, and how far, is no matter of the parts
reopened : (bytes : List ℕ) (b : Builder) (t : DraftParts) (o : Option OpenAcl)
    (u : Option (Which × List AccessControlEntry)) → PartsStand bytes b t
    → PartsStand bytes (record b { «open» = o }) (record t { «open» = u })
reopened bytes b t o u h = record {
  each = λ p. subst (λ g. PartStands bytes (get_part p b.offsets) g) (sym (given-reopened t u p)) (h.each p);
  apart = h.apart;
  size = h.size;
}

acl_for-open : (w : Which) (t : DraftParts) (u : Option (Which × List AccessControlEntry))
    → acl_for w (record t { «open» = u }) ≡ acl_for w t
acl_for-open lists.Sacl t u = refl
acl_for-open lists.Dacl t u = refl

-- new
pub new-builds : (bytes : List ℕ) → length bytes ≡ 20
    → Builds (record { offsets = each_part None; «open» = None }) bytes nothing_given
unfolding Builds
new-builds bytes long =
    building _ bytes nothing_given
    (record {
      each = elim [ part.Owner ↦ refl | part.Group ↦ refl | part.Sacl ↦ refl | part.Dacl ↦ refl ];
      apart = six-apart (each_part None) tt tt tt tt tt tt;
      size = long;
    })
    (record {
      shape = drop_all 20 bytes (omega (arith, long));
      offset = elim [ part.Owner ↦ refl | part.Group ↦ refl | part.Sacl ↦ refl | part.Dacl ↦ refl ];
    })
    refl refl

-- a SID that is not given yet
pub free-sid : (t : DraftParts) (p : SidPart) → sid_for p t ≡ None → given t (sid_part_of p) ≡ nothing
free-sid t sids.Owner e = ap given_sid e
free-sid t sids.Group e = ap given_sid e

-- there is room for it
pub sid-room : (b : Builder) (bytes : List ℕ) (t : Draft) (p : SidPart) → Builds b bytes t
    → given t.parts (sid_part_of p) ≡ nothing → t.parts.«open» ≡ None → length bytes + 68 ≤ 131226
unfolding Builds
sid-room b bytes t sids.Owner h free e =
    (room bytes b t.parts (closed-from b bytes t t h e h).parts).left part.Owner free
sid-room b bytes t sids.Group h free e =
    (room bytes b t.parts (closed-from b bytes t t h e h).parts).left part.Group free

-- one draft lacks a part, and so each does
still-free : (b : Builder) (bytes : List ℕ) (t0 t : Draft) (p : Part) → IsClosed b bytes t0 → IsClosed b bytes t
    → given t0.parts p ≡ nothing → (get_part p b.offsets ≡ None) × (given t.parts p ≡ nothing)
still-free b bytes t0 t p h0 h free =
    let none = given-none bytes (get_part p b.offsets) (given t0.parts p) (h0.parts.each p) free in
    (none, none-given bytes (get_part p b.offsets) (given t.parts p) (h.parts.each p) none)

but-sid : (t : DraftParts) (p : SidPart) (s : SecurityId) (q : Part) → same_part (sid_part_of p) q ≡ false
    → given (with_sid p s t) q ≡ given t q
but-sid t sids.Owner s part.Owner e = absurd (cc)
but-sid t sids.Group s part.Group e = absurd (cc)
but-sid t p s q e = refl

with-sid : (t : DraftParts) (p : SidPart) (s : SecurityId) → given t (sid_part_of p) ≡ nothing
    → IsOneMore t (with_sid p s t) (sid_part_of p) (sid s)
with-sid t sids.Owner s free = record { is = refl; free = free; others = but-sid t sids.Owner s }
with-sid t sids.Group s free = record { is = refl; free = free; others = but-sid t sids.Group s }

sid-open : (t : DraftParts) (p : SidPart) (s : SecurityId) → (with_sid p s t).«open» ≡ t.«open»
sid-open t sids.Owner s = refl
sid-open t sids.Group s = refl

pub sid-builds : (b : Builder) (bytes : List ℕ) (t0 t : Draft) (p : SidPart) (s : SecurityId) → Builds b bytes t0
    → given t0.parts (sid_part_of p) ≡ nothing → t0.parts.«open» ≡ None → IsSid s → Builds b bytes t
    → Builds (placed (sid_part_of p) (length bytes) b) (bytes ++ sid_bytes s)
    (record { parts = with_sid p s t.parts; order = t.order ++ sid_part_of p ∷ [] })
unfolding Builds
sid-builds b bytes t0 t p s h0 free e limits h =
    let now = closed-from b bytes t0 t h0 e h in
    let none = still-free b bytes t0 t (sid_part_of p) (closed-from b bytes t0 t0 h0 e h0) now free in
    let more = with-sid t.parts p s none.1 in
    let low = (room bytes b t.parts now.parts).low in
    building _ _ _
    (part-more bytes b t.parts _ (sid_part_of p) (sid s) more (limits, stands-last bytes _ low) now.parts)
    (more-order bytes b t _ (sid_part_of p) (sid s) more none.0 low now.order)
    now.kept (sid-open t.parts p s ∙ now.given)

-- an ACL that is not given yet
absent-acl : (a : AclPart) → given_acl a ≡ nothing → a ≡ acl.Absent
absent-acl acl.Absent e = refl
absent-acl acl.Null e = absurd (cc)
absent-acl (acl.List aces) e = absurd (cc)

acl-absent : (w : Which) (t : DraftParts) → given t (part_of w) ≡ nothing → acl_for w t ≡ acl.Absent
acl-absent lists.Sacl t e = absent-acl t.sacl e
acl-absent lists.Dacl t e = absent-acl t.dacl e

absent-given : (w : Which) (t : DraftParts) → acl_for w t ≡ acl.Absent → given t (part_of w) ≡ nothing
absent-given lists.Sacl t e = ap given_acl e
absent-given lists.Dacl t e = ap given_acl e

acl-left : (b : Builder) (bytes : List ℕ) (w : Which) (t : DraftParts) → PartsStand bytes b t → acl_for w t ≡ acl.Absent
    → length bytes + 65538 ≤ 131226
acl-left b bytes lists.Sacl t h e = (room bytes b t h).left part.Sacl (ap given_acl e)
acl-left b bytes lists.Dacl t h e = (room bytes b t h).left part.Dacl (ap given_acl e)

but-acl : (w : Which) (t : DraftParts) (a : AclPart) (q : Part) → same_part (part_of w) q ≡ false
    → given (with_acl w a t) q ≡ given t q
but-acl lists.Sacl t a part.Sacl e = absurd (cc)
but-acl lists.Dacl t a part.Dacl e = absurd (cc)
but-acl w t a q e = refl

with-acl : (w : Which) (t : DraftParts) (a : AclPart) → given t (part_of w) ≡ nothing
    → IsOneMore t (with_acl w a t) (part_of w) (given_acl a)
with-acl lists.Sacl t a free = record { is = refl; free = free; others = but-acl lists.Sacl t a }
with-acl lists.Dacl t a free = record { is = refl; free = free; others = but-acl lists.Dacl t a }

pub begin-room : (b : Builder) (bytes : List ℕ) (w : Which) (t : Draft) → Builds b bytes t → CanBegin w t.parts
    → length bytes + 8 ≤ 131226
unfolding Builds
begin-room b bytes w t h can =
    omega (arith, acl-left b bytes w t.parts (closed-from b bytes t t h can.0 h).parts can.1)

pub begin-builds : (b : Builder) (bytes front : List ℕ) (w : Which) (t0 t : Draft) → Builds b bytes t0
    → CanBegin w t0.parts → length front ≡ 8 → Builds b bytes t
    → Builds (record b { «open» = Some (record { «which» = w; start = length bytes; count = 0; object = false }) })
    (bytes ++ front) (record t { parts = begun w t.parts })
unfolding Builds
begin-builds b bytes front w t0 t h0 can eight h =
    let now = closed-from b bytes t0 t h0 can.0 h in
    let none = still-free b bytes t0 t (part_of w) (closed-from b bytes t0 t0 h0 can.0 h0) now
    (absent-given w t0.parts can.1) in
    record {
      closed = bytes;
      tail = front;
      shape = refl;
      parts = reopened bytes b t.parts _ _ now.parts;
      order = order-reopened bytes b t _ _ now.order;
      «open» = record {
        list = refl;
        start = refl;
        count = refl;
        object = refl;
        limits = record { each = tt; fits = omega arith };
        front = front;
        eight = eight;
        shape = sym (append-nil front);
      };
      free = acl_for-open w t.parts (Some (w, [])) ∙ acl-absent w t.parts none.1;
    }

with_acl-open : (w : Which) (a : AclPart) (t : DraftParts) → (with_acl w a t).«open» ≡ t.«open»
with_acl-open lists.Sacl a t = refl
with_acl-open lists.Dacl a t = refl

pub null-builds : (b : Builder) (bytes : List ℕ) (w : Which) (t0 t : Draft) → Builds b bytes t0 → CanBegin w t0.parts
    → Builds b bytes t → Builds (placed (part_of w) 0 b) bytes (record t { parts = with_acl w acl.Null t.parts })
unfolding Builds
null-builds b bytes w t0 t h0 can h =
    let now = closed-from b bytes t0 t h0 can.0 h in
    let none = still-free b bytes t0 t (part_of w) (closed-from b bytes t0 t0 h0 can.0 h0) now
    (absent-given w t0.parts can.1) in
    let more = with-acl w t.parts acl.Null none.1 in
    building _ bytes _ (null-more bytes b t.parts _ (part_of w) more now.parts)
    (null-order bytes b t _ (part_of w) more none.0 now.order) now.kept (with_acl-open w acl.Null t.parts ∙ now.given)

-- the ACL that is open
pub record IsBegun (b : Builder) (bytes : List ℕ) (t : Draft) (o : OpenAcl) : Type 0 where
  pub which : Which
  pub aces : List AccessControlEntry
  pub closed : List ℕ
  pub tail : List ℕ
  pub shape : bytes ≡ closed ++ tail
  pub given : t.parts.«open» ≡ Some (which, aces)
  pub parts : PartsStand closed b t.parts
  pub order : StandsInOrder closed b t
  pub at : OpenAt closed tail o which aces
  pub free : acl_for which t.parts ≡ acl.Absent

begun-at : (t : DraftParts) (front tail : List ℕ) (o : OpenAcl) (u : Option (Which × List AccessControlEntry))
    → OpenStands front tail (Some o) u → OpenIsFree u t
    → (w : Which) × ((aces : List AccessControlEntry)
    × ((u ≡ Some (w, aces)) × OpenAt front tail o w aces × (acl_for w t ≡ acl.Absent)))
begun-at t front tail o None h free = absurd h
begun-at t front tail o (Some u) h free = (u.0, (u.1, (refl, h, free)))

pub is_begun : (b : Builder) (bytes : List ℕ) (t : Draft) (o : OpenAcl) → Building b bytes t → b.open ≡ Some o
    → IsBegun b bytes t o
is_begun b bytes t o h e =
    let found = begun-at t.parts h.closed h.tail o t.parts.«open»
    (subst (λ (x : Option OpenAcl). OpenStands h.closed h.tail x t.parts.«open») e h.«open») h.free in
    record {
      which = found.0;
      aces = found.1.0;
      closed = h.closed;
      tail = h.tail;
      shape = h.shape;
      given = found.1.1.0;
      parts = h.parts;
      order = h.order;
      at = found.1.1.1;
      free = found.1.1.2;
    }

some-open : (front tail : List ℕ) (o : Option OpenAcl) (u : Option (Which × List AccessControlEntry))
    → OpenStands front tail o u → IsOpenIn u → IsSome o
some-open front tail None None h is = absurd is
some-open front tail None (Some u) h is = absurd h
some-open front tail (Some o) u h is = refl

pub is-open : (b : Builder) (bytes : List ℕ) (t : Draft) → Builds b bytes t → IsOpen t.parts → IsSome b.open
unfolding Builds
is-open b bytes t h is = some-open h.closed h.tail b.open t.parts.«open» h.«open» is

-- the size of the open ACL is what stands after its start
record IsSized (b : Builder) (bytes : List ℕ) (t : Draft) (o : OpenAcl) : Type 0 where
  size : o.start + open_size t.parts ≡ length bytes
  small : open_size t.parts < 2 ^ 16
  count : o.count ≤ 4096
  room : o.start + 65538 ≤ 131226

sized : (b : Builder) (bytes : List ℕ) (t : Draft) (o : OpenAcl) → IsBegun b bytes t o → IsSized b bytes t o
sized b bytes t o h =
    let open_is : open_size t.parts ≡ acl_size h.aces = ap open_size_in h.given in
    let long : length h.tail ≡ acl_size h.aces =
    ap length h.at.shape ∙ length-append h.at.front (flat_map ace_bytes h.aces)
    ∙ omega (arith, h.at.eight, length-aces h.aces) in
    let whole : length bytes ≡ length h.closed + length h.tail = ap length h.shape ∙ length-append h.closed h.tail in
    let many = aces-many h.aces in
    record {
      size = omega (arith, open_is, long, whole, h.at.start);
      small = omega (arith, open_is, h.at.limits.fits);
      count = omega (arith, h.at.count, many.1, h.at.limits.fits);
      room = omega (arith, h.at.start, acl-left b h.closed h.which t.parts h.parts h.free);
    }

pub open-size : (b : Builder) (bytes : List ℕ) (t : Draft) (o : OpenAcl) → Builds b bytes t → b.open ≡ Some o
    → o.start + open_size t.parts ≡ length bytes
unfolding Builds
open-size b bytes t o h e = (sized b bytes t o (is_begun b bytes t o h e)).size

pub open-fourth : (b : Builder) (bytes : List ℕ) (t : Draft) (o : OpenAcl) → Builds b bytes t → b.open ≡ Some o
    → open_size t.parts % 4 ≡ 0
unfolding Builds
open-fourth b bytes t o h e =
    let found = is_begun b bytes t o h e in
    ap (λ (x : Option (Which × List AccessControlEntry)). open_size_in x % 4) found.given ∙ acl_size-fourth found.aces

-- what safety needs of it
pub record IsRoomy (bytes : List ℕ) (o : OpenAcl) : Type 0 where
  pub start : o.start + 8 ≤ length bytes
  pub size : length bytes < o.start + 2 ^ 16
  pub count : o.count ≤ 4096
  pub room : o.start + 65538 ≤ 131226

pub open-roomy : (b : Builder) (bytes : List ℕ) (t : Draft) (o : OpenAcl) → Builds b bytes t → b.open ≡ Some o
    → IsRoomy bytes o
unfolding Builds
open-roomy b bytes t o h e =
    let found = is_begun b bytes t o h e in
    let s = sized b bytes t o found in
    let open_is : open_size t.parts ≡ acl_size found.aces = ap open_size_in found.given in
    record {
      start = omega (arith, s.size, open_is);
      size = omega (arith, s.size, s.small);
      count = s.count;
      room = s.room;
    }

-- an ACE more
object-more : (aces : List AccessControlEntry) (a : AccessControlEntry)
    → has_object (aces ++ a ∷ []) ≡ (has_object aces || is_object a.kind)
object-more aces a = list_any-append (λ x. is_object x.kind) aces (a ∷ [])
    ∙ ap (λ (x : Bool). has_object aces || x) (or-false (is_object a.kind))

-- the ACL with one ACE more
abbrev pub with_more : OpenAcl → AccessControlEntry → OpenAcl
with_more o a = record {
  «which» = o.which;
  start = o.start;
  count = o.count + 1;
  object = o.object || is_object
      a.kind;
}

open-more : (front tail : List ℕ) (o : OpenAcl) (w : Which) (aces : List AccessControlEntry) (a : AccessControlEntry)
    → OpenAt front tail o w aces
    → IsAce a → acl_size aces + ace_size a < 2 ^ 16
    → OpenAt front (tail ++ ace_bytes a) (with_more o a) w (aces ++ a ∷ [])
open-more front tail o w aces a h limits fits = record {
  list = h.list;
  start = h.start;
  count = omega (arith, h.count, length-append aces (a ∷ []));
  object = ap (λ (x : Bool). x || is_object a.kind) h.object ∙ sym (object-more aces a);
  limits = record { each = all-more aces a h.limits.each limits; fits = omega (arith, size-more aces a, fits) };
  front = h.front;
  eight = h.eight;
  shape = ap (λ (r : List ℕ). r ++ ace_bytes a) h.shape ∙ append_assoc h.front (flat_map ace_bytes aces) (ace_bytes a)
      ∙ ap (λ (r : List ℕ). h.front ++ r)
      (ap (λ (r : List ℕ). flat_map ace_bytes aces ++ r) (sym (append-nil (ace_bytes a)))
      ∙ sym (flat_map-append ace_bytes aces (a ∷ [])));
}

given-more : (a : AccessControlEntry) (w : Which) (aces : List AccessControlEntry) (t : DraftParts)
    → t.«open» ≡ Some (w, aces)
    → with_ace a t ≡ record t { «open» = Some (w, aces ++ a ∷ []) }
given-more a w aces t e = rw e refl

pub ace-builds : (b : Builder) (bytes : List ℕ) (t : Draft) (o : OpenAcl) (a : AccessControlEntry) → b.open ≡ Some o
    → IsAce a
    → open_size t.parts + ace_size a < 2 ^ 16 → Builds b bytes t
    → Builds (record b { «open» = Some (with_more o a) }) (bytes ++ ace_bytes a)
    (record t { parts = with_ace a t.parts })
unfolding Builds
ace-builds b bytes t o a e limits fits h =
    let found = is_begun b bytes t o h e in
    let open_is : open_size t.parts ≡ acl_size found.aces = ap open_size_in found.given in
    let u : Option (Which × List AccessControlEntry) = Some (found.which, found.aces ++ a ∷ []) in
    subst (λ (x : DraftParts). Building (record b { «open» = Some (with_more o a) }) (bytes ++ ace_bytes a)
    (record t { parts = x })) (sym (given-more a found.which found.aces t.parts found.given))
    (record {
      closed = found.closed;
      tail = found.tail ++ ace_bytes a;
      shape = ap (λ (r : List ℕ). r ++ ace_bytes a) found.shape ∙ append_assoc found.closed found.tail (ace_bytes a);
      parts = reopened found.closed b t.parts _ _ found.parts;
      order = order-reopened found.closed b t _ u found.order;
      «open» = open-more found.closed found.tail o found.which found.aces a found.at limits
          (omega (arith, open_is, fits));
      free = acl_for-open found.which t.parts u ∙ found.free;
    })

-- the open ACL with its header written over the bytes before its ACEs
header-written : (front header eight aces : List ℕ) → length eight ≡ 8
    → take (length front) (front ++ (eight ++ aces))
    ++ (header ++ drop (length front + 8) (front ++ (eight ++ aces))) ≡ front ++ (header ++ aces)
header-written front header eight aces long =
    let before = take_at front (eight ++ aces) (length front) refl in
    let after = drop-append-add front (eight ++ aces) 8 ∙ drop_at eight aces 8 long in
    rw (before, after) refl

-- the ACL ended
kept-is : (b : Builder) (o : OpenAcl) (w : Which) (n : ℕ) → o.which ≡ w → o.start ≡ n
    → placed (part_of o.which) o.start (record b { «open» = None }) ≡ record (placed (part_of w) n b) { «open» = None }
kept-is b o w n e f = rw (e, f) refl

closed-open : (t : DraftParts) (w : Which) (p : AclPart)
    → with_acl w p (record t { «open» = None }) ≡ record (with_acl w p t) { «open» = None }
closed-open t lists.Sacl p = refl
closed-open t lists.Dacl p = refl

given-ended : (w : Which) (aces : List AccessControlEntry) (t : Draft) → t.parts.«open» ≡ Some (w, aces)
    → ended t ≡ record {
      parts = record (with_acl w (acl.List aces) t.parts) { «open» = None };
      order = t.order ++ part_of w ∷ [];
    }
given-ended w aces t e =
    ap (λ (u : Option (Which × List AccessControlEntry)). ended_in u t) e
    ∙ ap (λ (p : DraftParts). let d : Draft = record { parts = p; order = t.order ++ part_of w ∷ [] } in d)
    (ap (λ (u : Option (Which × List AccessControlEntry)). closed_in u t.parts) e
    ∙ closed-open t.parts w (acl.List aces))

-- the header of an ACL, by what is kept of it
abbrev pub header_by : Bool → ℕ → ℕ → List ℕ
header_by object size count = revision_if object ∷ 0 ∷ little_bytes 2 size ++ (little_bytes 2 count ++ (0 ∷ 0 ∷ []))

header-is : (object : Bool) (size count : ℕ) (aces : List AccessControlEntry) → object ≡ has_object aces
    → size ≡ acl_size aces → count ≡ length aces
    → header_by object size count ≡ acl_header aces
header-is object size count aces e f g = rw (e, f, g) refl

pub end-bytes : (b : Builder) (bytes : List ℕ) (t : Draft) (o : OpenAcl) (size : ℕ) (header : List ℕ)
    (found : IsBegun b bytes t o) → o.start + size ≡ length bytes
    → header ≡ header_by o.object size o.count
    → take o.start bytes ++ (header ++ drop (o.start + length header) bytes) ≡ found.closed ++ acl_bytes found.aces
end-bytes b bytes t o size header found total e =
    let front = found.closed in
    let aces = flat_map ace_bytes found.aces in
    let s = sized b bytes t o found in
    let open_is : open_size t.parts ≡ acl_size found.aces = ap open_size_in found.given in
    let eight : length header ≡ 8 = ap length e in
    let filled : header ≡ acl_header found.aces = e
    ∙ header-is o.object size o.count found.aces found.at.object (omega (arith, total, s.size, open_is))
    found.at.count in
    let whole : bytes ≡ front ++ (found.at.front ++ aces) = found.shape
    ∙ ap (λ (r : List ℕ). front ++ r) found.at.shape in
    let at_end : o.start ≡ length front = found.at.start in
    let there = header-written front (acl_header found.aces) found.at.front aces found.at.eight in
    rw (eight, at_end, whole, filled) there

pub end-builds : (b : Builder) (bytes : List ℕ) (t : Draft) (o : OpenAcl) (size : ℕ) (header : List ℕ) → b.open ≡ Some o
    → o.start + size ≡ length bytes
    → header ≡ header_by o.object size o.count → Builds b bytes t
    → Builds (placed (part_of o.which) o.start (record b { «open» = None }))
    (take o.start bytes ++ (header ++ drop (o.start + length header) bytes)) (ended t)
unfolding Builds
end-builds b bytes t o size header e total front h =
    let found = is_begun b bytes t o h e in
    let w = found.which in
    let n = length found.closed in
    let p = part_of w in
    let none = given-none found.closed (get_part p b.offsets) _ (found.parts.each p)
    (absent-given w t.parts found.free) in
    let more = with-acl w t.parts (acl.List found.aces) (absent-given w t.parts found.free) in
    let low = (room found.closed b t.parts found.parts).low in
    let stands = part-more found.closed b t.parts _ p (list found.aces) more
    (found.at.limits, stands-last found.closed _ low) found.parts in
    let order = more-order found.closed b t _ p (list found.aces) more none low found.order in
    let kept = kept-is b o w n found.at.list found.at.start in
    let given = given-ended w found.aces t found.given in
    let there = end-bytes b bytes t o size header found total front in
    rw (kept, given, there)
    (building _ _ _ (reopened _ (placed p n b) (with_acl w (acl.List found.aces) t.parts) None None stands)
    (order-reopened _ (placed p n b) _ None None order) refl refl)
