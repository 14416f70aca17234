-- What a finished builder's buffer shows.
use Rattle.std.proofs.Common.{◌≡◌, ◌≤◌, ◌<◌, ℕ, ◌+◌, ◌^◌, Bool, List, ◌++◌, length, drop, Option, Some, None, refl, sym}
use Rattle.std.proofs.Common.{ap, subst, ◌∙◌, arith, length-append, length-drop}
use Rattle.std.specs.Prelude.{is_some, unwrap_or}
use Rattle.sd_sid.specs.Sid.{SecurityId}
use Rattle.sd_acl_view.specs.AclLayout.{acl_bytes}
use Rattle.sd_builder.specs.Builds.{Builds}
use Rattle.sd_builder.specs.Inner.Building.{PartStands, PartsStand, StandsInOrder, extent_at, given, given_acl}
use Rattle.sd_builder.specs.Inner.Building.{given_sid, given_size}
use Rattle.sd_parts.specs.Parts.{get_part}
use Rattle.sd_parts.specs.declared.part.Part.{Part}
use Rattle.sd_parts.specs.declared.part.Part.TheVariants as part
use Rattle.sd_parts.specs.declared.part.Parts.{Parts}
use Rattle.sd_parts.specs.Control.{control_of}
use Rattle.sd_view.specs.Descriptor.{Shows, ShowsAclPart, ShowsSid, acl_extent, dacl_at, group_at, owner_at, sacl_at}
use Rattle.sd_view.specs.Descriptor.{sid_extent}
use Rattle.sd_builder.specs.Draft.{Draft, DraftParts, built, built_bytes, is_present}
use Rattle.sd_parts.specs.Header.{header_bytes}
use Rattle.sd_view.specs.WrittenForm.{AclIsWritten, IsWritten, IsWrittenForm}
use Rattle.sd_view.specs.declared.acl_part.AclPart.{AclPart}
use Rattle.sd_view.specs.declared.acl_part.AclPart.TheVariants as acl
use Rattle.sd_builder.specs.declared.builder.Builder.{Builder}
use Rattle.sd_sid.proofs.laws.SidLaws.{length-sid_bytes}
use Rattle.sd_view.specs.Layout.{acl_part_size, sid_part_size}
use Rattle.sd_acl_view.proofs.laws.AclLayoutSizes.{length-acl_bytes}
use Rattle.sd_builder.proofs.laws.AclLayoutLaws.{acl_bytes-shows}
use Rattle.sd_parts.proofs.laws.ControlLaws.{control-bits}
use Rattle.sd_builder.proofs.Building.{closed-from}
use Rattle.sd_view.proofs.laws.LayoutSizes.{acl_size-read}
use Rattle.sd_builder.proofs.laws.LayoutLaws.{header-control, header-dacl, header-group, header-owner, header-revision}
use Rattle.sd_builder.proofs.laws.LayoutLaws.{header-rm, header-sacl}
use Rattle.sd_builder.proofs.Standing.{headed, part-kept, part-small, room}

-- what stands is shown
sid-shown : (bytes : List ℕ) (offset : Option ℕ) (o : Option SecurityId) → PartStands bytes offset (given_sid o)
    → ShowsSid bytes (unwrap_or offset 0) o × (sid_extent (unwrap_or offset 0) o ≡ extent_at offset (given_sid o))
sid-shown bytes None None h = (refl, refl)
sid-shown bytes None (Some s) h = absurd (cc)
sid-shown bytes (Some offset) None h = absurd h
sid-shown bytes (Some offset) (Some s) h =
    ((h.1.low, record { limits = h.0; rest = h.1.rest; shape = h.1.shape }), refl)

acl-shown : (bytes : List ℕ) (offset : Option ℕ) (p : AclPart) → PartStands bytes offset (given_acl p)
    → ShowsAclPart bytes (is_present p) (unwrap_or offset 0) p
    × (acl_extent bytes (unwrap_or offset 0) p ≡ extent_at offset (given_acl p))
acl-shown bytes None acl.Absent h = (refl, refl)
acl-shown bytes None acl.Null h = absurd (cc)
acl-shown bytes None (acl.List aces) h = absurd (cc)
acl-shown bytes (Some offset) acl.Absent h = absurd h
acl-shown bytes (Some offset) acl.Null h = ((refl, h), refl)
acl-shown bytes (Some offset) (acl.List aces) h =
    let long = acl_size-read (drop offset bytes) h.1.rest aces h.0 h.1.shape in (
      (refl, h.1.low, (acl_bytes aces, h.1.rest, h.1.shape, acl_bytes-shows aces h.0)),
      ap (λ (n : ℕ). Some (offset, offset + n)) long,
    )

acl-present : (bytes : List ℕ) (offset : Option ℕ) (p : AclPart) → PartStands bytes offset (given_acl p)
    → is_some offset ≡ is_present p
acl-present bytes None acl.Absent h = refl
acl-present bytes None acl.Null h = absurd (cc)
acl-present bytes None (acl.List aces) h = absurd (cc)
acl-present bytes (Some offset) acl.Absent h = absurd h
acl-present bytes (Some offset) acl.Null h = refl
acl-present bytes (Some offset) (acl.List aces) h = refl

-- the same under fields that are read from the bytes
sid-read : (bytes : List ℕ) (offset field : ℕ) (o : Option SecurityId) → field ≡ offset → ShowsSid bytes offset o
    → ShowsSid bytes field o
sid-read bytes offset field o e h = subst (λ (n : ℕ). ShowsSid bytes n o) (sym e) h

acl-read : (bytes : List ℕ) (present bit : Bool) (offset field : ℕ) (p : AclPart) → bit ≡ present → field ≡ offset
    → ShowsAclPart bytes present offset p
    → ShowsAclPart bytes bit field p
acl-read bytes present bit offset field p e f h = rw (e, f) h

-- the offsets in the header that is written
abbrev pub offsets_of : Builder → Parts ℕ
offsets_of b = record {
  owner = unwrap_or b.offsets.owner 0;
  group = unwrap_or b.offsets.group 0;
  sacl = unwrap_or b.offsets.sacl 0;
  dacl = unwrap_or b.offsets.dacl 0;
}

-- the bytes of that header, and of what follows it
abbrev pub header_for : ℕ → ℕ → Builder → List ℕ
header_for rm control b = header_bytes rm control (offsets_of b)

pub length-header_for : (rm control : ℕ) (b : Builder) → length (header_for rm control b) ≡ 20
unfolding header_bytes
length-header_for rm control b = refl

part-in : (b : Builder) (bytes header : List ℕ) (t : DraftParts) (p : Part) → PartsStand bytes b t → length header ≡ 20
    → PartStands (header ++ drop 20 bytes) (get_part p b.offsets) (given t p)
part-in b bytes header t p h long = part-kept bytes _ _ _ (headed bytes header long) (h.each p)

shows : (b : Builder) (bytes : List ℕ) (t : DraftParts) (flags rm : ℕ) → flags < 2 ^ 16 → PartsStand bytes b t
    → Shows (header_for rm (control_of flags (is_present t.sacl) (is_present t.dacl)) b ++ drop 20 bytes)
    (built flags rm t)
shows b bytes t flags rm small h =
    let word = control_of flags (is_present t.sacl) (is_present t.dacl) in
    let bits = control-bits flags (is_present t.sacl) (is_present t.dacl) small in
    let header = header_for rm word b in
    let long = length-header_for rm word b in
    let rest = drop 20 bytes in
    let new = header ++ rest in
    let o = offsets_of b in
    let fits = λ (p : Part). part-small bytes _ _ (h.each p) (room bytes b t h).most in
    let owner = header-owner rm word o rest (fits part.Owner) in
    let group = header-group rm word o rest (fits part.Group) in
    let sacl = header-sacl rm word o rest (fits part.Sacl) in
    let dacl = header-dacl rm word o rest (fits part.Dacl) in
    let owner_stands = sid-shown new b.offsets.owner t.owner (part-in b bytes header t part.Owner h long) in
    let group_stands = sid-shown new b.offsets.group t.group (part-in b bytes header t part.Group h long) in
    let sacl_stands = acl-shown new b.offsets.sacl t.sacl (part-in b bytes header t part.Sacl h long) in
    let dacl_stands = acl-shown new b.offsets.dacl t.dacl (part-in b bytes header t part.Dacl h long) in
    record {
      header = omega (arith, length-append header rest, long);
      revision = header-revision rm word o rest;
      rm = header-rm rm word o rest;
      control = header-control rm word o rest bits.small;
      relative = bits.relative;
      owner = sid-read new o.owner (owner_at new) t.owner owner owner_stands.0;
      group = sid-read new o.group (group_at new) t.group group group_stands.0;
      sacl = acl-read new (is_present t.sacl) _ o.sacl (sacl_at new) t.sacl bits.sacl sacl sacl_stands.0;
      dacl = acl-read new (is_present t.dacl) _ o.dacl (dacl_at new) t.dacl bits.dacl dacl dacl_stands.0;
      apart = rw (
        owner,
        group,
        sacl,
        dacl,
        owner_stands.1,
        group_stands.1,
        sacl_stands.1,
        dacl_stands.1,
      ) h.apart;
    }

-- each ACL stands in its written form, and nothing else stands
acl-written : (bytes : List ℕ) (offset : Option ℕ) (field : ℕ) (p : AclPart) → field ≡ unwrap_or offset 0
    → PartStands bytes offset (given_acl p) → AclIsWritten bytes field p
acl-written bytes None field acl.Absent e h = e
acl-written bytes (Some offset) field acl.Absent e h = absurd h
acl-written bytes None field acl.Null e h = absurd (cc)
acl-written bytes (Some offset) field acl.Null e h = e ∙ h
acl-written bytes None field (acl.List aces) e h = absurd (cc)
acl-written bytes (Some offset) field (acl.List aces) e h = (h.1.rest, ap (λ (n : ℕ). drop n bytes) e ∙ h.1.shape)

sid-size : (o : Option SecurityId) → given_size (given_sid o) ≡ sid_part_size o
sid-size None = refl
sid-size (Some s) = length-sid_bytes s

acl-size : (p : AclPart) → given_size (given_acl p) ≡ acl_part_size p
acl-size acl.Absent = refl
acl-size acl.Null = refl
acl-size (acl.List aces) = length-acl_bytes aces

pub is-written : (b : Builder) (bytes : List ℕ) (t : DraftParts) (flags rm word : ℕ) → PartsStand bytes b t
    → IsWritten (header_for rm word b ++ drop 20 bytes) (built flags rm t)
is-written b bytes t flags rm word h =
    let header = header_for rm word b in
    let rest = drop 20 bytes in
    let new = header ++ rest in
    let long = length-header_for rm word b in
    let has_room = room bytes b t h in
    let o = offsets_of b in
    let fits = λ (p : Part). part-small bytes _ _ (h.each p) has_room.most in
    let sacl = header-sacl rm word o rest (fits part.Sacl) in
    let dacl = header-dacl rm word o rest (fits part.Dacl) in
    let sids : given_size (given_sid t.owner) + given_size (given_sid t.group)
    ≡ sid_part_size t.owner + sid_part_size t.group = omega (arith, sid-size t.owner, sid-size t.group) in
    record {
      size = omega (
        arith,
        h.size,
        long,
        length-append header rest,
        length-drop 20 bytes,
        sids,
        acl-size t.sacl,
        acl-size t.dacl,
      );
      sacl = acl-written new b.offsets.sacl (sacl_at new) t.sacl sacl (part-in b bytes header t part.Sacl h long);
      dacl = acl-written new b.offsets.dacl (dacl_at new) t.dacl dacl (part-in b bytes header t part.Dacl h long);
    }

-- finish
pub exact : (b : Builder) (bytes : List ℕ) (t : Draft) (flags rm word : ℕ) → StandsInOrder bytes b t
    → word ≡ control_of flags (is_present t.parts.sacl) (is_present t.parts.dacl)
    → header_for rm word b ++ drop 20 bytes ≡ built_bytes flags rm t
exact b bytes t flags rm word h e =
    rw (h.shape, e, h.offset part.Owner, h.offset part.Group, h.offset part.Sacl, h.offset part.Dacl) refl

-- the control word, by what the builder keeps
word-is : (b : Builder) (bytes : List ℕ) (t : DraftParts) (flags : ℕ) → PartsStand bytes b t
    → control_of flags (is_some b.offsets.sacl) (is_some b.offsets.dacl)
    ≡ control_of flags (is_present t.sacl) (is_present t.dacl)
word-is b bytes t flags h =
    let sacl = acl-present bytes b.offsets.sacl t.sacl (h.each part.Sacl) in
    let dacl = acl-present bytes b.offsets.dacl t.dacl (h.each part.Dacl) in
    rw (sacl, dacl) refl

pub finish-room : (b : Builder) (bytes : List ℕ) (t : Draft) → Builds b bytes t → t.parts.«open» ≡ None
    → 20 ≤ length bytes
unfolding Builds
finish-room b bytes t h e = (room bytes b t.parts (closed-from b bytes t t h e h).parts).low

pub finish-exact : (b : Builder) (bytes : List ℕ) (t0 t : Draft) (flags rm : ℕ) → Builds b bytes t0
    → t0.parts.«open» ≡ None → Builds b bytes t
    → header_for rm (control_of flags (is_some b.offsets.sacl) (is_some b.offsets.dacl)) b ++ drop 20 bytes
    ≡ built_bytes flags rm t
unfolding Builds
finish-exact b bytes t0 t flags rm h0 e h =
    let now = closed-from b bytes t0 t h0 e h in
    exact b bytes t flags rm _ now.order (word-is b bytes t.parts flags now.parts)

pub finish-shows : (b : Builder) (bytes : List ℕ) (t0 t : Draft) (flags rm : ℕ) → Builds b bytes t0
    → t0.parts.«open» ≡ None → flags < 2 ^ 16 → Builds b bytes t
    → Shows (header_for rm (control_of flags (is_some b.offsets.sacl) (is_some b.offsets.dacl)) b ++ drop 20 bytes)
    (built flags rm t.parts)
unfolding Builds
finish-shows b bytes t0 t flags rm h0 e small h =
    let parts = (closed-from b bytes t0 t h0 e h).parts in
    subst (λ (word : ℕ). Shows (header_for rm word b ++ drop 20 bytes) (built flags rm t.parts))
    (sym (word-is b bytes t.parts flags parts)) (shows b bytes t.parts flags rm small parts)

pub finish-form : (b : Builder) (bytes : List ℕ) (t : Draft) (flags rm : ℕ) → Builds b bytes t → t.parts.«open» ≡ None
    → flags < 2 ^ 16
    → IsWrittenForm
    (header_for rm (control_of flags (is_some b.offsets.sacl) (is_some b.offsets.dacl)) b ++ drop 20 bytes)
unfolding Builds
finish-form b bytes t flags rm h e small =
    let word = control_of flags (is_some b.offsets.sacl) (is_some b.offsets.dacl) in
    record {
      descriptor = built flags rm t.parts;
      shows = finish-shows b bytes t t flags rm h e small h;
      written = is-written b bytes t.parts flags rm word (closed-from b bytes t t h e h).parts;
    }
