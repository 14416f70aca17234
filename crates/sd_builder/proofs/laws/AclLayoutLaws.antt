-- The written form of an ACE or an ACL shows it.
use Rattle.std.proofs.Common.{◌≡◌, ◌⊎◌, inl, inr, ℕ, ◌+◌, ◌/◌, ◌%◌, ◌&&◌, eqb, Bool, true, false}
use Rattle.std.proofs.Common.{List, [], ◌∷◌, ◌++◌, length, drop, Option, Some, None, refl, sym, ap, ◌∙◌, arith}
use Rattle.std.specs.Prelude.{IfSome}
use Rattle.std.specs.List.{flat_map, AllByRecursion}
use Rattle.std.proofs.lemmas.List.{append-nil}
use Rattle.byteorder.specs.Endian.{little_bytes}
use Rattle.byteorder.specs.Numbers.{little_number-reads_back}
use Rattle.uuid.proofs.RoundTrips.{swap_twice}
use Rattle.sd_ace.specs.Ace.{AccessControlEntry, GuidsFit, IsAce, IsGuid, ace_size, guid_size}
use Rattle.sd_kinds.specs.Kinds.{is_object, kind_code}
use Rattle.sd_sid.specs.Sid.{SecurityId, IsSid, BeginsWithSid, sid_bytes}
use Rattle.sd_acl_view.specs.Ace.{ShowsAce, ShowsGuid, announces_inherited, announces_object}
use Rattle.sd_acl_view.specs.Acl.{IsAcl, ShowsAces, ShowsAcl, acl_size, has_object}
use Rattle.sd_ace.specs.AceLayout.{ace_bytes, guids, object_flags}
use Rattle.sd_acl_view.specs.AclLayout.{acl_bytes, revision_if}
use Rattle.sd_acl_view.specs.Bytes.{u16_at, u32_at}
use Rattle.sd_acl_view.proofs.laws.AclLayoutSizes.{ace_size-fourth, ace_size-small, aces-many, bytes_by, front_by}
use Rattle.sd_acl_view.proofs.laws.AclLayoutSizes.{length-ace_bytes, length-acl_bytes}

-- the bytes of a SID begin with it
begins : (s : SecurityId) → IsSid s → BeginsWithSid (sid_bytes s) s
begins s h = record { limits = h; rest = []; shape = sym (append-nil (sid_bytes s)) }

-- the GUIDs and the SID stand at their offsets
abbrev Stand : Bool → Option (List ℕ) → Option (List ℕ) → SecurityId → List ℕ → Type 0
Stand b o i s extent =
    ShowsGuid (b && eqb (u32_at 8 extent % 2) 1) (drop 12 extent) o
    × ShowsGuid (b && eqb (u32_at 8 extent / 2 % 2) 1) (drop (12 + guid_size o) extent) i
    × BeginsWithSid (drop (front_by b o i) extent) s

stand : (kind flags n mask : ℕ) (b : Bool) (o i : Option (List ℕ)) (s : SecurityId) → GuidsFit b o i → IfSome o IsGuid
    → IfSome i IsGuid → IsSid s
    → Stand b o i s (bytes_by kind flags n mask b o i s)
unfolding u32_at
stand kind flags n mask false None None s fit g h sid = (tt, tt, begins s sid)
stand kind flags n mask false (Some x) i s fit g h sid = absurd fit
stand kind flags n mask false None (Some x) s fit g h sid = absurd fit
stand kind flags n mask true None None s fit g h sid = (tt, tt, begins s sid)
stand kind flags n mask true None (Some x) s fit g h sid = (tt, sym (swap_twice x h.size), begins s sid)
stand kind flags n mask true (Some x) None s fit g h sid = (sym (swap_twice x g.size), tt, begins s sid)
stand kind flags n mask true (Some x) (Some y) s fit g h sid =
    (sym (swap_twice x g.size), sym (swap_twice y h.size), begins s sid)

-- the bytes of an ACE show it
pub ace_bytes-shows : (a : AccessControlEntry) → IsAce a → ShowsAce (ace_bytes a) a
unfolding u16_at u32_at announces_object announces_inherited
ace_bytes-shows a h =
    let b = is_object a.kind in
    let flags = object_flags b a.object a.inherited in
    let body = guids b a.object a.inherited ++ sid_bytes a.sid in
    let parts = stand (kind_code a.kind) a.flags (ace_size a) a.mask b a.object a.inherited a.sid h.fit h.object
    h.inherited h.sid in
    let long = length-ace_bytes a in
    record {
      kind = refl;
      flags = refl;
      clear = h.clear;
      size = little_number-reads_back 2 (ace_size a) ((little_bytes 4 a.mask ++ flags) ++ body) (ace_size-small a h)
          ∙ sym long;
      aligned = ap (λ (n : ℕ). n % 4) long ∙ (ace_size-fourth a).0;
      mask = little_number-reads_back 4 a.mask (flags ++ body) h.mask;
      object = parts.0;
      inherited = parts.1;
      sid = parts.2;
    }

-- the same of ACEs one after the other
aces-shown : (aces : List AccessControlEntry) → AllByRecursion IsAce aces → ShowsAces (flat_map ace_bytes aces) aces
aces-shown [] h = tt
aces-shown (a ∷ others) h = (ace_bytes a, flat_map ace_bytes others, refl, ace_bytes-shows a h.0, aces-shown others h.1)

revision-is : (b : Bool) → (revision_if b ≡ 2) ⊎ (revision_if b ≡ 4)
revision-is true = inr refl
revision-is false = inl refl

-- the bytes of an ACL show it
pub acl_bytes-shows : (aces : List AccessControlEntry) → IsAcl aces → ShowsAcl (acl_bytes aces) aces
unfolding u16_at
acl_bytes-shows aces h =
    let entries = flat_map ace_bytes aces in
    let long = length-acl_bytes aces in
    let all = aces-many aces in
    record {
      revision = revision-is (has_object aces);
      header = omega (arith, long);
      size = little_number-reads_back 2 (acl_size aces) (little_bytes 2 (length aces) ++ (0 ∷ 0 ∷ entries)) h.fits
          ∙ sym long;
      count = little_number-reads_back 2 (length aces) (0 ∷ 0 ∷ entries) (omega (arith, all.1, h.fits));
      extents = aces-shown aces h.each;
    }
