-- An extent shows an ACL exactly where it has no fault, and then it is the one that reading gives.
use Rattle.std.proofs.Common.{◌≡◌, ◌≤◌, ◌<◌, ◌⊎◌, inl, inr, ℕ, zero, suc, ◌+◌, ◌/◌, ◌%◌, ◌^◌, ◌||◌, ◌&&◌, Bool, true}
use Rattle.std.proofs.Common.{false, not, cond, eqb, ltb, List, [], ◌∷◌, ◌++◌, length, take, drop, slice_index, Option}
use Rattle.std.proofs.Common.{Some, None, IfSome, refl, sym, ap, ◌∙◌, subst, rules, arith, length-append, length-drop}
use Rattle.std.specs.Prelude.{is_some, unwrap_or}
use Rattle.std.specs.List.{All, AllByRecursion}
use Rattle.std.proofs.lemmas.Bool.Decides.{nat_tests}
use Rattle.std.proofs.lemmas.Bool.{cases_eq, eqb-true, not-false, le-ltb}
use Rattle.std.proofs.lemmas.List.Elements.{All-from_recursion}
use Rattle.std.proofs.lemmas.List.{take-append-drop, take_at, drop_at, drop-append-le, get_or-take, get_or_append_left}
use Rattle.std.proofs.lemmas.List.{length-take-le}
use Rattle.byteorder.specs.Endian.{little_number}
use Rattle.byteorder.specs.Numbers.{little_from-append, little_from-lt}
use Rattle.uuid.specs.Parts.{swap_fields}
use Rattle.sd_ace.specs.Ace.{AccessControlEntry, GuidsFit, IsAce, IsGuid, ace_size, guid_size, sid_offset}
use Rattle.sd_kinds.specs.Kinds.{is_object, kind_code, kind_of}
use Rattle.sd_sid.specs.Sid.{SecurityId, BeginsWithSid, sid_at, sid_bytes, sid_of, sid_size}
use Rattle.sd_kinds.specs.declared.kinds.AceKind.{AceKind}
use Rattle.sd_kinds.specs.declared.kinds.AceKind.TheVariants as kinds
use Rattle.sd_kinds.proofs.laws.KindLaws.{kind_of-code, kind_of-some}
use Rattle.sd_sid.proofs.laws.Numbers.{AreBytes, AreBytes-drop, AreBytes-take}
use Rattle.sd_sid.proofs.laws.SidLaws.{length-sid_bytes, sid_at-bytes, sid_at-found, sid_of-at}
use Rattle.sd_acl_view.specs.Bytes.{u16_at, u32_at}
use Rattle.sd_acl_view.specs.declared.fault.AclFault.{AclFault}
use Rattle.sd_acl_view.specs.Ace.{ShowsAce, ShowsGuid, announces_inherited, announces_object}
use Rattle.sd_acl_view.specs.Acl.{BeginsWithAcl, IsAcl, ShowsAces, ShowsAcl, acl_size, aces_size}
use Rattle.std.specs.Option.{option_or}
use Rattle.sd_acl_view.specs.AclReading.{ace_fault, ace_of, aces_fault, aces_of, acl_fault, acl_of, acl_at_front}
use Rattle.sd_acl_view.specs.AclReading.{guid_if, inherited_in, kind_in, object_in, extent_fault, sid_offset_in}
use Rattle.sd_acl_view.specs.AclChecks.{IsReadableAcl}
use Rattle.sd_acl_view.proofs.laws.FirstFault.{first_none, went_on, passed}

-- one ACE of the count read
pub aces_fault-more : (n m : ℕ) (left : List ℕ) → m ≡ n + 1 → ace_fault left ≡ None
    → aces_fault m left ≡ aces_fault n (drop (u16_at 2 left) left)
unfolding aces_fault
aces_fault-more n zero left e h = absurd (omega arith)
aces_fault-more n (suc m) left e h = let same : m ≡ n = omega arith in rw (h, same) refl

pub aces_fault-err : (m : ℕ) (left : List ℕ) (f : AclFault) → 0 < m → ace_fault left ≡ Some f
    → aces_fault m left ≡ Some f
unfolding aces_fault
aces_fault-err zero left f room h = absurd (omega arith)
aces_fault-err (suc m) left f room h = rw h refl

pub aces_fault-none : (m : ℕ) (left : List ℕ) → m ≡ 0 → aces_fault m left ≡ None
unfolding aces_fault
aces_fault-none m left e = rw e refl

-- a number near the front of a list is that of its front
pub u16_at-front : (i : ℕ) (xs ys : List ℕ) → i + 2 ≤ length xs → u16_at i (xs ++ ys) ≡ u16_at i xs
unfolding u16_at
u16_at-front i xs ys room =
    ap (little_number 2) (drop-append-le i xs ys (omega arith))
    ∙ little_from-append 2 (drop i xs) ys (omega (arith, length-drop i xs))

-- kinds
known : (code : ℕ) (o : Option AceKind) → kind_of code ≡ o → is_some o ≡ true
    → code ≡ kind_code (unwrap_or o kinds.Allow)
known code None e h = absurd (cc)
known code (Some k) e h = sym (subst (λ (o : Option AceKind). IfSome o (λ k. kind_code k ≡ code)) e (kind_of-some code))

pub sid_found : (bytes : List ℕ) (o : Option (SecurityId × ℕ)) → AreBytes bytes → sid_at bytes ≡ o → is_some o ≡ true
    → BeginsWithSid bytes (sid_of bytes)
sid_found bytes None b e h = absurd (cc)
sid_found bytes (Some (s, n)) b e h =
    subst (λ (t : SecurityId). BeginsWithSid bytes t) (sym (sid_of-at bytes s n e)) (sid_at-found bytes s n b e).0

clear_flag : (f : ℕ) → eqb (f / 32 % 2) 1 ≡ false → f / 32 % 2 ≡ 0
clear_flag f e = grind (arith, nat_tests)

flag_clear : (f : ℕ) → f / 32 % 2 ≡ 0 → eqb (f / 32 % 2) 1 ≡ false
flag_clear f e = grind (arith, nat_tests)

-- a GUID that is announced
guid-shows : (b : Bool) (bytes : List ℕ) → ShowsGuid b bytes (guid_if b bytes)
unfolding guid_if
guid-shows true bytes = refl
guid-shows false bytes = tt

guid-read : (b : Bool) (bytes : List ℕ) (o : Option (List ℕ)) → ShowsGuid b bytes o → guid_if b bytes ≡ o
unfolding guid_if
guid-read true bytes None h = absurd h
guid-read true bytes (Some g) h = ap (λ (x : List ℕ). Some x) (sym h)
guid-read false bytes None h = refl
guid-read false bytes (Some g) h = absurd h

sid_offset-low : (k : AceKind) (o i : Option (List ℕ)) → 8 ≤ sid_offset k o i
sid_offset-low k o i = by_object (is_object k)
  where
    by_object : (b : Bool) → 8 ≤ cond b (12 + guid_size o + guid_size i) 8
    by_object true = omega arith
    by_object false = omega arith

-- what an extent without a fault shows
pub extent-shows : (extent : List ℕ) → AreBytes extent → u16_at 2 extent ≡ length extent → length extent % 4 ≡ 0
    → extent_fault extent ≡ None
    → ShowsAce extent (ace_of extent)
unfolding extent_fault kind_in object_in inherited_in sid_offset_in
extent-shows extent b size aligned e =
    let kind = went_on _ _ _ e in
    let flag = went_on _ _ _ kind.1 in
    let room = went_on _ _ _ flag.1 in
    let sid = passed _ _ room.1 in
    record {
      kind = known (slice_index extent 0) (kind_of (slice_index extent 0)) refl (not-false _ kind.0);
      flags = refl;
      clear = clear_flag (slice_index extent 1) flag.0;
      size = size;
      aligned = aligned;
      mask = refl;
      object = guid-shows (announces_object (kind_in extent) extent) (drop 12 extent);
      inherited = guid-shows (announces_inherited (kind_in extent) extent)
          (drop (12 + guid_size (object_in extent)) extent);
      sid = sid_found (drop (sid_offset_in extent) extent) (sid_at (drop (sid_offset_in extent) extent))
          (AreBytes-drop (sid_offset_in extent) extent b) refl sid;
    }

pub shows-kind : (extent : List ℕ) (a : AccessControlEntry) → ShowsAce extent a → kind_in extent ≡ a.kind
unfolding kind_in
shows-kind extent a h =
    let kind : kind_of (slice_index extent 0) ≡ Some a.kind = ap kind_of h.kind ∙ kind_of-code a.kind in
    ap (λ (o : Option AceKind). unwrap_or o kinds.Allow) kind

shows-object : (extent : List ℕ) (a : AccessControlEntry) → ShowsAce extent a → object_in extent ≡ a.object
unfolding object_in
shows-object extent a h =
    ap (λ (k : AceKind). guid_if (announces_object k extent) (drop 12 extent)) (shows-kind extent a h)
    ∙ guid-read (announces_object a.kind extent) (drop 12 extent) a.object h.object

shows-inherited : (extent : List ℕ) (a : AccessControlEntry) → ShowsAce extent a → inherited_in extent ≡ a.inherited
unfolding inherited_in
shows-inherited extent a h =
    ap (λ (k : AceKind). guid_if (announces_inherited k extent) (drop (12 + guid_size (object_in extent)) extent))
    (shows-kind extent a h)
    ∙ ap (λ (o : Option (List ℕ)). guid_if (announces_inherited a.kind extent) (drop (12 + guid_size o) extent))
    (shows-object extent a h)
    ∙ guid-read (announces_inherited a.kind extent) (drop (12 + guid_size a.object) extent) a.inherited h.inherited

shows-front : (extent : List ℕ) (a : AccessControlEntry) → ShowsAce extent a
    → sid_offset_in extent ≡ sid_offset a.kind a.object a.inherited
unfolding sid_offset_in
shows-front extent a h =
    ap (λ (k : AceKind). sid_offset k (object_in extent) (inherited_in extent)) (shows-kind extent a h)
    ∙ ap (λ (o : Option (List ℕ)). sid_offset a.kind o (inherited_in extent)) (shows-object extent a h)
    ∙ ap (λ (o : Option (List ℕ)). sid_offset a.kind a.object o) (shows-inherited extent a h)

front_room : (n : ℕ) (extent : List ℕ) (s : SecurityId) → BeginsWithSid (drop n extent) s → n + 8 ≤ length extent
front_room n extent s h = omega (arith, length-drop n extent, ap (length {A = ℕ}) h.shape)

-- what is shown has no fault, and is read
pub shows-extent : (extent : List ℕ) (a : AccessControlEntry) → ShowsAce extent a → (extent_fault extent ≡ None)
    × (ace_of extent ≡ a)
unfolding extent_fault
shows-extent extent a h =
    let kind : kind_of (slice_index extent 0) ≡ Some a.kind = ap kind_of h.kind ∙ kind_of-code a.kind in
    let flag : eqb (slice_index extent 1 / 32 % 2) 1 ≡ false = flag_clear (slice_index extent 1)
    (ap (λ (f : ℕ). f / 32 % 2) h.flags ∙ h.clear) in
    let n = sid_offset a.kind a.object a.inherited in
    let front : sid_offset_in extent ≡ n = shows-front extent a h in
    let room : ltb (length extent) (n + 8) ≡ false =
    le-ltb (length extent) (n + 8) (front_room n extent a.sid h.sid) in
    let sid = sid_at-bytes (drop n extent) a.sid h.sid in
    let subject : sid_of (drop (sid_offset_in extent) extent) ≡ a.sid = ap (λ (k : ℕ). sid_of (drop k extent)) front
    ∙ sid_of-at (drop n extent) a.sid (sid_size a.sid) sid in (
      rw (kind, flag, front, room, sid) refl,
      λ i. record {
        kind = shows-kind extent a h i;
        flags = h.flags i;
        mask = h.mask i;
        object = shows-object extent a h i;
        inherited = shows-inherited extent a h i;
        sid = subject i;
      },
    )

-- bounds from tests
size_bounds : (n len : ℕ) → (ltb n 16 || ltb len n) ≡ false → (16 ≤ n) × (n ≤ len)
size_bounds n len e = (grind (arith, nat_tests), grind (arith, nat_tests))

-- the ACE at the front of what is left
pub ace-shows : (left : List ℕ) → AreBytes left → ace_fault left ≡ None
    → ShowsAce (take (u16_at 2 left) left) (ace_of (take (u16_at 2 left) left)) × (u16_at 2 left ≤ length left)
unfolding ace_fault
ace-shows left b e =
    let room = went_on _ _ _ e in
    let range = went_on _ _ _ room.1 in
    let fourth = went_on _ _ _ range.1 in
    let bounds = size_bounds (u16_at 2 left) (length left) range.0 in
    let n = u16_at 2 left in
    let long : length (take n left) ≡ n = length-take-le n left bounds.1 in
    let same : u16_at 2 (take n left) ≡ n =
    sym (u16_at-front 2 (take n left) (drop n left) (omega (arith, long, bounds.0)))
    ∙ ap (u16_at 2) (take-append-drop n left) in
    let whole : n % 4 ≡ 0 = eqb-true (n % 4) 0 (not-false _ fourth.0) in (
      extent-shows (take n left) (AreBytes-take n left b) (same ∙ sym long) (ap (λ (k : ℕ). k % 4) long ∙ whole)
          fourth.1,
      bounds.1,
    )

in_range : (n len : ℕ) → 16 ≤ n → n ≤ len → (ltb n 16 || ltb len n) ≡ false
in_range n len low high = grind (arith, nat_tests)

sixteen : (extent : List ℕ) (a : AccessControlEntry) → ShowsAce extent a → 16 ≤ length extent
sixteen extent a h = omega (
  arith,
  front_room (sid_offset a.kind a.object a.inherited) extent a.sid h.sid,
  sid_offset-low a.kind a.object a.inherited,
)

pub shows-ace : (extent rest : List ℕ) (a : AccessControlEntry) → ShowsAce extent a
    → (ace_fault (extent ++ rest) ≡ None) × (u16_at 2 (extent ++ rest) ≡ length extent)
unfolding ace_fault
shows-ace extent rest a h =
    let long = sixteen extent a h in
    let size : u16_at 2 (extent ++ rest) ≡ length extent = u16_at-front 2 extent rest (omega (arith, long)) ∙ h.size in
    let all = length-append extent rest in
    let room : ltb (length (extent ++ rest)) 16 ≡ false = le-ltb (length (extent ++ rest)) 16
    (omega (arith, all, long)) in
    let range : (ltb (length extent) 16 || ltb (length (extent ++ rest)) (length extent)) ≡ false =
    in_range (length extent) (length (extent ++ rest)) long (omega (arith, all)) in
    let fourth : not (eqb (length extent % 4) 0) ≡ false = ap (λ (k : ℕ). not (eqb k 0)) h.aligned in
    let front : take (length extent) (extent ++ rest) ≡ extent = take_at extent rest (length extent) refl in
    (rw (room, size, range, fourth, front) (shows-extent extent a h).0, size)

-- as many ACEs as are counted
pub aces-shows : (n : ℕ) (left : List ℕ) → AreBytes left → aces_fault n left ≡ None
    → ShowsAces left (aces_of n left) × (length (aces_of n left) ≡ n)
unfolding aces_fault aces_of
aces-shows zero left b e = (tt, refl)
aces-shows (suc n) left b e =
    let parts = first_none _ _ e in
    let size = u16_at 2 left in
    let head = ace-shows left b parts.0 in
    let tail = aces-shows n (drop size left) (AreBytes-drop size left b) parts.1 in
    ((take size left, drop size left, sym (take-append-drop size left), head.0, tail.0), omega (arith, tail.1))

pub shows-aces : (aces : List AccessControlEntry) (left : List ℕ) → ShowsAces left aces
    → (aces_fault (length aces) left ≡ None) × (aces_of (length aces) left ≡ aces)
unfolding aces_fault aces_of
shows-aces [] left h = (refl, refl)
shows-aces (a ∷ others) left h =
    let extent = h.0 in
    let rest = h.1 in
    let head-ace = shows-ace extent rest a h.3 in
    let size = head-ace.1 in
    let tail = shows-aces others rest h.4 in
    let front : take (length extent) (extent ++ rest) ≡ extent = take_at extent rest (length extent) refl in
    let back : drop (length extent) (extent ++ rest) ≡ rest = drop_at extent rest (length extent) refl in
    let head = (shows-extent extent a h.3).1 in
    let P : List ℕ → Type 0 =
    λ xs. (option_or (ace_fault xs) (aces_fault (length others) (drop (u16_at 2 xs) xs)) ≡ None)
    × (ace_of (take (u16_at 2 xs) xs) ∷ aces_of (length others) (drop (u16_at 2 xs) xs) ≡ a ∷ others) in
    let fault : option_or (ace_fault (extent ++ rest))
    (aces_fault (length others) (drop (u16_at 2 (extent ++ rest)) (extent ++ rest))) ≡ None =
    rw (head-ace.0, size, back) tail.0 in
    let items : ace_of (take (u16_at 2 (extent ++ rest)) (extent ++ rest)) ∷ aces_of (length others)
    (drop (u16_at 2 (extent ++ rest)) (extent ++ rest)) ≡ a ∷ others =
    rw (size, front, back, head, tail.1) refl in
    subst P (sym h.2) (fault, items)

pub length-aces_of : (n : ℕ) (left : List ℕ) → length (aces_of n left) ≡ n
unfolding aces_of
length-aces_of zero left = refl
length-aces_of (suc n) left = let ih = length-aces_of n (drop (u16_at 2 left) left) in omega (arith, ih)

header_bounds : (n len : ℕ) → (ltb n 8 || ltb len n) ≡ false → (8 ≤ n) × (n ≤ len)
header_bounds n len e = (grind (arith, nat_tests), grind (arith, nat_tests))

in_header : (n len : ℕ) → 8 ≤ n → n ≤ len → (ltb n 8 || ltb len n) ≡ false
in_header n len low high = grind (arith, nat_tests)

other_revision : (r : ℕ) → (r ≡ 2 → ⊥) → not (eqb r 2 || eqb r 4) ≡ false → r ≡ 4
other_revision r h e = grind (arith, nat_tests)

revisions : (r : ℕ) → not (eqb r 2 || eqb r 4) ≡ false → (r ≡ 2) ⊎ (r ≡ 4)
revisions r e = elim (cases_eq r 2) [
  | inl h ↦ inl h
  | inr h ↦ inr (other_revision r h e)
]

revision_test : (r : ℕ) → (r ≡ 2) ⊎ (r ≡ 4) → not (eqb r 2 || eqb r 4) ≡ false
revision_test r (inl h) = rw h refl
revision_test r (inr h) = rw h refl

pub acl-shows : (bytes : List ℕ) → AreBytes bytes → acl_fault bytes ≡ None
    → ShowsAcl (acl_at_front bytes) (acl_of (acl_at_front bytes)) × (u16_at 2 bytes ≤ length bytes)
    × (aces_fault (u16_at 4 (acl_at_front bytes)) (drop 8 (acl_at_front bytes)) ≡ None)
unfolding acl_fault
acl-shows bytes b e =
    let revision = went_on _ _ _ e in
    let range = went_on _ _ _ revision.1 in
    let n = u16_at 2 bytes in
    let bounds = header_bounds n (length bytes) range.0 in
    let long : length (take n bytes) ≡ n = length-take-le n bytes bounds.1 in
    let whole = take-append-drop n bytes in
    let size : u16_at 2 (take n bytes) ≡ n =
    sym (u16_at-front 2 (take n bytes) (drop n bytes) (omega (arith, long, bounds.0))) ∙ ap (u16_at 2) whole in
    let count : u16_at 4 (take n bytes) ≡ u16_at 4 bytes =
    sym (u16_at-front 4 (take n bytes) (drop n bytes) (omega (arith, long, bounds.0))) ∙ ap (u16_at 4) whole in
    let first_byte : slice_index (take n bytes) 0 ≡ slice_index bytes 0 = get_or-take n bytes 0 0
    (omega (arith, bounds.0)) in
    let sound : aces_fault (u16_at 4 (take n bytes)) (drop 8 (take n bytes)) ≡ None = rw count range.1 in
    let aces = aces-shows (u16_at 4 (take n bytes)) (drop 8 (take n bytes))
    (AreBytes-drop 8 (take n bytes) (AreBytes-take n bytes b)) sound in (
      record {
        revision = subst (λ (r : ℕ). (r ≡ 2) ⊎ (r ≡ 4)) (sym first_byte) (revisions (slice_index bytes 0) revision.0);
        header = omega (arith, long, bounds.0);
        size = size ∙ sym long;
        count = sym aces.1;
        extents = aces.0;
      },
      bounds.1,
      sound,
    )

pub shows-acl : (extent rest : List ℕ) (aces : List AccessControlEntry) → ShowsAcl extent aces
    → (acl_fault (extent ++ rest) ≡ None) × (acl_at_front (extent ++ rest) ≡ extent) × (acl_of extent ≡ aces)
unfolding acl_fault
shows-acl extent rest aces h =
    let size : u16_at 2 (extent ++ rest) ≡ length extent =
    u16_at-front 2 extent rest (omega (arith, h.header)) ∙ h.size in
    let count : u16_at 4 (extent ++ rest) ≡ length aces = u16_at-front 4 extent rest (omega (arith, h.header))
    ∙ h.count in
    let first_byte : slice_index (extent ++ rest) 0 ≡ slice_index extent 0 = get_or_append_left extent rest 0 0
    (omega (arith, h.header)) in
    let revision : not (eqb (slice_index (extent ++ rest) 0) 2 || eqb (slice_index (extent ++ rest) 0) 4) ≡ false =
    ap (λ (r : ℕ). not (eqb r 2 || eqb r 4)) first_byte ∙ revision_test (slice_index extent 0) h.revision in
    let range : (ltb (length extent) 8 || ltb (length (extent ++ rest)) (length extent)) ≡ false =
    in_header (length extent) (length (extent ++ rest)) h.header (omega (arith, length-append extent rest)) in
    let front : take (length extent) (extent ++ rest) ≡ extent = take_at extent rest (length extent) refl in
    let inner = shows-aces aces (drop 8 extent) h.extents in
    (rw (revision, size, range, count, front) inner.0, rw size front, rw h.count inner.1)

pub begins-acl : (bytes : List ℕ) (aces : List AccessControlEntry) → BeginsWithAcl bytes aces
    → (acl_fault bytes ≡ None) × (acl_of (acl_at_front bytes) ≡ aces)
begins-acl bytes aces h =
    let read = shows-acl h.0 h.1 aces h.3 in
    (ap acl_fault h.2 ∙ read.0, ap (λ (xs : List ℕ). acl_of (acl_at_front xs)) h.2 ∙ ap acl_of read.1 ∙ read.2)

pub acl-begins : (bytes : List ℕ) → AreBytes bytes → acl_fault bytes ≡ None
    → BeginsWithAcl bytes (acl_of (acl_at_front bytes))
acl-begins bytes b e = (
  acl_at_front bytes,
  drop (u16_at 2 bytes) bytes,
  sym (take-append-drop (u16_at 2 bytes) bytes),
  (acl-shows bytes b e).0,
)

-- what a reader of the aces needs
pub ace-bounds : (left : List ℕ) → ace_fault left ≡ None
    → (16 ≤ u16_at 2 left) × (u16_at 2 left ≤ length left) × (extent_fault (take (u16_at 2 left) left) ≡ None)
unfolding ace_fault
ace-bounds left e =
    let room = went_on _ _ _ e in
    let range = went_on _ _ _ room.1 in
    let fourth = went_on _ _ _ range.1 in
    let bounds = size_bounds (u16_at 2 left) (length left) range.0 in
    (bounds.0, bounds.1, fourth.1)

pub aces-front : (n m : ℕ) (left : List ℕ) → m ≡ n + 1 → aces_fault m left ≡ None
    → (ace_fault left ≡ None) × (aces_fault n (drop (u16_at 2 left) left) ≡ None)
unfolding aces_fault
aces-front n zero left e h = absurd (omega arith)
aces-front n (suc m) left e h =
    let same : m ≡ n = omega arith in
    let parts = first_none _ _ h in
    (parts.0, subst (λ (k : ℕ). aces_fault k (drop (u16_at 2 left) left) ≡ None) same parts.1)

pub aces_of-more : (n m : ℕ) (left : List ℕ) → m ≡ n + 1
    → aces_of m left ≡ ace_of (take (u16_at 2 left) left) ∷ aces_of n (drop (u16_at 2 left) left)
unfolding aces_of
aces_of-more n zero left e = absurd (omega arith)
aces_of-more n (suc m) left e = let same : m ≡ n = omega arith in rw same refl

pub aces_of-none : (n : ℕ) (left : List ℕ) → n ≡ 0 → aces_of n left ≡ []
unfolding aces_of
aces_of-none n left e = rw e refl

both_parts : (a b : Bool) → (a && b) ≡ true → a ≡ true
both_parts true b e = refl
both_parts false b e = absurd (cc)

-- a GUID that is announced has its room before the SID
pub object-room : (extent : List ℕ) → announces_object (kind_in extent) extent ≡ true → 28 ≤ sid_offset_in extent
unfolding sid_offset_in object_in guid_if announces_object
object-room extent e =
    let kind : is_object (kind_in extent) ≡ true = both_parts (is_object (kind_in extent))
    (eqb (u32_at 8 extent % 2) 1) e in
    rw (e, kind) (omega arith)

object_room : (b t u : Bool) (xs ys : List ℕ) → b && u ≡ true
    → 28 + guid_size (guid_if (b && t) xs) ≤ cond b
    (12 + guid_size (guid_if (b && t) xs) + guid_size (guid_if (b && u) ys)) 8
unfolding guid_if
object_room true t true xs ys e = omega arith
object_room true t false xs ys e = absurd (cc)
object_room false t u xs ys e = absurd (cc)

pub inherited-room : (extent : List ℕ) → announces_inherited (kind_in extent) extent ≡ true
    → 28 + guid_size (object_in extent) ≤ sid_offset_in extent
unfolding sid_offset_in object_in inherited_in announces_object announces_inherited
inherited-room extent e =
    object_room (is_object (kind_in extent)) (eqb (u32_at 8 extent % 2) 1) (eqb (u32_at 8 extent / 2 % 2) 1)
    (drop 12 extent)
    (drop (12 + guid_size (object_in extent)) extent) e

pub sid-room : (n : ℕ) (extent : List ℕ) (s : SecurityId) → BeginsWithSid (drop n extent) s
    → n + sid_size s ≤ length extent
sid-room n extent s h = omega (
  arith,
  length-drop n extent,
  ap (length {A = ℕ}) h.shape,
  length-append (sid_bytes s) h.rest,
  length-sid_bytes s,
)

-- an ACE's written size is at most its extent
pub ace-fits : (extent : List ℕ) (a : AccessControlEntry) → ShowsAce extent a → ace_size a ≤ length extent
ace-fits extent a h = sid-room (sid_offset a.kind a.object a.inherited) extent a.sid h.sid

pub aces-fit : (aces : List AccessControlEntry) (bytes : List ℕ) → ShowsAces bytes aces → aces_size aces ≤ length bytes
aces-fit [] bytes h = omega arith
aces-fit (a ∷ others) bytes h =
    let head = ace-fits h.0 a h.3 in
    let tail = aces-fit others h.1 h.4 in
    omega (arith, head, tail, ap (length {A = ℕ}) h.2, length-append h.0 h.1)

pub acl-fits : (extent : List ℕ) (aces : List AccessControlEntry) → ShowsAcl extent aces → acl_size aces ≤ length extent
acl-fits extent aces h = omega (arith, aces-fit aces (drop 8 extent) h.extents, length-drop 8 extent, h.header)

pub u16_at-small : (i : ℕ) (bytes : List ℕ) → AreBytes bytes → u16_at i bytes < 2 ^ 16
unfolding u16_at
u16_at-small i bytes b = omega (arith, little_from-lt 0 2 (drop i bytes) (AreBytes-drop i bytes b))

u32_at-small : (i : ℕ) (bytes : List ℕ) → AreBytes bytes → u32_at i bytes < 2 ^ 32
unfolding u32_at
u32_at-small i bytes b = omega (arith, little_from-lt 0 4 (drop i bytes) (AreBytes-drop i bytes b))

-- bytes are bytes in either order
swap_fields-bytes : (xs : List ℕ) → AreBytes xs → All (λ b. b < 256) (swap_fields xs)
swap_fields-bytes xs h = All-from_recursion (λ b. b < 256) (swap_fields xs) (search (rules, h))

guid_fits : (b : Bool) (bytes : List ℕ) (o : Option (List ℕ)) → AreBytes bytes → ShowsGuid b bytes o → IfSome o IsGuid
guid_fits true bytes None small h = tt
guid_fits true bytes (Some g) small h = rw h
    (record { size = refl; bytes = swap_fields-bytes (take 16 bytes) (AreBytes-take 16 bytes small) })
guid_fits false bytes None small h = tt
guid_fits false bytes (Some g) small h = absurd h

guids_fit : (b t u : Bool) (xs ys : List ℕ) (o i : Option (List ℕ)) → ShowsGuid (b && t) xs o → ShowsGuid (b && u) ys i
    → GuidsFit b o i
guids_fit true t u xs ys o i h k = tt
guids_fit false t u xs ys None None h k = tt
guids_fit false t u xs ys None (Some g) h k = absurd k
guids_fit false t u xs ys (Some g) i h k = absurd h

pub shows-ace-limits : (extent : List ℕ) (a : AccessControlEntry) → AreBytes extent → ShowsAce extent a → IsAce a
unfolding announces_object announces_inherited
shows-ace-limits extent a b h = record {
  flags = omega (arith, b 1, h.flags);
  clear = h.clear;
  mask = omega (arith, u32_at-small 4 extent b, h.mask);
  fit = guids_fit (is_object a.kind) (eqb (u32_at 8 extent % 2) 1) (eqb (u32_at 8 extent / 2 % 2) 1) _ _ a.object
      a.inherited h.object h.inherited;
  object = guid_fits (announces_object a.kind extent) (drop 12 extent) a.object (AreBytes-drop 12 extent b) h.object;
  inherited = guid_fits (announces_inherited a.kind extent) (drop (12 + guid_size a.object) extent) a.inherited
      (AreBytes-drop (12 + guid_size a.object) extent b) h.inherited;
  sid = h.sid.limits;
}

AreBytes-front : (xs ys : List ℕ) → AreBytes (xs ++ ys) → AreBytes xs
AreBytes-front xs ys b =
    let front : take (length xs) (xs ++ ys) ≡ xs = take_at xs ys (length xs) refl in
    subst AreBytes front (AreBytes-take (length xs) (xs ++ ys) b)

AreBytes-back : (xs ys : List ℕ) → AreBytes (xs ++ ys) → AreBytes ys
AreBytes-back xs ys b =
    let back : drop (length xs) (xs ++ ys) ≡ ys = drop_at xs ys (length xs) refl in
    subst AreBytes back (AreBytes-drop (length xs) (xs ++ ys) b)

aces-limits : (aces : List AccessControlEntry) (bytes : List ℕ) → AreBytes bytes → ShowsAces bytes aces
    → AllByRecursion IsAce aces
aces-limits [] bytes b h = tt
aces-limits (a ∷ others) bytes b h =
    let c = subst AreBytes h.2 b in
    (shows-ace-limits h.0 a (AreBytes-front h.0 h.1 c) h.3, aces-limits others h.1 (AreBytes-back h.0 h.1 c) h.4)

pub shows-acl-limits : (extent : List ℕ) (aces : List AccessControlEntry) → AreBytes extent → ShowsAcl extent aces
    → IsAcl aces
shows-acl-limits extent aces b h = record {
  each = aces-limits aces (drop 8 extent) (AreBytes-drop 8 extent b) h.extents;
  fits = omega (arith, acl-fits extent aces h, h.size, u16_at-small 2 extent b);
}

-- what a reader of the ACL needs
pub acl-readable : (bytes : List ℕ) → AreBytes bytes → acl_fault bytes ≡ None
    → IsReadableAcl (acl_at_front bytes) × (8 ≤ length (acl_at_front bytes)) × (u16_at 2 bytes ≤ length bytes)
acl-readable bytes b e =
    let shows = acl-shows bytes b e in
    let are = AreBytes-take (u16_at 2 bytes) bytes b in
    let small = u16_at-small 2 (acl_at_front bytes) are in (
      record {
        room = shows.0.header;
        small = omega (arith, small, shows.0.size);
        size = shows.0.size;
        sound = shows.2;
        limits = shows-acl-limits (acl_at_front bytes) (acl_of (acl_at_front bytes)) are shows.0;
      },
      shows.0.header,
      shows.1,
    )

-- the written size, by that of the SID
pub read-size : (extent : List ℕ) (n : ℕ) → n ≡ sid_size (sid_of (drop (sid_offset_in extent) extent))
    → sid_offset_in extent + n ≡ ace_size (ace_of extent)
unfolding sid_offset_in
read-size extent n size = ap (λ (k : ℕ). sid_offset_in extent + k) size

-- the ACEs that are checked are those of the extent
pub acl-read : (bytes : List ℕ) (n count : ℕ) → n ≡ u16_at 2 bytes → count ≡ u16_at 4 bytes → 8 ≤ n → n ≤ length bytes
    → aces_of count (drop 8 (take n bytes)) ≡ acl_of (acl_at_front bytes)
acl-read bytes n count size e low high =
    let long : length (take n bytes) ≡ n = length-take-le n bytes high in
    let same : u16_at 4 (take n bytes) ≡ u16_at 4 bytes =
    sym (u16_at-front 4 (take n bytes) (drop n bytes) (omega (arith, long, low)))
    ∙ ap (u16_at 4) (take-append-drop n bytes) in
    ap (λ (k : ℕ). aces_of k (drop 8 (take n bytes))) (e ∙ sym same) ∙ ap (λ (k : ℕ). acl_of (take k bytes)) size
