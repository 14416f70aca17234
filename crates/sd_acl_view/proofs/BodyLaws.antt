-- The GUIDs and the SID of an ACE in its extent.
use Rattle.std.proofs.Common.{◌≡◌, ◌≤◌, ◌/◌, ◌%◌, ◌+◌, ◌-◌, ◌*◌, ◌&&◌, ◌++◌, Bool, true, false, cond, eqb}
use Rattle.std.proofs.Common.{ℕ, List, length, take, drop, slice_index, refl, sym, ap, ◌∙◌, arith, subst}
use Rattle.std.proofs.Common.{append_assoc, length-append, length-drop}
use Rattle.std.proofs.lemmas.List.{drop-drop, get_or-drop, length-take-le, take-append-drop, take_at}
use Rattle.uuid.specs.Parts.{swap_fields}
use Rattle.uuid.proofs.RoundTrips.{swap_twice}
use Rattle.sd_ace.specs.Ace.{AccessControlEntry, ace_size, guid_size}
use Rattle.sd_kinds.specs.Kinds.{is_object}
use Rattle.sd_sid.specs.Sid.{SecurityId, BeginsWithSid, sid_bytes, sid_of}
use Rattle.sd_acl_view.specs.Ace.{announces_inherited, announces_object}
use Rattle.sd_ace.specs.AceLayout.{ace_body, guid_part, guids, front_size}
use Rattle.sd_acl_view.specs.AclReading.{ace_of, guid_if, inherited_in, kind_in, object_in, sid_offset_in}
use Rattle.sd_acl_view.specs.Inner.ReadableAce.{IsReadableAce}
use Rattle.sd_acl_view.specs.Bytes.{u32_at}
use Rattle.sd_sid.proofs.laws.SidLaws.{length-sid_bytes}
use Rattle.sd_acl_view.proofs.laws.AclLaws.{sid-room}

-- a GUID that is announced is the next piece of the extent
piece : (b : Bool) (n : ℕ) (extent : List ℕ) → n + guid_size (guid_if b (drop n extent)) ≤ length extent
    → drop n extent ≡ guid_part (guid_if b (drop n extent)) ++ drop (n + guid_size (guid_if b (drop n extent))) extent
unfolding guid_if
piece true n extent room =
    let long : length (take 16 (drop n extent)) ≡ 16 = length-take-le 16 (drop n extent)
    (omega (arith, length-drop n extent)) in
    let back = swap_twice (take 16 (drop n extent)) long in
    sym (take-append-drop 16 (drop n extent))
    ∙ ap (λ (xs : List ℕ). xs ++ drop 16 (drop n extent)) (sym back)
    ∙ ap (λ (xs : List ℕ). swap_fields (swap_fields (take 16 (drop n extent))) ++ xs) (drop-drop 16 n extent)
piece false n extent room = ap (λ (k : ℕ). drop k extent) (omega arith)

abbrev object_at : Bool → Bool → List ℕ → ℕ
object_at b t extent = guid_size (guid_if (b && t) (drop 12 extent))

abbrev inherited_at : Bool → Bool → Bool → List ℕ → ℕ
inherited_at b t u extent = guid_size (guid_if (b && u) (drop (12 + object_at b t extent) extent))

pieces : (b t u : Bool) (extent : List ℕ)
    → cond b (12 + object_at b t extent + inherited_at b t u extent) 8 ≤ length extent
    → drop (cond b 12 8) extent
    ≡ guid_part (guid_if (b && t) (drop 12 extent))
    ++ (guid_part (guid_if (b && u) (drop (12 + object_at b t extent) extent))
    ++ drop (cond b (12 + object_at b t extent + inherited_at b t u extent) 8) extent)
unfolding guid_if
pieces true t u extent room =
    let first = piece t 12 extent (omega arith) in
    let second = piece u (12 + object_at true t extent) extent room in
    first ∙ ap (λ (xs : List ℕ). guid_part (guid_if t (drop 12 extent)) ++ xs) second
pieces false t u extent room = refl

front_sum : (b t u : Bool) (extent : List ℕ)
    → cond b (12 + object_at b t extent + inherited_at b t u extent) 8
    ≡ cond b 12 8 + object_at b t extent + inherited_at b t u extent
unfolding guid_if
front_sum true t u extent = refl
front_sum false t u extent = refl

small : (b : Bool) (xs : List ℕ) → guid_size (guid_if b xs) ≤ 16
unfolding guid_if
small true xs = omega arith
small false xs = omega arith

part_size : (b : Bool) (xs : List ℕ) → length (guid_part (guid_if b xs)) ≡ guid_size (guid_if b xs)
unfolding guid_if
part_size true xs = refl
part_size false xs = refl

record Front (extent : List ℕ) : Type 0 where
  pub sum : sid_offset_in extent ≡ front_size (kind_in extent) + guid_size (object_in extent)
      + guid_size (inherited_in extent)
  pub object : guid_size (object_in extent) ≤ 16
  pub inherited : guid_size (inherited_in extent) ≤ 16
  pub object_bytes : length (guid_part (object_in extent)) ≡ guid_size (object_in extent)
  pub inherited_bytes : length (guid_part (inherited_in extent)) ≡ guid_size (inherited_in extent)

front : (extent : List ℕ) → Front extent
unfolding sid_offset_in object_in inherited_in announces_object announces_inherited
front extent =
    let b = is_object (kind_in extent) in
    let t = eqb (u32_at 8 extent % 2) 1 in
    let u = eqb (u32_at 8 extent / 2 % 2) 1 in
    record {
      sum = front_sum b t u extent;
      object = small (b && t) (drop 12 extent);
      inherited = small (b && u) (drop (12 + guid_size (object_in extent)) extent);
      object_bytes = part_size (b && t) (drop 12 extent);
      inherited_bytes = part_size (b && u) (drop (12 + guid_size (object_in extent)) extent);
    }

guids_at : (extent : List ℕ) → sid_offset_in extent ≤ length extent
    → drop (front_size (kind_in extent)) extent ≡ guid_part (object_in extent)
    ++ (guid_part (inherited_in extent) ++ drop (sid_offset_in extent) extent)
unfolding sid_offset_in object_in inherited_in announces_object announces_inherited
guids_at extent room =
    pieces (is_object (kind_in extent)) (eqb (u32_at 8 extent % 2) 1) (eqb (u32_at 8 extent / 2 % 2) 1) extent room

sid_count : (n : ℕ) (extent : List ℕ) (s : SecurityId) → BeginsWithSid (drop n extent) s
    → slice_index extent (n + 1) ≡ length s.subs
sid_count n extent s h = sym (get_or-drop n extent 1 0) ∙ ap (λ (xs : List ℕ). slice_index xs 1) h.shape

body_by : (b t u : Bool) (extent tail : List ℕ)
    → guids b (guid_if (b && t) (drop 12 extent)) (guid_if (b && u) (drop (12 + object_at b t extent) extent)) ++ tail
    ≡ guid_part (guid_if (b && t) (drop 12 extent))
    ++ (guid_part (guid_if (b && u) (drop (12 + object_at b t extent) extent)) ++ tail)
unfolding guid_if
body_by true t u extent tail =
    append_assoc (guid_part (guid_if t (drop 12 extent)))
    (guid_part (guid_if u (drop (12 + object_at true t extent) extent))) tail
body_by false t u extent tail = refl

-- the GUIDs and the SID, one after the other
body_is : (extent : List ℕ) → ace_body (ace_of extent) ≡ guid_part (object_in extent)
    ++ (guid_part (inherited_in extent) ++ sid_bytes (sid_of (drop (sid_offset_in extent) extent)))
unfolding object_in inherited_in announces_object announces_inherited
body_is extent =
    body_by (is_object (kind_in extent)) (eqb (u32_at 8 extent % 2) 1) (eqb (u32_at 8 extent / 2 % 2) 1) extent
    (sid_bytes (sid_of (drop (sid_offset_in extent) extent)))

pub length_body : (extent : List ℕ)
    → front_size (kind_in extent) + length (ace_body (ace_of extent)) ≡ ace_size (ace_of extent)
unfolding sid_offset_in
length_body extent =
    let f = front extent in
    let o = guid_part (object_in extent) in
    let i = guid_part (inherited_in extent) in
    let s = sid_of (drop (sid_offset_in extent) extent) in
    let all = ap length (body_is extent) ∙ length-append o (i ++ sid_bytes s) in
    let rest = length-append i (sid_bytes s) in
    omega (arith, all, rest, length-sid_bytes s, f.sum, f.object_bytes, f.inherited_bytes)

pub body_at : (extent : List ℕ) (n : ℕ) → IsReadableAce extent → n ≡ length (ace_body (ace_of extent))
    → take n (drop (front_size (kind_in extent)) extent) ≡ ace_body (ace_of extent)
body_at extent n h e =
    let o = guid_part (object_in extent) in
    let i = guid_part (inherited_in extent) in
    let s = sid_of (drop (sid_offset_in extent) extent) in
    let rest = h.sid.rest in
    let cut : drop (front_size (kind_in extent)) extent ≡ ace_body (ace_of extent) ++ rest =
    guids_at extent (omega (arith, h.front))
    ∙ ap (λ (xs : List ℕ). o ++ (i ++ xs)) h.sid.shape
    ∙ ap (λ (xs : List ℕ). o ++ xs) (sym (append_assoc i (sid_bytes s) rest))
    ∙ sym (append_assoc o (i ++ sid_bytes s) rest)
    ∙ ap (λ (xs : List ℕ). xs ++ rest) (sym (body_is extent)) in
    ap (take n) cut ∙ take_at (ace_body (ace_of extent)) rest n (sym e)

-- from `head` on, up to the end of a SID that begins at `start`
abbrev cut_out : List ℕ → ℕ → ℕ → ℕ → List ℕ
cut_out extent head start count = take (start + 8 + 4 * count - head) (drop head extent)

-- where the body of the ACE stands in the extent
pub record Span (extent : List ℕ) (a : AccessControlEntry) (head start count : ℕ) : Type 0 where
  pub order : head ≤ start
  pub whole : start + 8 + 4 * count ≤ length extent
  pub value : cut_out extent head start count ≡ ace_body a
  pub size : front_size a.kind + length (cut_out extent head start count) ≡ ace_size a
  pub short : length (cut_out extent head start count) ≤ 100

span_in : (extent : List ℕ) (head start count : ℕ) → IsReadableAce extent → head ≡ front_size (kind_in extent)
    → start ≡ sid_offset_in extent → count ≡ slice_index extent (start + 1)
    → Span extent (ace_of extent) head start count
unfolding sid_offset_in
span_in extent head start count h begin at same =
    let f = front extent in
    let s = sid_of (drop (sid_offset_in extent) extent) in
    let subs : count ≡ length s.subs = same ∙ ap (λ (k : ℕ). slice_index extent (k + 1)) at
    ∙ sid_count (sid_offset_in extent) extent s h.sid in
    let room = sid-room (sid_offset_in extent) extent s h.sid in
    let body = length_body extent in
    let written : start + 8 + 4 * count ≡ ace_size (ace_of extent) = omega (arith, at, subs) in
    let value : cut_out extent head start count ≡ ace_body (ace_of extent) =
    ap (λ (k : ℕ). take (start + 8 + 4 * count - head) (drop k extent)) begin
    ∙ body_at extent (start + 8 + 4 * count - head) h (omega (arith, written, body, begin)) in
    let long = ap (length {A = ℕ}) value in
    record {
      order = omega (arith, at, begin, f.sum);
      whole = omega (arith, at, subs, room);
      value = value;
      size = omega (arith, long, body);
      short = omega (arith, long, body, written, at, begin, subs, f.sum, f.object, f.inherited, h.sid.limits.count);
    }

pub span : (extent : List ℕ) (a : AccessControlEntry) (head start count : ℕ) → IsReadableAce extent → ace_of extent ≡ a
    → head ≡ front_size a.kind → start ≡ sid_offset_in extent → count ≡ slice_index extent (start + 1)
    → Span extent a head start count
span extent a head start count h view begin at same =
    let head_in = begin ∙ ap (λ (b : AccessControlEntry). front_size b.kind) (sym view) in
    subst (λ (b : AccessControlEntry). Span extent b head start count) view
    (span_in extent head start count h head_in at same)
