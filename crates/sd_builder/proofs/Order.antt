-- The order of the calls: where a part more stands, and that the others stay where they are.
use Rattle.std.proofs.Common.{◌≡◌, ◌≤◌, ◌<◌, ℕ, ◌+◌, Bool, true, false, List, [], ◌∷◌, ◌++◌, length, drop, Option, Some}
use Rattle.std.proofs.Common.{None, refl, sym, ap, ◌∙◌, arith, length-append, length-drop}
use Rattle.std.specs.Prelude.{if◌then◌else◌, unwrap_or}
use Rattle.std.specs.List.{flat_map}
use Rattle.std.proofs.lemmas.Grind.{flat_map-append}
use Rattle.std.proofs.lemmas.List.{append-nil, drop-append-le}
use Rattle.sd_ace.specs.Ace.{AccessControlEntry}
use Rattle.sd_sid.specs.Sid.{SecurityId}
use Rattle.sd_view.specs.Layout.{acl_part, sid_part}
use Rattle.sd_view.specs.declared.acl_part.AclPart.{AclPart}
use Rattle.sd_view.specs.declared.acl_part.AclPart.TheVariants as acl
use Rattle.sd_parts.specs.declared.part.Which.{Which}
use Rattle.sd_parts.specs.Parts.{get_part, same_part}
use Rattle.sd_parts.proofs.laws.PartLaws.{each-part, get-other, get-set, same-self, same-sym}
use Rattle.sd_parts.specs.declared.part.Part.{Part}
use Rattle.sd_parts.specs.declared.part.Part.TheVariants as part
use Rattle.sd_builder.specs.Draft.{Draft, DraftParts, bytes_in_order, offset_among, offset_of, part_bytes}
use Rattle.sd_builder.specs.Inner.Building.{Given, StandsInOrder, given, given_acl, given_bytes, given_sid, null}
use Rattle.sd_builder.specs.Inner.Building.{placed}
use Rattle.sd_builder.proofs.Standing.{IsOneMore}
use Rattle.sd_builder.specs.declared.builder.Builder.{Builder}
use Rattle.sd_builder.specs.declared.builder.OpenAcl.{OpenAcl}

-- ---- offsets among parts

-- a part without an offset is not the first one
not-first : (c : Bool) (start n : ℕ) → 0 < start → (if c then start else n) ≡ 0 → (c ≡ false) × (n ≡ 0)
not-first true start n low e = absurd (omega (arith, low, e))
not-first false start n low e = (refl, e)

-- another part at the end moves none
others-stay : (start : ℕ) (t : DraftParts) (order : List Part) (p q : Part) → same_part p q ≡ false
    → offset_among start t (order ++ q ∷ []) p ≡ offset_among start t order p
others-stay start t [] p q e = rw e refl
others-stay start t (x ∷ xs) p q e =
    ap (λ (n : ℕ). if same_part p x then start else n) (others-stay (start + length (part_bytes t x)) t xs p q e)

-- a part that was none of them begins where they end
last-begins : (start : ℕ) (t : DraftParts) (order : List Part) (p : Part) → 0 < start → offset_among start t order p ≡ 0
    → offset_among start t (order ++ p ∷ []) p ≡ start + length (flat_map (part_bytes t) order)
last-begins start t [] p low e = rw (same-self p) (omega arith)
last-begins start t (x ∷ xs) p low e =
    let n = length (part_bytes t x) in
    let none = not-first (same_part p x) start (offset_among (start + n) t xs p) low e in
    let rest = last-begins (start + n) t xs p (omega (arith, low)) none.1 in
    rw none.0 (omega (arith, rest, length-append (part_bytes t x) (flat_map (part_bytes t) xs)))

-- parts of which only one has other bytes, and it is none of them
module _ (t u : DraftParts) (p : Part) (same : (q : Part) → same_part p q ≡ false
    → part_bytes u q ≡ part_bytes t q) where
  bytes-same : (start : ℕ) (order : List Part) → 0 < start → offset_among start t order p ≡ 0
      → flat_map (part_bytes u) order ≡ flat_map (part_bytes t) order
  bytes-same start [] low e = refl
  bytes-same start (x ∷ xs) low e =
      let n = length (part_bytes t x) in
      let none = not-first (same_part p x) start (offset_among (start + n) t xs p) low e in
      rw (same x none.0, bytes-same (start + n) xs (omega (arith, low)) none.1) refl

  offset-same : (start : ℕ) (order : List Part) (q : Part) → 0 < start → offset_among start t order p ≡ 0
      → offset_among start u order q ≡ offset_among start t order q
  offset-same start [] q low e = refl
  offset-same start (x ∷ xs) q low e =
      let n = length (part_bytes t x) in
      let none = not-first (same_part p x) start (offset_among (start + n) t xs p) low e in
      rw (same x none.0)
      (ap (λ (m : ℕ). if same_part q x then start else m)
      (offset-same (start + n) xs q (omega (arith, low)) none.1))

-- parts of the same bytes
module _ (t u : DraftParts) (same : (q : Part) → part_bytes u q ≡ part_bytes t q) where
  bytes-alike : (order : List Part) → flat_map (part_bytes u) order ≡ flat_map (part_bytes t) order
  bytes-alike [] = refl
  bytes-alike (x ∷ xs) = rw (same x, bytes-alike xs) refl

  offset-alike : (start : ℕ) (order : List Part) (q : Part)
      → offset_among start u order q ≡ offset_among start t order q
  offset-alike start [] q = refl
  offset-alike start (x ∷ xs) q =
      rw (same x)
      (ap (λ (m : ℕ). if same_part q x then start else m) (offset-alike (start + length (part_bytes t x)) xs q))

-- ---- a part more

-- a part that was none of them is appended
record IsAppended (bytes new : List ℕ) (t : Draft) (u : DraftParts) (p : Part) : Type 0 where
  shape : drop 20 (bytes ++ new) ≡ flat_map (part_bytes u) (t.order ++ p ∷ [])
  here : length bytes ≡ offset_among 20 u (t.order ++ p ∷ []) p
  others : (n : ℕ) (q : Part) → same_part q p ≡ false → n ≡ offset_of t q
      → n ≡ offset_among 20 u (t.order ++ p ∷ []) q

appended-part : (bytes new : List ℕ) (t : Draft) (u : DraftParts) (p : Part)
    → ((q : Part) → same_part p q ≡ false → part_bytes u q ≡ part_bytes t.parts q)
    → part_bytes u p ≡ new → offset_of t p ≡ 0 → 20 ≤ length bytes → drop 20 bytes ≡ bytes_in_order t
    → IsAppended bytes new t u p
appended-part bytes new t u p same is none low shape =
    let before = bytes-same t.parts u p same 20 t.order (omega arith) none in
    let free = offset-same t.parts u p same 20 t.order p (omega arith) none ∙ none in
    let last = last-begins 20 u t.order p (omega arith) free in
    record {
      shape = drop-append-le 20 bytes new low ∙ ap (λ (r : List ℕ). r ++ new) (shape ∙ sym before)
          ∙ ap (λ (r : List ℕ). flat_map (part_bytes u) t.order ++ r)
          (sym (append-nil new) ∙ ap (λ (r : List ℕ). r ++ []) (sym is))
          ∙ sym (flat_map-append (part_bytes u) t.order (p ∷ []));
      here = omega (arith, last, ap length before, ap length shape, length-drop 20 bytes, low);
      others = λ n q other e. e ∙ sym (offset-same t.parts u p same 20 t.order q (omega arith) none)
          ∙ sym (others-stay 20 u t.order q p other);
    }

-- what is given of a part has the part's bytes
given-sid : (o : Option SecurityId) → given_bytes (given_sid o) ≡ sid_part o
given-sid None = refl
given-sid (Some s) = refl

given-acl : (a : AclPart) → given_bytes (given_acl a) ≡ acl_part a
given-acl acl.Absent = refl
given-acl acl.Null = refl
given-acl (acl.List aces) = refl

given-part : (t : DraftParts) (p : Part) → given_bytes (given t p) ≡ part_bytes t p
given-part t part.Owner = given-sid t.owner
given-part t part.Group = given-sid t.group
given-part t part.Sacl = given-acl t.sacl
given-part t part.Dacl = given-acl t.dacl

same-bytes : (t u : DraftParts) (p : Part) → given_bytes (given u p) ≡ given_bytes (given t p)
    → part_bytes u p ≡ part_bytes t p
same-bytes t u p e = sym (given-part u p) ∙ e ∙ given-part t p

-- a part with bytes more
pub more-order : (bytes : List ℕ) (b : Builder) (t : Draft) (u : DraftParts) (p : Part) (g : Given)
    → IsOneMore t.parts u p g → get_part p b.offsets ≡ None → 20 ≤ length bytes → StandsInOrder bytes b t
    → StandsInOrder (bytes ++ given_bytes g) (placed p (length bytes) b)
    (record { parts = u; order = t.order ++ p ∷ [] })
more-order bytes b t u p g more none low h =
    let kept = λ (o : Option ℕ). unwrap_or o 0 in
    let new = appended-part bytes (given_bytes g) t u p
    (λ q other. same-bytes t.parts u q (ap given_bytes (more.others q other)))
    (sym (given-part u p) ∙ ap given_bytes more.is) (sym (h.offset p) ∙ ap kept none) low h.shape in
    record {
      shape = new.shape;
      offset = each-part (λ q. unwrap_or (get_part q (placed p (length bytes) b).offsets) 0
          ≡ offset_among 20 u (t.order ++ p ∷ []) q) p
          (ap kept (get-set p (Some (length bytes)) b.offsets) ∙ new.here)
          (λ q other. new.others _ q (same-sym p q other)
          (ap kept (get-other p q (Some (length bytes)) b.offsets other) ∙ h.offset q));
    }

-- parts of the same bytes stand as they are
order-alike : (bytes : List ℕ) (b : Builder) (t : Draft) (u : DraftParts)
    → ((q : Part) → part_bytes u q ≡ part_bytes t.parts q) → StandsInOrder bytes b t
    → StandsInOrder bytes b (record t { parts = u })
order-alike bytes b t u same h = record {
  shape = h.shape ∙ sym (bytes-alike t.parts u same t.order);
  offset = λ q. h.offset q ∙ sym (offset-alike t.parts u same 20 t.order q);
}

-- which ACL is open, and how far, is no matter of the parts that are given
pub given-reopened : (t : DraftParts) (o : Option (Which × List AccessControlEntry)) (p : Part)
    → given (record t { «open» = o }) p ≡ given t p
given-reopened t o part.Owner = refl
given-reopened t o _ = refl

pub order-reopened : (bytes : List ℕ) (b : Builder) (t : Draft) (o : Option OpenAcl)
    (u : Option (Which × List AccessControlEntry)) → StandsInOrder bytes b t
    → StandsInOrder bytes (record b { «open» = o }) (record t { parts = record t.parts { «open» = u } })
order-reopened bytes b t o u h =
    let parts = record t.parts { «open» = u } in
    let new = order-alike bytes b t parts
    (λ q. same-bytes t.parts parts q (ap given_bytes (given-reopened t.parts u q))) h in
    record { shape = new.shape; offset = new.offset }

-- a null ACL has no bytes, as one that is not given
pub null-order : (bytes : List ℕ) (b : Builder) (t : Draft) (u : DraftParts) (p : Part) → IsOneMore t.parts u p null
    → get_part p b.offsets ≡ None → StandsInOrder bytes b t
    → StandsInOrder bytes (placed p 0 b) (record t { parts = u })
null-order bytes b t u p more none h =
    let kept = λ (o : Option ℕ). unwrap_or o 0 in
    let empty = ap given_bytes more.is ∙ sym (ap given_bytes more.free) in
    let same = each-part (λ q. part_bytes u q ≡ part_bytes t.parts q) p (same-bytes t.parts u p empty)
    (λ q other. same-bytes t.parts u q (ap given_bytes (more.others q other))) in
    order-alike bytes (placed p 0 b) t u same (record {
      shape = h.shape;
      offset = each-part (λ q. unwrap_or (get_part q (placed p 0 b).offsets) 0 ≡ offset_of t q) p
          (ap kept (get-set p (Some 0) b.offsets) ∙ sym (ap kept none) ∙ h.offset p)
          (λ q other. ap kept (get-other p q (Some 0) b.offsets other) ∙ h.offset q);
    })
