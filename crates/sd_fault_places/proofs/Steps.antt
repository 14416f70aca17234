-- A step from a part, an ACE or a field to the next one.
use Rattle.std.proofs.Common.{◌≡◌, ◌≤◌, ℕ, zero, suc, ◌+◌, Bool, true, false, List, [], ◌∷◌, length, take, drop, refl}
use Rattle.std.proofs.Common.{ap, sym, ◌∙◌, arith}
use Rattle.std.specs.Prelude.{Option, Some, None, slice_index_or, IfSome, ◌&&◌, not, is_some, if◌then◌else◌}
use Rattle.std.proofs.lemmas.Bool.{and_parts}
use Rattle.std.proofs.lemmas.List.{length-drop, length-take-le}
use Rattle.sd_kinds.specs.declared.kinds.AceKind.{AceKind}
use Rattle.std.specs.Option.{option_map, option_or}
use Rattle.sd_parts.specs.Parts.{each_part, part_of, sid_part_of}
use Rattle.sd_parts.specs.declared.part.SidPart.{SidPart}
use Rattle.sd_parts.specs.declared.part.Which.{Which}
use Rattle.sd_parts.specs.declared.part.Part.{Part}
use Rattle.sd_sid.specs.Sid.{SecurityId}
use Rattle.sd_sddl_builder.specs.FoldedReading.{next_field}
use Rattle.sd_sddl_builder.specs.Line.{Piece, ace_cuts, cut_at_semicolons, has_aces, is_paired, is_shaped}
use Rattle.sd_sddl_builder.specs.Line.{pieces_from, sections_of, open_after}
use Rattle.sd_sddl_builder.specs.declared.fault.SddlFault.{SddlFault}
use Rattle.sd_sddl_builder.specs.declared.slot.AceField.{AceField}
use Rattle.sd_sddl_builder.specs.declared.slot.Head.{Head}
use Rattle.sd_sddl_builder.specs.declared.slot.Head.TheVariants as head
use Rattle.sd_sddl_builder.specs.declared.slot.Slot.TheVariants as slot
use Rattle.sd_sddl_builder.specs.declared.fault.SddlFault.TheVariants as fault
use Rattle.sd_fault_places.specs.declared.shape.Stand.{Stand}
use Rattle.sd_fault_places.specs.declared.shape.Stand.TheVariants as stand
use Rattle.sd_fault_places.specs.declared.place.FaultPlace.{FaultPlace}
use Rattle.sd_fault_places.specs.Fields.{PlacedAce, PlacedField, PlacedPart, ace_field, aces_from}
use Rattle.sd_fault_places.specs.Fields.{cuts_from, front_field, fields_in}
use Rattle.sd_fault_places.specs.Fields.{fields_in_aces, fields_in_body, parts_in, pieces_size, place, placed}
use Rattle.sd_fault_places.specs.SddlPlaces.{first_faulty, first_large, large_in, passing, place_at, place_in_parts}
use Rattle.sd_fault_places.specs.SddlPlaces.{second_head}
use Rattle.sd_fault_places.specs.SddlPlaces.{IsFirstFault, is_of_field, place_of_sddl_fault, place_of_shape}
use Rattle.sd_fault_places.specs.Inner.Cutting.{aces_at, before_byte, before_head, first_ace, front_head, head_in}
use Rattle.sd_fault_places.specs.Inner.Cutting.{parts_from}
use Rattle.sd_fault_places.proofs.Cuttings.{aces-first, aces_behind, cut-at, cuts_behind, first-cut, first-part}
use Rattle.sd_fault_places.proofs.Cuttings.{front-cut, has-first, other-cuts, paired-behind, pieces-sized, split-paired}
use Rattle.sd_fault_places.proofs.Faults.{first-append, first-fault}

-- 1. Parts.

head-within : (t : List ℕ) (inside : Bool) → before_head inside t ≤ length t
head-within [] inside = omega arith
head-within (b ∷ bs) inside = by_test (head-within bs (open_after inside b)) (not inside && is_some (head_in b bs))
  where
    by_test : before_head (open_after inside b) bs ≤ length bs → (x : Bool)
        → (if x then 0 else suc (before_head (open_after inside b) bs)) ≤ suc (length bs)
    by_test more true = omega arith
    by_test more false = omega (arith, more)

two-long : (rest : List ℕ) (p : Head) → front_head rest ≡ Some p → 2 ≤ length rest
two-long [] p e = absurd cc
two-long (b ∷ []) p e = absurd cc
two-long (b ∷ c ∷ u) p e = omega arith

-- a part of which k bytes are behind its colon, in the text after that
pub record PartStep (at : ℕ) (text : List ℕ) (p : Head) (after : List ℕ) (k : ℕ) : Type 0 where
  pub shape : parts_from at text
      ≡ record { head = p; at = at; body = (pieces_from false (take k after)).after }
      ∷ parts_from (at + (k + 2)) (drop k after)
  pub paired : is_paired false (drop k after) ≡ true
  pub sizes : k + 2 + length (drop k after) ≡ length text

step-of : (at : ℕ) (text : List ℕ) (p : Head) → front_head text ≡ Some p → is_paired false text ≡ true
    → PartStep at text p (drop 2 text) (before_head false (drop 2 text))
step-of at text p e paired =
    let k = before_head false (drop 2 text) in
    let low : k ≤ length (drop 2 text) = head-within (drop 2 text) false in
    let long : 2 ≤ length text = two-long text p e in
    let halves = and_parts (is_paired false (take k (drop 2 text))) (is_paired false (drop k (drop 2 text)))
    (sym (split-paired (drop 2 text) false) ∙ paired-behind text p e paired) in
    let body = (pieces_from false (take k (drop 2 text))).after in
    let size : pieces_size body ≡ k = pieces-sized (take k (drop 2 text)) halves.0
    ∙ length-take-le k (drop 2 text) low in
    record {
      shape = ap (placed at) (first-part text p e).shape
          ∙ ap (λ (n : ℕ). record { head = p; at = at; body = body }
          ∷ parts_from (at + (n + 2)) (drop k (drop 2 text))) size;
      paired = halves.1;
      sizes = omega (arith, low, long, length-drop k (drop 2 text), length-drop 2 text);
    }

pub part-step : (at : ℕ) (text : List ℕ) (p : Head) (after : List ℕ) (k : ℕ) → front_head text ≡ Some p
    → is_paired false text ≡ true → after ≡ drop 2 text → k ≡ before_head false after → PartStep at text p after k
part-step at text p after k e paired a b = rw (b, a) (step-of at text p e paired)

-- the parts of a text
pub text-parts : (text : List ℕ) (k : ℕ) → is_paired false text ≡ true → k ≡ before_head false text
    → (parts_in text ≡ parts_from k (drop k text)) × (is_paired false (drop k text) ≡ true)
    × (k + length (drop k text) ≡ length text)
text-parts text k paired same =
    let cut = cut-at text false in
    let low : before_head false text ≤ length text = head-within text false in
    let halves = and_parts (is_paired false (take (before_head false text) text)) (is_paired false (drop
    (before_head false text) text))
    (sym (split-paired text false) ∙ paired) in
    let size : pieces_size (pieces_from false (take (before_head false text) text)).after ≡ before_head false text =
    pieces-sized (take (before_head false text) text) halves.0 ∙ length-take-le (before_head false text) text low in
    rw same (
      ap (λ (ps : List Piece). placed (pieces_size ps) (sections_of text).parts) cut.1
          ∙ ap (λ (n : ℕ). placed n (sections_of text).parts) size
          ∙ ap (placed (before_head false text)) cut.2,
      halves.1,
      omega (arith, low, length-drop (before_head false text) text),
    )

-- 2. Fields.

-- the fields of an ACE from a text on, and those behind a semicolon
abbrev pub cuts_of : Part → ℕ → AceKind → ℕ → AceField → List ℕ → List PlacedField
cuts_of part number kind at f text =
    cuts_from part number kind at f (cut_at_semicolons text).first (cut_at_semicolons text).others

abbrev pub cuts_left : Part → ℕ → AceKind → ℕ → AceField → List ℕ → List PlacedField
cuts_left part number kind at f [] = []
cuts_left part number kind at f (b ∷ bs) = cuts_of part number kind at f bs

pub cuts-shape : (part : Part) (number : ℕ) (kind : AceKind) (at : ℕ) (f : AceField) (text : List ℕ) (k : ℕ)
    → k ≡ before_byte 59 text → cuts_of part number kind at f text
    ≡ ace_field part number kind at f (take k text)
    ∷ cuts_left part number kind (at + (length (take k text) + 1)) (next_field f) (drop k text)
cuts-shape part number kind at f text k same =
    rw (same, ← first-cut text, other-cuts text) (by_rest (drop (before_byte 59 text) text))
  where
    first : List ℕ
    first = (cut_at_semicolons text).first

    by_rest : (rest : List ℕ) → cuts_from part number kind at f first (cuts_behind rest)
        ≡ ace_field part number kind at f first
        ∷ cuts_left part number kind (at + (length first + 1)) (next_field f) rest
    by_rest [] = refl
    by_rest (b ∷ bs) = refl

-- the first cut, and the cuts from the next one on
pub cut-on : (text : List ℕ) (n : ℕ)
    → slice_index_or (ace_cuts text) (suc n) [] ≡ slice_index_or (ace_cuts (drop 1 (drop
    (before_byte 59 text) text))) n []
cut-on text n = ap (λ (l : List (List ℕ)). slice_index_or l n []) (other-cuts text) ∙ behind (drop
    (before_byte 59 text) text) n
  where
    behind : (t : List ℕ) (n : ℕ)
        → slice_index_or (cuts_behind t) n [] ≡ slice_index_or (ace_cuts (drop 1 t)) n []
    behind [] zero = refl
    behind [] (suc n) = refl
    behind (b ∷ bs) n = refl

-- 3. ACEs.

pub ace-shape : (n at : ℕ) (t : List ℕ) (before : ℕ) (text : List ℕ) → first_ace t ≡ Some (before, text)
    → aces_at n at t ≡ record { number = n; at = at + before; text = text }
    ∷ aces_at (n + 1) (at + (before + (length text + 2))) (drop (before + (length text + 2)) t)
ace-shape n at t before text first = aces-first t n at ∙ ap (aces_behind n at t) first

pub no-aces-from : (n at : ℕ) (t : List ℕ) → first_ace t ≡ None → aces_at n at t ≡ []
no-aces-from n at t e = aces-first t n at ∙ ap (aces_behind n at t) e

pub length-zero : (t : List ℕ) → length t ≡ 0 → t ≡ []
length-zero [] e = refl
length-zero (b ∷ bs) e = absurd (omega (arith, e))

-- 4. What stands in a part before its ACEs, and these.

abbrev before_aces : List ℕ → List ℕ
before_aces body = take (before_byte 40 body) body

pub sid-body : (domain : Option SecurityId) (at : ℕ) (body : List ℕ) (p : SidPart)
    → first_faulty domain (fields_in_body (head.Sid p) at (pieces_from false body).after)
    ≡ first_faulty domain (front_field (sid_part_of p) (slot.Sid p) at (before_aces body) ∷ [])
sid-body domain at body p =
    ap (λ (t : List ℕ). first_faulty domain (front_field (sid_part_of p) (slot.Sid p) at t ∷ []))
    (front-cut body)

module _ (domain : Option SecurityId) (at : ℕ) (body : List ℕ) (w : Which) where
  abbrev acl_front : List ℕ → Bool → PlacedField
  acl_front text has = front_field (part_of w) (slot.AclFlags w has) at text

  abbrev ace_fields : List PlacedField
  ace_fields = fields_in_aces (part_of w) (aces_from 0 at (pieces_from false body).after)

  pub acl-body : first_faulty domain (fields_in_body (head.Acl w) at (pieces_from false body).after)
      ≡ option_or (first_faulty domain (acl_front (before_aces body) (is_some (first_ace body)) ∷ []))
      (first_faulty domain ace_fields)
  acl-body =
      ap (λ (t : List ℕ). first_faulty domain (acl_front t (has_aces (pieces_from false body).after) ∷ ace_fields))
      (front-cut body)
      ∙ ap (λ (has : Bool). first_faulty domain (acl_front (before_aces body) has ∷ ace_fields)) (has-first body)
      ∙ first-append domain (acl_front (before_aces body) (is_some (first_ace body)) ∷ []) ace_fields

-- 5. The text.

pub at-reach : (s : Stand) (n size : ℕ) → (place_at s n size).range.offset ≡ n
at-reach stand.Before n size = refl
at-reach (stand.Sid p) n size = refl
at-reach (stand.Flags w) n size = refl
at-reach (stand.Behind w k) n size = refl
at-reach (stand.Ace w k f) n size = refl

pub unshaped : (b : Bool) (x p : FaultPlace) → Some p ≡ (if b then None else Some x) → (b ≡ false) × (p ≡ x)
unshaped true x p e = absurd cc
unshaped false x p e = (refl, cc)

pub well-shaped : (b : Bool) (x : FaultPlace) → None ≡ (if b then None else Some x) → b ≡ true
well-shaped true x e = refl
well-shaped false x e = absurd cc

pub told-unshaped : (text : List ℕ) (domain : Option SecurityId) → is_shaped text ≡ false
    → place_of_sddl_fault text domain ≡ Some (fault.Shape, place_of_shape text)
told-unshaped text domain e = ap
    (λ (b : Bool). if b then place_in_parts domain (parts_in text) else Some (fault.Shape, place_of_shape text)) e

pub told-shaped : (text : List ℕ) (domain : Option SecurityId) → is_shaped text ≡ true
    → place_of_sddl_fault text domain ≡ place_in_parts domain (parts_in text)
told-shaped text domain e = ap
    (λ (b : Bool). if b then place_in_parts domain (parts_in text) else Some (fault.Shape, place_of_shape text)) e

pub shape-none : (b : Bool) (x : FaultPlace) → b ≡ true → (if b then None else Some x) ≡ None
shape-none b x e = rw e refl

pub shape-some : (b : Bool) (x : FaultPlace) → b ≡ false → (if b then None else Some x) ≡ Some x
shape-some b x e = rw e refl

-- 6. The first field with a fault.

module _ (domain : Option SecurityId) (fields : List PlacedField) where
  abbrev AtFirst : SddlFault × FaultPlace → Type 0
  AtFirst r = is_of_field r.0 ≡ true → IsFirstFault domain fields r.0 r.1

  large-is-last : (ps : List PlacedPart) → IfSome (first_large domain ps) AtFirst
  large-is-last [] = tt
  large-is-last (p ∷ ps) = by_head p.head (large-is-last ps)
    where
      by_head : (h : Head) → IfSome (first_large domain ps) AtFirst
          → IfSome (option_or (large_in domain (p.at + 2) p.body h) (first_large domain ps)) AtFirst
      by_head (head.Sid s) more = more
      by_head (head.Acl w) more = by_ace (passing domain 8 (aces_from 0 (p.at + 2) p.body))
        where
          by_ace : (o : Option PlacedAce)
              → IfSome (option_or (option_map (λ a. (
                fault.AclTooLarge w,
                place (Some (part_of w)) (Some a.number) None a.at (length a.text + 2),
              )) o) (first_large domain ps)) AtFirst
          by_ace None = more
          by_ace (Some a) = λ e. absurd cc

  faulty-is-first : (ps : List PlacedPart) (o : Option (SddlFault × FaultPlace)) → first_faulty domain fields ≡ o
      → IfSome (option_or o (first_large domain ps)) AtFirst
  faulty-is-first ps None e = large-is-last ps
  faulty-is-first ps (Some r) e = λ h. first-fault domain fields r.0 r.1 e

pub told-first : (domain : Option SecurityId) (parts : List PlacedPart)
    → IfSome (place_in_parts domain parts) (λ r. is_of_field r.0 ≡ true → IsFirstFault domain (fields_in parts) r.0 r.1)
told-first domain parts = by_second (second_head (each_part false) parts)
  where
    by_second : (o : Option FaultPlace)
        → IfSome (option_or (option_map (λ p. (fault.PartTwice, p)) o)
        (option_or (first_faulty domain (fields_in parts)) (first_large domain parts)))
        (λ r. is_of_field r.0 ≡ true → IsFirstFault domain (fields_in parts) r.0 r.1)
    by_second (Some p) = λ e. absurd cc
    by_second None = faulty-is-first domain (fields_in parts) parts (first_faulty domain (fields_in parts)) refl
