-- A line of parts has its shape, and its fields are the texts of the parts.
use Rattle.std.proofs.Common.{◌≡◌, ℕ, Bool, true, false, ◌&&◌, List, [], ◌∷◌, ◌++◌, map, Option, Some, None, refl, ap}
use Rattle.std.proofs.Common.{◌∙◌}
use Rattle.std.specs.List.{AllByRecursion, flat_map, list_all}
use Rattle.std.proofs.lemmas.Bool.{and_parts}
use Rattle.sd_parts.specs.declared.part.Which.TheVariants as which
use Rattle.sd_sddl_builder.specs.declared.slot.Head.{Head}
use Rattle.sd_sddl_builder.specs.declared.slot.Head.TheVariants as head
use Rattle.sd_parts.specs.declared.part.SidPart.TheVariants as sid_part
use Rattle.sd_sddl_builder.specs.declared.slot.Slot.TheVariants as slot
use Rattle.sd_sddl_builder.specs.FoldedReading.{Field, ace_fields, fields_in, fields_of}
use Rattle.sd_sddl_builder.specs.Line.{Sections, ace, aces, are_aces, are_shaped, byte, front, has_aces, has_twice}
use Rattle.sd_sddl_builder.specs.Line.{is_acl_body, is_blank_piece, is_body, is_shaped, is_sid_body, sections_of, trim}
use Rattle.sd_sddl_builder.specs.Line.{trim_end}
use Rattle.sd_sddl_printer.proofs.LineCuts.{Body, IsInner, IsPart, MayHold, Part, body_pieces, line-paired, line-parts}
use Rattle.sd_sddl_printer.proofs.LineCuts.{printed_part, section_of}
use Rattle.sd_sddl_printer.proofs.PlainTexts.{IsPlain, is_plain_byte, no_mark}

-- 1. Shape.

sid_body : (text : List ℕ) → IsPlain text → is_sid_body (map byte text ++ []) ≡ true
sid_body [] h = refl
sid_body (b ∷ bs) h = let parts = and_parts (is_plain_byte b) _ h in rw (no_mark b parts.0).colon (sid_body bs parts.1)

inners-shaped : (inners : List (List ℕ)) → AllByRecursion IsInner inners → are_aces (map ace inners) ≡ true
inners-shaped [] h = refl
inners-shaped (i ∷ is) h = rw (h.0.six) (inners-shaped is h.1)

acl_body : (text : List ℕ) (inners : List (List ℕ)) → IsPlain text → AllByRecursion IsInner inners
    → is_acl_body (map byte text ++ map ace inners) ≡ true
acl_body [] [] h k = refl
acl_body [] (i ∷ is) h k = inners-shaped (i ∷ is) k
acl_body (b ∷ bs) inners h k = let parts = and_parts (is_plain_byte b) _ h in rw (no_mark b parts.0).colon
    (acl_body bs inners parts.1 k)

body-shaped : (h : Head) (b : Body) → IsPlain b.text → AllByRecursion IsInner b.inners → MayHold h b.inners
    → is_body h (body_pieces b) ≡ true
body-shaped (head.Sid p) b h k m = ap (λ (is : List (List ℕ)). is_sid_body (map byte b.text ++ map ace is)) m
    ∙ sid_body b.text h
body-shaped (head.Acl w) b h k m = acl_body b.text b.inners h k

parts-shaped : (ps : List Part) → AllByRecursion IsPart ps → are_shaped (map section_of ps) ≡ true
parts-shaped [] h = refl
parts-shaped (p ∷ ps) h = rw (body-shaped p.head p.body h.0.plain h.0.inners h.0.may_hold, parts-shaped ps h.1) refl

pub line-shaped : (ps : List Part) → AllByRecursion IsPart ps → is_shaped (flat_map printed_part ps) ≡ true
line-shaped ps h =
    ap (λ (b : Bool). b && (list_all is_blank_piece (sections_of (flat_map printed_part ps)).before && are_shaped
    (sections_of (flat_map printed_part ps)).parts)) (line-paired ps h)
    ∙ ap (λ (s : Sections). list_all is_blank_piece s.before && are_shaped s.parts) (line-parts ps h)
    ∙ parts-shaped ps h

-- 2. Heads that stand once.

-- a part that may stand
abbrev pub listed_parts : Head → Option Body → List Part
listed_parts h None = []
listed_parts h (Some b) = record { head = h; body = b } ∷ []

-- owner, group, DACL and SACL
abbrev pub four_parts : Option Body → Option Body → Option Body → Option Body → List Part
four_parts owner group dacl sacl =
    (listed_parts (head.Sid sid_part.Owner) owner ++ listed_parts (head.Sid sid_part.Group) group)
    ++ (listed_parts (head.Acl which.Dacl) dacl ++ listed_parts (head.Acl which.Sacl) sacl)

pub never_twice : (o g d s : Option Body) → has_twice (map section_of (four_parts o g d s)) ≡ false
never_twice None None None None = refl
never_twice None None None (Some s) = refl
never_twice None None (Some d) None = refl
never_twice None None (Some d) (Some s) = refl
never_twice None (Some g) None None = refl
never_twice None (Some g) None (Some s) = refl
never_twice None (Some g) (Some d) None = refl
never_twice None (Some g) (Some d) (Some s) = refl
never_twice (Some o) None None None = refl
never_twice (Some o) None None (Some s) = refl
never_twice (Some o) None (Some d) None = refl
never_twice (Some o) None (Some d) (Some s) = refl
never_twice (Some o) (Some g) None None = refl
never_twice (Some o) (Some g) None (Some s) = refl
never_twice (Some o) (Some g) (Some d) None = refl
never_twice (Some o) (Some g) (Some d) (Some s) = refl

-- 3. Fields.

trim_end-plain : (text : List ℕ) → IsPlain text → trim_end text ≡ text
trim_end-plain [] h = refl
trim_end-plain (b ∷ bs) h =
    let parts = and_parts (is_plain_byte b) _ h in
    rw (no_mark b parts.0).blank (ap (λ (t : List ℕ). b ∷ t) (trim_end-plain bs parts.1))

trim-plain : (text : List ℕ) → IsPlain text → trim text ≡ text
trim-plain [] h = refl
trim-plain (b ∷ bs) h =
    let parts = and_parts (is_plain_byte b) _ h in
    rw (no_mark b parts.0).blank (ap (λ (t : List ℕ). b ∷ t) (trim_end-plain bs parts.1))

body-front : (text : List ℕ) (inners : List (List ℕ)) → front (map byte text ++ map ace inners) ≡ text
body-front [] [] = refl
body-front [] (i ∷ is) = refl
body-front (b ∷ bs) inners = ap (λ (t : List ℕ). b ∷ t) (body-front bs inners)

inners-aces : (inners : List (List ℕ)) → aces (map ace inners) ≡ inners
inners-aces [] = refl
inners-aces (i ∷ is) = ap (λ (x : List (List ℕ)). i ∷ x) (inners-aces is)

body-aces : (text : List ℕ) (inners : List (List ℕ)) → aces (map byte text ++ map ace inners) ≡ inners
body-aces [] inners = inners-aces inners
body-aces (b ∷ bs) inners = body-aces bs inners

-- no parentheses at all
pub text-no_aces : (text : List ℕ) → has_aces (map byte text ++ []) ≡ false
text-no_aces [] = refl
text-no_aces (b ∷ bs) = text-no_aces bs

-- the fields of a part
abbrev pub fields_under : Head → Body → List Field
fields_under (head.Sid p) b = record { slot = slot.Sid p; text = b.text } ∷ []
fields_under (head.Acl w) b = record { slot = slot.AclFlags w (has_aces (body_pieces b)); text = b.text } ∷ flat_map
    ace_fields b.inners

abbrev pub part_fields : Part → List Field
part_fields p = fields_under p.head p.body

part-fields : (h : Head) (b : Body) → IsPlain b.text → fields_in h (body_pieces b) ≡ fields_under h b
part-fields (head.Sid p) b h = rw (body-front b.text b.inners, trim-plain b.text h) refl
part-fields (head.Acl w) b h = rw (body-front b.text b.inners, trim-plain b.text h, body-aces b.text b.inners) refl

parts-fields : (ps : List Part) → AllByRecursion IsPart ps → fields_of (map section_of ps) ≡ flat_map part_fields ps
parts-fields [] h = refl
parts-fields (p ∷ ps) h = rw (part-fields p.head p.body h.0.plain, parts-fields ps h.1) refl

pub line-fields : (ps : List Part) → AllByRecursion IsPart ps
    → fields_of (sections_of (flat_map printed_part ps)).parts ≡ flat_map part_fields ps
line-fields ps h = ap (λ (s : Sections). fields_of s.parts) (line-parts ps h) ∙ parts-fields ps h
