-- A line of parts, cut into its pieces and sections.
use Rattle.std.proofs.Common.{◌≡◌, ℕ, Bool, true, false, ◌||◌, List, [], ◌∷◌, ◌++◌, map, Some, refl, ap, sym, ◌∙◌}
use Rattle.std.proofs.Common.{append-nil, append_assoc, eqb-true}
use Rattle.std.specs.Prelude.{◌==◌}
use Rattle.std.specs.List.{AllByRecursion, flat_map, list_all}
use Rattle.std.proofs.lemmas.Bool.{and_parts}
use Rattle.sd_parts.specs.declared.part.Which.TheVariants as which
use Rattle.sd_sddl_builder.specs.declared.slot.Head.{Head}
use Rattle.sd_sddl_builder.specs.declared.slot.Head.TheVariants as head
use Rattle.sd_parts.specs.declared.part.SidPart.TheVariants as sid_part
use Rattle.sd_sddl_builder.specs.Line.{Piece, LinePieces, Section, Sections, ace, begins_with_colon, byte}
use Rattle.sd_sddl_builder.specs.Line.{has_six_fields, head_of, is_paired, sections_of, pieces_from, sections}
use Rattle.sd_sddl_printer.proofs.PlainTexts.{IsPlain, is_plain_byte, no_mark}

-- 1. The parts of a line as they are printed.

-- what stands after a head: a text, and what the pairs of parentheses after it hold
pub record Body : Type 0 where
  pub text : List ℕ
  pub inners : List (List ℕ)

pub record Part : Type 0 where
  pub head : Head
  pub body : Body

abbrev pub letter_of : Head → ℕ
letter_of (head.Sid sid_part.Owner) = 79
letter_of (head.Sid sid_part.Group) = 71
letter_of (head.Acl which.Dacl) = 68
letter_of (head.Acl which.Sacl) = 83

abbrev pub in_parentheses : List ℕ → List ℕ
in_parentheses inner = 40 ∷ inner ++ 41 ∷ []

abbrev pub body_text : Body → List ℕ
body_text b = b.text ++ flat_map in_parentheses b.inners

abbrev pub printed_part : Part → List ℕ
printed_part p = letter_of p.head ∷ 58 ∷ body_text p.body

-- plain bytes and semicolons
abbrev pub is_inner_byte : ℕ → Bool
is_inner_byte b = is_plain_byte b || b == 59

pub record IsInner (inner : List ℕ) : Type 0 where
  pub bytes : list_all is_inner_byte inner ≡ true
  pub six : has_six_fields inner ≡ true

-- parentheses stand in ACLs alone
abbrev pub MayHold : Head → List (List ℕ) → Type 0
MayHold (head.Sid p) inners = inners ≡ []
MayHold (head.Acl w) inners = Unit {0}

pub record IsPart (p : Part) : Type 0 where
  pub plain : IsPlain p.body.text
  pub inners : AllByRecursion IsInner p.body.inners
  pub may_hold : MayHold p.head p.body.inners

-- 2. Pieces.

-- a text that stands outside parentheses and closes those that it opens
pub record IsCutInto (text : List ℕ) (ps : List Piece) : Type 0 where
  pub pieces : (rest : List ℕ) → (pieces_from false (text ++ rest)).after ≡ ps ++ (pieces_from false rest).after
  pub paired : (rest : List ℕ) → is_paired false (text ++ rest) ≡ is_paired false rest

nothing-cut : IsCutInto [] []
nothing-cut = record { pieces = λ rest. refl; paired = λ rest. refl }

cut-append : (t u : List ℕ) (ps qs : List Piece) → IsCutInto t ps → IsCutInto u qs → IsCutInto (t ++ u) (ps ++ qs)
cut-append t u ps qs h k = record {
  pieces = λ rest.
      ap (λ (x : List ℕ). (pieces_from false x).after) (append_assoc t u rest) ∙ h.pieces (u ++ rest)
      ∙ ap (λ (x : List Piece). ps ++ x) (k.pieces rest) ∙ sym (append_assoc ps qs (pieces_from false rest).after);
  paired = λ rest. ap (is_paired false) (append_assoc t u rest) ∙ h.paired (u ++ rest) ∙ k.paired rest;
}

byte-cut : (b : ℕ) → is_plain_byte b ≡ true → IsCutInto (b ∷ []) (byte b ∷ [])
byte-cut b h =
    let mark = no_mark b h in
    record { pieces = λ rest. rw (mark.opening) refl; paired = λ rest. rw (mark.opening, mark.closing) refl }

text-cut : (text : List ℕ) → IsPlain text → IsCutInto text (map byte text)
text-cut [] h = nothing-cut
text-cut (b ∷ bs) h =
    let parts = and_parts (is_plain_byte b) _ h in
    cut-append (b ∷ []) bs (byte b ∷ []) (map byte bs) (byte-cut b parts.0) (text-cut bs parts.1)

-- within parentheses
record IsNoParenthesis (b : ℕ) : Type 0 where
  opening : (b == 40) ≡ false
  closing : (b == 41) ≡ false

no_parenthesis : (b : ℕ) → is_inner_byte b ≡ true → IsNoParenthesis b
no_parenthesis b h = by_kind (is_plain_byte b) (b == 59) refl refl h
  where
    by_kind : (p s : Bool) → is_plain_byte b ≡ p → (b == 59) ≡ s → (p || s) ≡ true → IsNoParenthesis b
    by_kind true s e f g = record { opening = (no_mark b e).opening; closing = (no_mark b e).closing }
    by_kind false true e f g = let same : b ≡ 59 = eqb-true b 59 f in rw same
        (record { opening = refl; closing = refl })
    by_kind false false e f g = absurd cc

inner-pieces : (inner rest : List ℕ) → list_all is_inner_byte inner ≡ true
    → pieces_from true (inner ++ 41 ∷ rest) ≡ record { held = inner; after = (pieces_from false rest).after }
inner-pieces [] rest h = refl
inner-pieces (b ∷ bs) rest h =
    let parts = and_parts (is_inner_byte b) _ h in
    rw ((no_parenthesis b parts.0).closing, inner-pieces bs rest parts.1) refl

inner-paired : (inner rest : List ℕ) → list_all is_inner_byte inner ≡ true
    → is_paired true (inner ++ 41 ∷ rest) ≡ is_paired false rest
inner-paired [] rest h = refl
inner-paired (b ∷ bs) rest h =
    let parts = and_parts (is_inner_byte b) _ h in
    let mark = no_parenthesis b parts.0 in
    rw (mark.opening, mark.closing) (inner-paired bs rest parts.1)

inner-cut : (inner : List ℕ) → IsInner inner → IsCutInto (in_parentheses inner) (ace inner ∷ [])
inner-cut inner h = record {
  pieces = λ rest.
      ap (λ (x : List ℕ). (pieces_from false (40 ∷ x)).after) (append_assoc inner (41 ∷ []) rest)
      ∙ ap (λ (p : LinePieces). ace p.held ∷ p.after) (inner-pieces inner rest h.bytes);
  paired = λ rest. ap (is_paired true) (append_assoc inner (41 ∷ []) rest) ∙ inner-paired inner rest h.bytes;
}

inners-cut : (inners : List (List ℕ)) → AllByRecursion IsInner inners
    → IsCutInto (flat_map in_parentheses inners) (map ace inners)
inners-cut [] h = nothing-cut
inners-cut (i ∷ is) h = cut-append (in_parentheses i) (flat_map in_parentheses is) (ace i ∷ []) (map ace is)
    (inner-cut i h.0) (inners-cut is h.1)

abbrev pub body_pieces : Body → List Piece
body_pieces b = map byte b.text ++ map ace b.inners

abbrev part_pieces : Part → List Piece
part_pieces p = byte (letter_of p.head) ∷ byte 58 ∷ body_pieces p.body

head-cut : (h : Head) → IsCutInto (letter_of h ∷ 58 ∷ []) (byte (letter_of h) ∷ byte 58 ∷ [])
head-cut (head.Sid sid_part.Owner) = record { pieces = λ rest. refl; paired = λ rest. refl }
head-cut (head.Sid sid_part.Group) = record { pieces = λ rest. refl; paired = λ rest. refl }
head-cut (head.Acl which.Dacl) = record { pieces = λ rest. refl; paired = λ rest. refl }
head-cut (head.Acl which.Sacl) = record { pieces = λ rest. refl; paired = λ rest. refl }

part-cut : (p : Part) → IsPart p → IsCutInto (printed_part p) (part_pieces p)
part-cut p h =
    let text = p.body.text in
    let inners = p.body.inners in
    let body = cut-append text (flat_map in_parentheses inners) (map byte text) (map ace inners)
    (text-cut text h.plain) (inners-cut inners h.inners) in
    cut-append (letter_of p.head ∷ 58 ∷ []) (body_text p.body) (byte (letter_of p.head) ∷ byte 58 ∷ [])
    (body_pieces p.body) (head-cut p.head) body

line-cut : (ps : List Part) → AllByRecursion IsPart ps → IsCutInto (flat_map printed_part ps) (flat_map part_pieces ps)
line-cut [] h = nothing-cut
line-cut (p ∷ ps) h = cut-append (printed_part p) (flat_map printed_part ps) (part_pieces p) (flat_map part_pieces ps)
    (part-cut p h.0) (line-cut ps h.1)

line-pieces : (ps : List Part) → AllByRecursion IsPart ps
    → (pieces_from false (flat_map printed_part ps)).after ≡ flat_map part_pieces ps
line-pieces ps h =
    ap (λ (x : List ℕ). (pieces_from false x).after) (sym (append-nil (flat_map printed_part ps)))
    ∙ (line-cut ps h).pieces [] ∙ append-nil (flat_map part_pieces ps)

pub line-paired : (ps : List Part) → AllByRecursion IsPart ps → is_paired false (flat_map printed_part ps) ≡ true
line-paired ps h = ap (is_paired false) (sym (append-nil (flat_map printed_part ps))) ∙ (line-cut ps h).paired []

-- 3. Sections.

text-colon : (text : List ℕ) (ps : List Piece) → IsPlain text → begins_with_colon ps ≡ false
    → begins_with_colon (map byte text ++ ps) ≡ false
text-colon [] ps h e = e
text-colon (b ∷ bs) ps h e = (no_mark b (and_parts (is_plain_byte b) _ h).0).colon

aces-colon : (inners : List (List ℕ)) (ps : List Piece) → begins_with_colon ps ≡ false
    → begins_with_colon (map ace inners ++ ps) ≡ false
aces-colon [] ps e = e
aces-colon (i ∷ is) ps e = refl

abbrev after_pieces : List Piece → Sections → Sections
after_pieces ps s = record { before = ps ++ s.before; parts = s.parts }

text-sections : (text : List ℕ) (ps : List Piece) → IsPlain text → begins_with_colon ps ≡ false
    → sections (map byte text ++ ps) ≡ after_pieces (map byte text) (sections ps)
text-sections [] ps h e = refl
text-sections (b ∷ bs) ps h e =
    let parts = and_parts (is_plain_byte b) _ h in
    rw (text-colon bs ps parts.1 e, text-sections bs ps parts.1 e) refl

aces-sections : (inners : List (List ℕ)) (ps : List Piece)
    → sections (map ace inners ++ ps) ≡ after_pieces (map ace inners) (sections ps)
aces-sections [] ps = refl
aces-sections (i ∷ is) ps = rw (aces-sections is ps) refl

body-colon : (b : Body) (ps : List Piece) → IsPlain b.text → begins_with_colon ps ≡ false
    → begins_with_colon (body_pieces b ++ ps) ≡ false
body-colon b ps h e =
    ap begins_with_colon (append_assoc (map byte b.text) (map ace b.inners) ps)
    ∙ text-colon b.text (map ace b.inners ++ ps) h (aces-colon b.inners ps e)

body-sections : (b : Body) (ps : List Piece) → IsPlain b.text → begins_with_colon ps ≡ false
    → sections (body_pieces b ++ ps) ≡ after_pieces (body_pieces b) (sections ps)
body-sections b ps h e =
    ap sections (append_assoc (map byte b.text) (map ace b.inners) ps)
    ∙ text-sections b.text (map ace b.inners ++ ps) h (aces-colon b.inners ps e)
    ∙ ap (after_pieces (map byte b.text)) (aces-sections b.inners ps)
    ∙ ap (λ (x : List Piece). record { before = x; parts = (sections ps).parts })
    (sym (append_assoc (map byte b.text) (map ace b.inners) (sections ps).before))

abbrev pub section_of : Part → Section
section_of p = record { head = p.head; body = body_pieces p.body }

letter-head : (h : Head) → head_of (letter_of h) ≡ Some h
letter-head (head.Sid sid_part.Owner) = refl
letter-head (head.Sid sid_part.Group) = refl
letter-head (head.Acl which.Dacl) = refl
letter-head (head.Acl which.Sacl) = refl

letter-colon : (h : Head) → (letter_of h == 58) ≡ false
letter-colon (head.Sid sid_part.Owner) = refl
letter-colon (head.Sid sid_part.Group) = refl
letter-colon (head.Acl which.Dacl) = refl
letter-colon (head.Acl which.Sacl) = refl

headed : (h : Head) (ps : List Piece) → begins_with_colon ps ≡ false
    → sections (byte (letter_of h) ∷ byte 58 ∷ ps) ≡ record {
      before = [];
      parts = record { head = h; body = (sections ps).before } ∷ (sections ps).parts;
    }
headed h ps e = rw (letter-head h, e) refl

line-colon : (ps : List Part) → begins_with_colon (flat_map part_pieces ps) ≡ false
line-colon [] = refl
line-colon (p ∷ ps) = letter-colon p.head

line-sections : (ps : List Part) → AllByRecursion IsPart ps
    → sections (flat_map part_pieces ps) ≡ record { before = []; parts = map section_of ps }
line-sections [] h = refl
line-sections (p ∷ ps) h =
    let rest = flat_map part_pieces ps in
    let after = body-sections p.body rest h.0.plain (line-colon ps)
    ∙ ap (after_pieces (body_pieces p.body)) (line-sections ps h.1) in
    headed p.head (body_pieces p.body ++ rest) (body-colon p.body rest h.0.plain (line-colon ps))
    ∙ ap (λ (s : Sections). record { before = []; parts = record { head = p.head; body = s.before } ∷ s.parts }) after
    ∙ ap (λ (x : List Piece). record { before = []; parts = record { head = p.head; body = x } ∷ map section_of ps })
    (append-nil (body_pieces p.body))

pub line-parts : (ps : List Part) → AllByRecursion IsPart ps
    → sections_of (flat_map printed_part ps) ≡ record { before = []; parts = map section_of ps }
line-parts ps h = ap sections (line-pieces ps h) ∙ line-sections ps h
