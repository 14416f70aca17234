-- A line of SDDL as a whole (MS-DTYP 2.5.1): its parentheses, its heads, and the texts of its fields. The
-- parts may stand in any order, with blanks around them.
use Rattle.std.specs.Prelude.{ℕ, Bool, true, false, ◌&&◌, ◌||◌, not, ◌==◌, if◌then◌else◌, List, [], ◌∷◌, length, drop}
use Rattle.std.specs.Prelude.{Option, Some, None}
use Rattle.std.specs.List.{list_all}
use Rattle.std.specs.Str.{byte as char}
use Rattle.sd_text.specs.Cuts.{Cuts, all_cuts, cut_at}
use Rattle.sd_parts.specs.declared.part.Which.TheVariants as which
use Rattle.sd_parts.specs.Parts.{get_part, part_of, same_part, sid_part_of}
use Rattle.sd_parts.specs.declared.part.Part.{Part}
use Rattle.sd_parts.specs.declared.part.Parts.{Parts}
use Rattle.sd_sddl_fields.specs.FieldTexts.{is_blank}
use Rattle.sd_parts.specs.declared.part.SidPart.TheVariants as sid_part
use Rattle.sd_sddl_builder.specs.declared.slot.Head.{Head}
use Rattle.sd_sddl_builder.specs.declared.slot.Head.TheVariants as head

-- 1. Parentheses.

-- whether a parenthesis is open after a byte
abbrev pub open_after : Bool → ℕ → Bool
open_after inside b = if inside then not (b == char ")") else b == char "("

-- a parenthesis opens only where none is open, and closes only where one is
abbrev pub fits_in : Bool → ℕ → Bool
fits_in inside b = if b == char "(" then not inside else (if b == char ")" then inside else true)

-- each parenthesis closes before the next one opens, and none is left open
abbrev pub is_paired : Bool → List ℕ → Bool
is_paired inside [] = not inside
is_paired inside (b ∷ bs) = fits_in inside b && is_paired (open_after inside b) bs

-- a byte outside parentheses, or what a pair of parentheses holds
pub data Piece : Type 0 where
  byte : ℕ → Piece
  ace : List ℕ → Piece

-- a text from a place in it on: what the open parenthesis still holds, and the pieces after it
pub record LinePieces : Type 0 where
  pub held : List ℕ
  pub after : List Piece

-- a byte goes onto what follows it; `inside` says whether a parenthesis is open before it
abbrev pub with_line_byte : Bool → ℕ → LinePieces → LinePieces
with_line_byte true b p =
    if b == char ")" then record { held = []; after = p.after } else record { held = b ∷ p.held; after = p.after }
with_line_byte false b p =
    if b == char "(" then record { held = []; after = ace p.held ∷ p.after }
    else record { held = []; after = byte b ∷ p.after }

-- what a text is cut into, if its parentheses are paired
abbrev pub pieces_from : Bool → List ℕ → LinePieces
pieces_from inside [] = record { held = []; after = [] }
pieces_from inside (b ∷ bs) = with_line_byte inside b (pieces_from (open_after inside b) bs)

-- 2. Heads.

-- what a letter announces, in either case
abbrev pub head_of : ℕ → Option Head
head_of b =
    if b == char "O" || b == char "o" then Some (head.Sid sid_part.Owner)
    else (if b == char "G" || b == char "g" then Some (head.Sid sid_part.Group)
    else (if b == char "D" || b == char "d" then Some (head.Acl which.Dacl)
    else (if b == char "S" || b == char "s" then Some (head.Acl which.Sacl) else None)))

abbrev pub is_colon : Piece → Bool
is_colon (byte b) = b == char ":"
is_colon (ace a) = false

abbrev pub begins_with_colon : List Piece → Bool
begins_with_colon [] = false
begins_with_colon (p ∷ ps) = is_colon p

-- one of the four letters makes a head with a colon directly after it
abbrev pub head_at : Piece → List Piece → Option Head
head_at (byte b) ps = if begins_with_colon ps then head_of b else None
head_at (ace a) ps = None

-- a part of the line: its head, and the pieces up to the next head
pub record Section : Type 0 where
  pub head : Head
  pub body : List Piece

-- a line in its parts, with what stands before the first head
pub record Sections : Type 0 where
  pub before : List Piece
  pub parts : List Section

-- what follows a head begins with its colon, which is no part of the body
abbrev pub with_piece : Option Head → Piece → Sections → Sections
with_piece None p s = record { before = p ∷ s.before; parts = s.parts }
with_piece (Some h) p s = record { before = []; parts = record { head = h; body = drop 1 s.before } ∷ s.parts }

abbrev pub sections : List Piece → Sections
sections [] = record { before = []; parts = [] }
sections (p ∷ ps) = with_piece (head_at p ps) p (sections ps)

abbrev pub sections_of : List ℕ → Sections
sections_of text = sections (pieces_from false text).after

-- 3. Fields.

abbrev pub cut_at_semicolons : List ℕ → Cuts
cut_at_semicolons text = cut_at (char ";") text

-- the bytes before the first parenthesis
abbrev pub front : List Piece → List ℕ
front [] = []
front (byte b ∷ ps) = b ∷ front ps
front (ace a ∷ ps) = []

-- what the pairs of parentheses hold
abbrev pub aces : List Piece → List (List ℕ)
aces [] = []
aces (byte b ∷ ps) = aces ps
aces (ace a ∷ ps) = a ∷ aces ps

abbrev pub has_aces : List Piece → Bool
has_aces [] = false
has_aces (byte b ∷ ps) = has_aces ps
has_aces (ace a ∷ ps) = true

-- a text without the blanks at its ends
abbrev pub trim_end : List ℕ → List ℕ
trim_end [] = []
trim_end (b ∷ bs) = if list_all is_blank (b ∷ bs) then [] else b ∷ trim_end bs

abbrev pub trim : List ℕ → List ℕ
trim [] = []
trim (b ∷ bs) = if is_blank b then trim bs else trim_end (b ∷ bs)

-- the text of an ACE cut at its semicolons
abbrev pub ace_cuts : List ℕ → List (List ℕ)
ace_cuts a = all_cuts (cut_at_semicolons a)

-- 4. Shape. A colon outside parentheses that makes no head stays in a body or before the first head, and no shape takes
-- it.

abbrev pub is_blank_piece : Piece → Bool
is_blank_piece (byte b) = is_blank b
is_blank_piece (ace a) = false

-- no parenthesis and no colon
abbrev pub is_sid_body : List Piece → Bool
is_sid_body [] = true
is_sid_body (byte b ∷ ps) = not (b == char ":") && is_sid_body ps
is_sid_body (ace a ∷ ps) = false

abbrev pub has_six_fields : List ℕ → Bool
has_six_fields a = length (cut_at_semicolons a).others == 5

-- ACEs and blanks
abbrev pub are_aces : List Piece → Bool
are_aces [] = true
are_aces (byte b ∷ ps) = is_blank b && are_aces ps
are_aces (ace a ∷ ps) = has_six_fields a && are_aces ps

-- no colon before the first parenthesis, and from there on ACEs and blanks
abbrev pub is_acl_body : List Piece → Bool
is_acl_body [] = true
is_acl_body (byte b ∷ ps) = not (b == char ":") && is_acl_body ps
is_acl_body (ace a ∷ ps) = are_aces (ace a ∷ ps)

abbrev pub is_body : Head → List Piece → Bool
is_body (head.Sid p) ps = is_sid_body ps
is_body (head.Acl w) ps = is_acl_body ps

abbrev pub are_shaped : List Section → Bool
are_shaped [] = true
are_shaped (s ∷ ss) = is_body s.head s.body && are_shaped ss

-- pairs of parentheses, nothing but blanks before the first head, and each part in its shape
abbrev pub is_shaped : List ℕ → Bool
is_shaped text =
    is_paired false text && (list_all is_blank_piece (sections_of text).before && are_shaped (sections_of text).parts)

-- 5. Two heads with one letter.

abbrev pub part_of_head : Head → Part
part_of_head (head.Sid p) = sid_part_of p
part_of_head (head.Acl w) = part_of w

abbrev pub same_head : Head → Head → Bool
same_head h k = same_part (part_of_head h) (part_of_head k)

abbrev pub has_head : Head → List Section → Bool
has_head h [] = false
has_head h (s ∷ ss) = same_head h s.head || has_head h ss

abbrev pub has_twice : List Section → Bool
has_twice [] = false
has_twice (s ∷ ss) = has_head s.head ss || has_twice ss

-- whether one of these sections has a letter that was there before them
abbrev pub has_seen : Parts Bool → List Section → Bool
has_seen seen [] = false
has_seen seen (s ∷ ss) = get_part (part_of_head s.head) seen || has_seen seen ss
