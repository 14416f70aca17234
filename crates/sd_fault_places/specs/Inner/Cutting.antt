-- How far something goes at the front of a text.
use Rattle.std.specs.Prelude.{ℕ, suc, ◌&&◌, not, ◌==◌, Bool, false, if◌then◌else◌, List, [], ◌∷◌, take, drop}
use Rattle.std.specs.Prelude.{Option, Some, None, is_some}
use Rattle.std.specs.Str.{byte as char}
use Rattle.sd_sddl_fields.specs.FieldTexts.{is_blank}
use Rattle.sd_sddl_builder.specs.Line.{Section, head_of, open_after, pieces_from, sections_of}
use Rattle.sd_sddl_builder.specs.declared.slot.Head.{Head}
use Rattle.sd_fault_places.specs.Fields.{PlacedAce, PlacedPart, aces_from, placed}

-- the bytes before the first such byte
abbrev pub before_byte : ℕ → List ℕ → ℕ
before_byte mark [] = 0
before_byte mark (b ∷ bs) = if b == mark then 0 else suc (before_byte mark bs)

abbrev pub starts_with_colon : List ℕ → Bool
starts_with_colon [] = false
starts_with_colon (b ∷ bs) = b == char ":"

-- the head of a letter and what follows it, outside parentheses
abbrev pub head_in : ℕ → List ℕ → Option Head
head_in b bs = if starts_with_colon bs then head_of b else None

abbrev pub front_head : List ℕ → Option Head
front_head [] = None
front_head (b ∷ bs) = head_in b bs

-- the bytes before the first head
abbrev pub before_head : Bool → List ℕ → ℕ
before_head inside [] = 0
before_head inside (b ∷ bs) =
    if not inside && is_some (head_in b bs) then 0 else suc (before_head (open_after inside b) bs)

abbrev pub section_at : List ℕ → Option Head → List Section
section_at body None = []
section_at body (Some h) = record { head = h; body = (sections_of body).before } ∷ (sections_of body).parts

-- the parts of a text that begins with a head
abbrev pub parts_at : List ℕ → List Section
parts_at text = section_at (drop 2 text) (front_head text)

-- and these with their places, from the text's own on
abbrev pub parts_from : ℕ → List ℕ → List PlacedPart
parts_from at text = placed at (parts_at text)

-- a text without the blanks before it
abbrev pub trim_start : List ℕ → List ℕ
trim_start [] = []
trim_start (b ∷ bs) = if is_blank b then trim_start bs else b ∷ bs

-- the first ACE of a text outside parentheses: the bytes before it, and its text
abbrev pub ace_at : ℕ → List ℕ → Option (ℕ × List ℕ)
ace_at before [] = None
ace_at before (b ∷ bs) = Some (before, take (before_byte (char ")") bs) bs)

abbrev pub first_ace : List ℕ → Option (ℕ × List ℕ)
first_ace text = ace_at (before_byte (char "(") text) (drop (before_byte (char "(") text) text)

-- the ACEs of a text outside parentheses, with their places
abbrev pub aces_at : ℕ → ℕ → List ℕ → List PlacedAce
aces_at number at text = aces_from number at (pieces_from false text).after
