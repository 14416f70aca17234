-- A reader in the middle of a line: what it answers if the line goes on by a text and ends there.
use Rattle.std.specs.Prelude.{ℕ, Bool, true, false, ◌&&◌, ◌||◌, ◌==◌, not, if◌then◌else◌, List, [], ◌∷◌, ◌++◌, codes}
use Rattle.std.specs.Prelude.{length, Option, Result}
use Rattle.std.specs.List.{list_all, flat_map}
use Rattle.std.specs.Option.{is_none}
use Rattle.std.specs.Str.{byte as char}
use Rattle.sd_sid.specs.Sid.{SecurityId}
use Rattle.sd_sddl_fields.specs.Held.{Held, held_text, is_plain_text}
use Rattle.sd_sddl_builder.specs.FoldedReading.{Field, FieldsRead, ace_fields, ace_fields_from, fields_of, read_fields}
use Rattle.sd_sddl_builder.specs.FoldedReading.{take_field, if_shaped}
use Rattle.sd_sddl_builder.specs.Line.{Piece, Sections, aces, are_aces, are_shaped, cut_at_semicolons, front}
use Rattle.sd_sddl_builder.specs.Line.{has_aces, has_seen, has_twice, head_of, is_acl_body, is_blank_piece, is_paired}
use Rattle.sd_sddl_builder.specs.Line.{is_sid_body, part_of_head, pieces_from, sections, trim}
use Rattle.sd_sddl_fields.specs.FieldTexts.{is_blank}
use Rattle.sd_text.specs.Chains.{and_then}
use Rattle.sd_sddl_builder.specs.declared.fault.SddlFault.{SddlFault}
use Rattle.sd_sddl_builder.specs.declared.slot.AceField.{AceField}
use Rattle.sd_sddl_builder.specs.declared.slot.AceField.TheVariants as field
use Rattle.sd_sddl_builder.specs.declared.slot.Head.{Head}
use Rattle.sd_sddl_builder.specs.declared.slot.Head.TheVariants as head
use Rattle.sd_sddl_reader.specs.declared.line.State.{State}
use Rattle.sd_sddl_reader.specs.declared.line.State.TheVariants as state
use Rattle.sd_parts.specs.Parts.{get_part, set_part}
use Rattle.sd_parts.specs.declared.part.Parts.{Parts}
use Rattle.sd_sddl_builder.specs.declared.slot.Slot.TheVariants as slot

abbrev pub is_inside : State → Bool
is_inside state.Before = false
is_inside (state.Sid p) = false
is_inside (state.AclFlags w) = false
is_inside state.AfterAce = false
is_inside (state.Ace f) = true

-- how many semicolons an ACE still has at a field
abbrev pub fields_left : AceField → ℕ
fields_left field.Kind = 5
fields_left field.Flags = 4
fields_left field.Rights = 3
fields_left field.Object = 2
fields_left field.Inherited = 1
fields_left field.Sid = 0

-- whether the rest of the part at hand has its shape
abbrev pub is_shaped_here : State → List ℕ → List Piece → Bool
is_shaped_here state.Before held ps = list_all is_blank_piece ps
is_shaped_here (state.Sid p) held ps = is_sid_body ps
is_shaped_here (state.AclFlags w) held ps = is_acl_body ps
is_shaped_here state.AfterAce held ps = are_aces ps
is_shaped_here (state.Ace f) held ps = length (cut_at_semicolons held).others == fields_left f && are_aces ps

-- a text that does not read
abbrev pub unreadable : List ℕ
unreadable = codes " "

-- the text of a field where blanks at the ends do not count: what is held of it, and the rest
abbrev pub text_with : Held → List ℕ → List ℕ
text_with h bs =
    if h.broken then unreadable
    else (if h.gap then (if list_all is_blank bs then h.text else unreadable) else trim (h.text ++ bs))

-- the text of a field inside parentheses
abbrev pub inner_with : Held → List ℕ → List ℕ
inner_with h bs = if h.broken then unreadable else h.text ++ bs

-- the fields of the rest of the part at hand
abbrev pub fields_here : State → Held → List ℕ → List Piece → List Field
fields_here state.Before h held ps = []
fields_here (state.Sid p) h held ps = record { slot = slot.Sid p; text = text_with h (front ps) } ∷ []
fields_here (state.AclFlags w) h held ps =
    record { slot = slot.AclFlags w (has_aces ps); text = text_with h (front ps) } ∷ flat_map ace_fields (aces ps)
fields_here state.AfterAce h held ps = flat_map ace_fields (aces ps)
fields_here (state.Ace f) h held ps =
    ace_fields_from f (inner_with h (cut_at_semicolons held).first) (cut_at_semicolons held).others
    ++ flat_map ace_fields (aces ps)

-- the parts whose heads stood in the line so far
abbrev pub Seen : Type 0
Seen = Parts Bool

abbrev pub is_seen : Seen → Head → Bool
is_seen s h = get_part (part_of_head h) s

abbrev pub with_head : Seen → Head → Seen
with_head s h = set_part (part_of_head h) true s

-- the answer to what was read before and to a rest in pieces
unfoldable pub judged : Option SecurityId → Bool → Bool → Seen → Result FieldsRead SddlFault → State → Held → Bool
    → List ℕ
    → Sections → Result FieldsRead SddlFault
judged domain sound twice seen read state h paired held ss =
    if_shaped (sound && (paired && (is_shaped_here state held ss.before && are_shaped ss.parts)))
    (twice || (has_seen seen ss.parts || has_twice ss.parts))
    (and_then read (read_fields domain (fields_here state h held ss.before ++ fields_of ss.parts)))

unfoldable pub rest_answer : Option SecurityId → Bool → Bool → Seen → Result FieldsRead SddlFault → State → Held
    → List ℕ → Result FieldsRead SddlFault
rest_answer domain sound twice seen read state h text =
    judged domain sound twice seen read state h (is_paired (is_inside state) text)
    (pieces_from (is_inside state) text).held (sections (pieces_from (is_inside state) text).after)

-- where a part begins
abbrev pub state_of : Head → State
state_of (head.Sid p) = state.Sid p
state_of (head.Acl w) = state.AclFlags w

-- the byte that ends a field of an ACE, and where the line goes on after it
abbrev pub end_of : AceField → ℕ
end_of field.Kind = char ";"
end_of field.Flags = char ";"
end_of field.Rights = char ";"
end_of field.Object = char ";"
end_of field.Inherited = char ";"
end_of field.Sid = char ")"

abbrev pub state_after : AceField → State
state_after field.Kind = state.Ace field.Flags
state_after field.Flags = state.Ace field.Rights
state_after field.Rights = state.Ace field.Object
state_after field.Object = state.Ace field.Inherited
state_after field.Inherited = state.Ace field.Sid
state_after field.Sid = state.AfterAce

-- what the fields so far read as, once the part at hand ends with no ACE before its end
abbrev pub ended_with : Option SecurityId → State → Held → Result FieldsRead SddlFault → Result FieldsRead SddlFault
ended_with domain state.Before h r = r
ended_with domain (state.Sid p) h r = and_then r (λ b. take_field domain b (slot.Sid p) (held_text h))
ended_with domain (state.AclFlags w) h r = and_then r (λ b. take_field domain b (slot.AclFlags w false) (held_text h))
ended_with domain state.AfterAce h r = r
ended_with domain (state.Ace f) h r = r

-- a byte inside parentheses that ends no field
abbrev pub is_in_field : ℕ → Bool
is_in_field b = not (b == char "(" || (b == char ")" || b == char ";"))

-- a byte that only goes onto the text of a field outside parentheses
abbrev pub is_plain_outside : ℕ → Bool
is_plain_outside b = is_plain_text b && is_none (head_of b)
