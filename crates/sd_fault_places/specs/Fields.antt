-- The parts, ACEs and fields of a shaped text, each with its place in it.
use Rattle.std.specs.Prelude.{ℕ, suc, ◌+◌, ◌&&◌, Bool, if◌then◌else◌, List, [], ◌∷◌, ◌++◌, length, Option, Some, None}
use Rattle.std.specs.Prelude.{Result, Ok, Err}
use Rattle.std.specs.List.{list_all}
use Rattle.std.specs.Option.{unwrap_or}
use Rattle.std.specs.Result.{result_err}
use Rattle.sd_kinds.specs.Flags.{flags_reads}
use Rattle.sd_kinds.specs.declared.kinds.AceKind.{AceKind}
use Rattle.sd_kinds.specs.declared.kinds.AceKind.TheVariants as kinds
use Rattle.sd_parts.specs.Parts.{part_of, sid_part_of}
use Rattle.sd_parts.specs.declared.part.Part.{Part}
use Rattle.sd_rights.specs.Rights.{rights_reads}
use Rattle.sd_sid.specs.Sid.{SecurityId}
use Rattle.sd_text.specs.Chains.{and_then}
use Rattle.sd_sddl_fields.specs.FieldTexts.{front_reads, is_blank, kind_reads, object_reads}
use Rattle.sd_sddl_fields.specs.declared.field_texts.AclFront.{AclFront}
use Rattle.sd_sddl_builder.specs.FoldedReading.{next_field}
use Rattle.sd_sddl_builder.specs.Line.{Piece, Section, ace, byte, cut_at_semicolons, front, has_aces, sections_of, trim}
use Rattle.sd_sddl_builder.specs.Meaning.{field_reads, sid_field_reads}
use Rattle.sd_sddl_builder.specs.declared.fault.SddlFault.{SddlFault}
use Rattle.sd_sddl_builder.specs.declared.fault.SddlFault.TheVariants as fault
use Rattle.sd_sddl_builder.specs.declared.slot.AceField.{AceField}
use Rattle.sd_sddl_builder.specs.declared.slot.AceField.TheVariants as field
use Rattle.sd_sddl_builder.specs.declared.slot.Head.{Head}
use Rattle.sd_sddl_builder.specs.declared.slot.Head.TheVariants as head
use Rattle.sd_sddl_builder.specs.declared.slot.Slot.{Slot}
use Rattle.sd_sddl_builder.specs.declared.slot.Slot.TheVariants as slot
use Rattle.sd_fault_places.specs.declared.place.FaultPlace.{FaultPlace}
use Rattle.sd_fault_places.specs.declared.place.Field.{Field}
use Rattle.sd_fault_places.specs.declared.place.Field.TheVariants as named

abbrev pub place : Option Part → Option ℕ → Option Field → ℕ → ℕ → FaultPlace
place part number name offset size =
    record { part = part; ace = number; field = name; range = record { offset = offset; size = size } }

-- 1. Parts: a head takes two bytes, and an ACE its parentheses.

abbrev pub piece_size : Piece → ℕ
piece_size (byte b) = 1
piece_size (ace a) = length a + 2

abbrev pub pieces_size : List Piece → ℕ
pieces_size [] = 0
pieces_size (p ∷ ps) = piece_size p + pieces_size ps

-- a part, and where its letter is
pub record PlacedPart : Type 0 where
  pub head : Head
  pub at : ℕ
  pub body : List Piece

-- parts that follow each other from a place on
abbrev pub placed : ℕ → List Section → List PlacedPart
placed at [] = []
placed at (s ∷ ss) =
    record { head = s.head; at = at; body = s.body } ∷ placed (at + (pieces_size s.body + 2)) ss

abbrev pub parts_in : List ℕ → List PlacedPart
parts_in text = placed (pieces_size (sections_of text).before) (sections_of text).parts

-- 2. ACEs.

-- an ACE: its number in its part, from 0, where its first parenthesis is, and the text between its parentheses
pub record PlacedAce : Type 0 where
  pub number : ℕ
  pub at : ℕ
  pub text : List ℕ

-- the ACEs among pieces that begin at a place
abbrev pub aces_from : ℕ → ℕ → List Piece → List PlacedAce
aces_from number at [] = []
aces_from number at (byte b ∷ ps) = aces_from number (at + 1) ps
aces_from number at (ace a ∷ ps) =
    record { number = number; at = at; text = a } ∷ aces_from (number + 1) (at + (length a + 2)) ps

-- 3. Fields.

-- a field, the kind of its ACE, its text, and its place
pub record PlacedField : Type 0 where
  pub slot : Slot
  pub kind : AceKind
  pub text : List ℕ
  pub place : FaultPlace

abbrev pub name_of : AceField → Field
name_of field.Kind = named.Kind
name_of field.Flags = named.Flags
name_of field.Rights = named.Rights
name_of field.Object = named.ObjectType
name_of field.Inherited = named.InheritedObjectType
name_of field.Sid = named.Sid

abbrev pub field_of : Slot → Field
field_of (slot.Sid p) = named.Sid
field_of (slot.AclFlags w has_aces) = named.Flags
field_of (slot.Ace f) = name_of f

abbrev pub ace_field : Part → ℕ → AceKind → ℕ → AceField → List ℕ → PlacedField
ace_field part number kind at f text = record {
  slot = slot.Ace f;
  kind = kind;
  text = text;
  place = place (Some part) (Some number) (Some (name_of f)) at (length text);
}

-- the cuts of an ACE, from a field on
abbrev pub cuts_from : Part → ℕ → AceKind → ℕ → AceField → List ℕ → List (List ℕ) → List PlacedField
cuts_from part number kind at f text [] = ace_field part number kind at f text ∷ []
cuts_from part number kind at f text (t ∷ ts) =
    ace_field part number kind at f text ∷ cuts_from part number kind (at + (length text + 1)) (next_field f) t ts

-- the kind that a text names; where it names none, that is the fault, and the other fields do not count
abbrev pub kind_in : List ℕ → AceKind
kind_in text = unwrap_or (kind_reads text) kinds.Allow

abbrev pub fields_in_ace : Part → PlacedAce → List PlacedField
fields_in_ace part a =
    cuts_from part a.number (kind_in (cut_at_semicolons a.text).first) (a.at + 1) field.Kind
    (cut_at_semicolons a.text).first (cut_at_semicolons a.text).others

abbrev pub fields_in_aces : Part → List PlacedAce → List PlacedField
fields_in_aces part [] = []
fields_in_aces part (a ∷ others) = fields_in_ace part a ++ fields_in_aces part others

-- how many blanks are before a text; of blanks alone none count
abbrev pub blanks_at : List ℕ → ℕ
blanks_at [] = 0
blanks_at (b ∷ bs) = if is_blank b then suc (blanks_at bs) else 0

abbrev pub blanks_before : List ℕ → ℕ
blanks_before text = if list_all is_blank text then 0 else blanks_at text

-- what stands in a part before its ACEs, without the blanks at its ends
abbrev pub front_field : Part → Slot → ℕ → List ℕ → PlacedField
front_field part s at text = record {
  slot = s;
  kind = kinds.Allow;
  text = trim text;
  place = place (Some part) None (Some (field_of s)) (at + blanks_before text) (length (trim text));
}

abbrev pub fields_in_body : Head → ℕ → List Piece → List PlacedField
fields_in_body (head.Sid p) at body = front_field (sid_part_of p) (slot.Sid p) at (front body) ∷ []
fields_in_body (head.Acl w) at body =
    front_field (part_of w) (slot.AclFlags w (has_aces body)) at (front body)
    ∷ fields_in_aces (part_of w) (aces_from 0 at body)

abbrev pub fields_in : List PlacedPart → List PlacedField
fields_in [] = []
fields_in (p ∷ ps) = fields_in_body p.head (p.at + 2) p.body ++ fields_in ps

-- 4. The fault of a field: of one that does not read, and of NO_ACCESS_CONTROL before ACEs.

abbrev pub unless_null_with_aces : Bool → AclFront → Result AclFront SddlFault
unless_null_with_aces has_aces f = if f.null && has_aces then Err fault.Flags else Ok f

abbrev pub ace_field_fault : Option SecurityId → AceKind → AceField → List ℕ → Option SddlFault
ace_field_fault domain kind field.Kind text = result_err (field_reads fault.Kind kind_reads text)
ace_field_fault domain kind field.Flags text = result_err (field_reads fault.Flags flags_reads text)
ace_field_fault domain kind field.Rights text = result_err (field_reads fault.Rights rights_reads text)
ace_field_fault domain kind field.Object text = result_err (field_reads fault.Guid (object_reads kind) text)
ace_field_fault domain kind field.Inherited text = result_err (field_reads fault.Guid (object_reads kind) text)
ace_field_fault domain kind field.Sid text = result_err (sid_field_reads domain text)

abbrev pub slot_fault : Option SecurityId → AceKind → Slot → List ℕ → Option SddlFault
slot_fault domain kind (slot.Sid p) text = result_err (sid_field_reads domain text)
slot_fault domain kind (slot.AclFlags w has_aces) text =
    result_err (and_then (field_reads fault.Flags front_reads text) (unless_null_with_aces has_aces))
slot_fault domain kind (slot.Ace f) text = ace_field_fault domain kind f text

abbrev pub field_fault : Option SecurityId → PlacedField → Option SddlFault
field_fault domain f = slot_fault domain f.kind f.slot f.text
