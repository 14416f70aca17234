-- Where the first fault of a text of SDDL is (MS-DTYP 2.5.1, and docs/FORMAT.md, "Errors"): in which part, ACE and
-- field, and which bytes.
use Rattle.std.specs.Prelude.{◌≡◌, ℕ, ◌+◌, ◌==◌, nat_lt, if◌then◌else◌, Bool, true, false, List, [], ◌∷◌, ◌++◌}
use Rattle.std.specs.Prelude.{length, take, drop, slice_index_or, Option, Some, None, Result, Ok, Err}
use Rattle.std.specs.List.{AllByRecursion}
use Rattle.std.specs.Option.{option_map, option_or, unwrap_or}
use Rattle.std.specs.Str.Lossy.{utf8_valid_len}
use Rattle.sd_text.specs.Limits.{most_acl}
use Rattle.sd_ace.specs.Ace.{sid_offset}
use Rattle.sd_kinds.specs.declared.kinds.AceKind.{AceKind}
use Rattle.sd_parts.specs.Parts.{each_part, get_part, part_of, set_part, sid_part_of}
use Rattle.sd_parts.specs.declared.part.Parts.{Parts}
use Rattle.sd_sid.specs.Sid.{SecurityId, sid_size}
use Rattle.sd_sid.specs.SidText.{sid_reads}
use Rattle.sd_sid.specs.declared.sid_text.SidFault.{SidFault}
use Rattle.sd_sddl_fields.specs.FieldTexts.{object_reads}
use Rattle.sd_sddl_builder.specs.Line.{Piece, ace_cuts, is_shaped, part_of_head}
use Rattle.sd_sddl_builder.specs.declared.fault.SddlFault.{SddlFault}
use Rattle.sd_sddl_builder.specs.declared.fault.SddlFault.TheVariants as fault
use Rattle.sd_sddl_builder.specs.declared.slot.Head.{Head}
use Rattle.sd_sddl_builder.specs.declared.slot.Head.TheVariants as head
use Rattle.sd_fault_places.specs.declared.place.FaultPlace.{FaultPlace}
use Rattle.sd_fault_places.specs.declared.place.Field.TheVariants as named
use Rattle.sd_fault_places.specs.Fields.{PlacedAce, PlacedField, PlacedPart, aces_from, field_fault, fields_in, kind_in}
use Rattle.sd_fault_places.specs.Fields.{name_of, parts_in, place}
use Rattle.sd_fault_places.specs.Shape.{reach, start, stop}
use Rattle.sd_fault_places.specs.declared.shape.Stand.{Stand}
use Rattle.sd_fault_places.specs.declared.shape.Stand.TheVariants as stand

-- 1. 20, the shape: the first byte with which no line goes on, in what stands open before it.

-- the bytes of the character at the front: up to four, and one where they are not UTF-8
abbrev pub character_of : ℕ → List ℕ → Bool
character_of n text = utf8_valid_len (take n text) == n

abbrev pub character_size : List ℕ → ℕ
character_size [] = 0
character_size (b ∷ bs) =
    if character_of 1 (b ∷ bs) then 1
    else (if character_of 2 (b ∷ bs) then 2
    else (if character_of 3 (b ∷ bs) then 3
    else (if character_of 4 (b ∷ bs) then 4 else 1)))

abbrev pub place_at : Stand → ℕ → ℕ → FaultPlace
place_at stand.Before offset size = place None None None offset size
place_at (stand.Sid p) offset size = place (Some (sid_part_of p)) None (Some named.Sid) offset size
place_at (stand.Flags w) offset size = place (Some (part_of w)) None (Some named.Flags) offset size
place_at (stand.Behind w n) offset size = place (Some (part_of w)) None None offset size
place_at (stand.Ace w n f) offset size = place (Some (part_of w)) (Some n) (Some (name_of f)) offset size

abbrev pub place_of_shape : List ℕ → FaultPlace
place_of_shape text =
    place_at (stop start text).stand (reach start text) (character_size (drop (reach start text) text))

-- 2. 21, two parts with one letter: the second head of one letter, the first such from the left.

abbrev pub Seen : Type 0
Seen = Parts Bool

abbrev pub second_head : Seen → List PlacedPart → Option FaultPlace
second_head seen [] = None
second_head seen (p ∷ ps) =
    if get_part (part_of_head p.head) seen then Some (place (Some (part_of_head p.head)) None None p.at 2)
    else second_head (set_part (part_of_head p.head) true seen) ps

-- 3. 22 to 29, fields: the first one that has a fault.

abbrev pub if_faulty : FaultPlace → Option (SddlFault × FaultPlace) → Option SddlFault → Option (SddlFault × FaultPlace)
if_faulty here others None = others
if_faulty here others (Some f) = Some (f, here)

abbrev pub first_faulty : Option SecurityId → List PlacedField → Option (SddlFault × FaultPlace)
first_faulty domain [] = None
first_faulty domain (f ∷ fs) = if_faulty f.place (first_faulty domain fs) (field_fault domain f)

-- 4. 30, an ACL that is too large: the ACE with which it is.

abbrev pub read_size : Result SecurityId SidFault → ℕ
read_size (Ok s) = sid_size s
read_size (Err f) = 0

abbrev pub cut_number : ℕ → List ℕ → List ℕ
cut_number n text = slice_index_or (ace_cuts text) n []

abbrev pub object_in : AceKind → List ℕ → Option (List ℕ)
object_in kind text = unwrap_or (object_reads kind text) None

-- the size of an ACE whose fields read
abbrev pub size_in : Option SecurityId → List ℕ → ℕ
size_in domain text =
    sid_offset (kind_in (cut_number 0 text)) (object_in (kind_in (cut_number 0 text)) (cut_number 3 text))
    (object_in (kind_in (cut_number 0 text)) (cut_number 4 text))
    + read_size (sid_reads (cut_number 5 text) domain)

abbrev pub passing : Option SecurityId → ℕ → List PlacedAce → Option PlacedAce
passing domain size [] = None
passing domain size (a ∷ others) =
    if nat_lt most_acl (size + size_in domain a.text) then Some a
    else passing domain (size + size_in domain a.text) others

abbrev pub large_in : Option SecurityId → ℕ → List Piece → Head → Option (SddlFault × FaultPlace)
large_in domain at body (head.Sid s) = None
large_in domain at body (head.Acl w) =
    option_map (λ a. (fault.AclTooLarge w, place (Some (part_of w)) (Some a.number) None a.at (length a.text + 2)))
    (passing domain 8 (aces_from 0 at body))

abbrev pub first_large : Option SecurityId → List PlacedPart → Option (SddlFault × FaultPlace)
first_large domain [] = None
first_large domain (p ∷ ps) = option_or (large_in domain (p.at + 2) p.body p.head) (first_large domain ps)

-- 5. The first fault, with its place.

abbrev pub place_in_parts : Option SecurityId → List PlacedPart → Option (SddlFault × FaultPlace)
place_in_parts domain parts =
    option_or (option_map (λ p. (fault.PartTwice, p)) (second_head (each_part false) parts))
    (option_or (first_faulty domain (fields_in parts)) (first_large domain parts))

abbrev pub place_of_sddl_fault : List ℕ → Option SecurityId → Option (SddlFault × FaultPlace)
place_of_sddl_fault text domain =
    if is_shaped text then place_in_parts domain (parts_in text) else Some (fault.Shape, place_of_shape text)

-- 6. Laws.

-- 22 to 29
abbrev pub is_of_field : SddlFault → Bool
is_of_field fault.Shape = false
is_of_field fault.PartTwice = false
is_of_field (fault.Sid f) = true
is_of_field fault.Flags = true
is_of_field fault.Rights = true
is_of_field fault.Guid = true
is_of_field fault.Kind = true
is_of_field (fault.AclTooLarge w) = false

-- fields up to the first one that has a fault, which is this one
pub record IsFirstFault (domain : Option SecurityId) (fields : List PlacedField) (f : SddlFault)
    (at : FaultPlace) : Type 0
  where
    pub before : List PlacedField
    pub faulty : PlacedField
    pub after : List PlacedField
    pub among : fields ≡ before ++ faulty ∷ after
    pub sound : AllByRecursion (λ x. field_fault domain x ≡ None) before
    pub named : field_fault domain faulty ≡ Some f
    pub placed : faulty.place ≡ at

-- a fault of a field is at the first field that has one
abbrev pub IsAtFirst : List ℕ → Option SecurityId → SddlFault × FaultPlace → Type 0
IsAtFirst text domain r =
    is_of_field r.0 ≡ true → IsFirstFault domain (fields_in (parts_in text)) r.0 r.1
