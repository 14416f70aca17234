-- A second form of what a line means: field by field from the left, each onto what was read so far, which is kept as a
-- builder keeps it. Nobody has to believe it: `folded-means` (proofs/laws/FoldedMeaning.antt) proves that it is
-- `means`. Laws about printed lines cite it.
use Rattle.std.specs.Prelude.{ℕ, ◌&&◌, Bool, true, false, nat_lt, if◌then◌else◌, List, [], ◌∷◌, ◌++◌, Option, Some}
use Rattle.std.specs.Prelude.{None, Result, Ok, Err}
use Rattle.std.specs.List.{flat_map}
use Rattle.sd_text.specs.Limits.{most_acl}
use Rattle.sd_ace.specs.Ace.{AccessControlEntry}
use Rattle.sd_ace.specs.AceHead.{PlainHead}
use Rattle.sd_kinds.specs.Flags.{flags_reads}
use Rattle.sd_rights.specs.Rights.{rights_reads}
use Rattle.sd_sid.specs.Sid.{SecurityId}
use Rattle.sd_sid.specs.SidText.{sid_reads}
use Rattle.sd_kinds.specs.declared.kinds.AceKind.TheVariants as kinds
use Rattle.sd_sid.specs.declared.sid_text.SidFault.{SidFault}
use Rattle.sd_sid.specs.declared.sid_text.SidFault.TheVariants.{SidForm}
use Rattle.sd_acl_view.specs.Acl.{acl_size}
use Rattle.sd_view.specs.Descriptor.{Descriptor}
use Rattle.sd_builder.specs.Draft.{DraftParts, begun, built, closed, no_parts, with_ace, with_acl}
use Rattle.sd_builder.specs.Draft.{with_sid as with_sid_part}
use Rattle.sd_view.specs.declared.acl_part.AclPart.TheVariants as acl
use Rattle.sd_parts.specs.declared.part.Which.{Which}
use Rattle.sd_parts.specs.declared.part.Which.TheVariants as which
use Rattle.sd_parts.specs.Control.{no_flags}
use Rattle.sd_parts.specs.declared.control.AclFlags.{AclFlags}
use Rattle.std.specs.Option.{option_or}
use Rattle.sd_sddl_fields.specs.FieldTexts.{front_reads, kind_reads, object_reads}
use Rattle.sd_sddl_builder.specs.Line.{Piece, Section, aces, cut_at_semicolons, front, has_aces, has_twice, is_shaped}
use Rattle.sd_sddl_builder.specs.Line.{sections_of, trim}
use Rattle.sd_text.specs.Chains.{and_then}
use Rattle.sd_sddl_builder.specs.Meaning.{control_flags, is_unreadable, unless_large}
use Rattle.sd_sddl_builder.specs.declared.fault.SddlFault.{SddlFault}
use Rattle.sd_sddl_builder.specs.declared.fault.SddlFault.TheVariants as fault
use Rattle.sd_sddl_builder.specs.declared.slot.AceField.{AceField}
use Rattle.sd_sddl_builder.specs.declared.slot.AceField.TheVariants as field
use Rattle.sd_sddl_builder.specs.declared.slot.Head.{Head}
use Rattle.sd_sddl_builder.specs.declared.slot.Head.TheVariants as head
use Rattle.sd_parts.specs.declared.part.SidPart.{SidPart}
use Rattle.sd_sddl_builder.specs.declared.slot.Slot.{Slot}
use Rattle.sd_sddl_builder.specs.declared.slot.Slot.TheVariants as slot
use Rattle.sd_ace.specs.declared.ace_parts.AceFields.{AceFields}
use Rattle.sd_sddl_fields.specs.declared.field_texts.AclFront.{AclFront}

-- 1. The fields of a line, from the left, each with what it is.

-- a field of the line, with its text
pub record Field : Type 0 where
  pub slot : Slot
  pub text : List ℕ

-- the last one has none after it: a further cut is no shape
abbrev pub next_field : AceField → AceField
next_field field.Kind = field.Flags
next_field field.Flags = field.Rights
next_field field.Rights = field.Object
next_field field.Object = field.Inherited
next_field field.Inherited = field.Sid
next_field field.Sid = field.Sid

-- the cuts of an ACE, from a field on
abbrev pub ace_fields_from : AceField → List ℕ → List (List ℕ) → List Field
ace_fields_from f text [] = record { slot = slot.Ace f; text = text } ∷ []
ace_fields_from f text (t ∷ ts) = record { slot = slot.Ace f; text = text } ∷ ace_fields_from (next_field f) t ts

abbrev pub ace_fields : List ℕ → List Field
ace_fields a = ace_fields_from field.Kind (cut_at_semicolons a).first (cut_at_semicolons a).others

-- the SID; or what stands before the first parenthesis, and the fields of the ACEs; blanks at the ends of both first
-- ones do not count
abbrev pub fields_in : Head → List Piece → List Field
fields_in (head.Sid p) body = record { slot = slot.Sid p; text = trim (front body) } ∷ []
fields_in (head.Acl w) body =
    record { slot = slot.AclFlags w (has_aces body); text = trim (front body) } ∷ flat_map ace_fields (aces body)

-- all fields, from the left
abbrev pub fields_of : List Section → List Field
fields_of [] = []
fields_of (s ∷ ss) = fields_in s.head s.body ++ fields_of ss

-- 2. The fields, one after the other.

-- What the fields so far say. The fields are read one after the other, from the left, so that the first one that does
-- not read is the fault: an ACE's SID, its last field, puts it into the ACL at hand, and a part closes the ACL before
-- it.
pub record FieldsRead : Type 0 where
  -- the parts, and the ACL at hand with its ACEs
  pub parts : DraftParts
  -- the flags of the ACLs that stand
  pub sacl : AclFlags
  pub dacl : AclFlags
  -- the fields of the ACE at hand
  pub ace : AceFields
  -- the first ACL from the left that is too large
  pub large : Option Which

abbrev pub no_fields : AceFields
no_fields = record { kind = kinds.Allow; flags = 0; mask = 0; object = None; inherited = None }

abbrev pub nothing_read : FieldsRead
nothing_read = record { parts = no_parts; sacl = no_flags; dacl = no_flags; ace = no_fields; large = None }

-- a reading with a value, or the fault where there is none
abbrev pub with_value : {A : Type 0} → SddlFault → (A → FieldsRead) → Option A → Result FieldsRead SddlFault
with_value e with None = Err e
with_value e with (Some x) = Ok (with x)

abbrev pub with_sid : (SecurityId → FieldsRead) → Result SecurityId SidFault → Result FieldsRead SddlFault
with_sid with (Ok s) = Ok (with s)
with_sid with (Err e) = Err (fault.Sid e)

-- an owner or a group; the ACL before it is closed
abbrev pub with_owner_or_group : SidPart → FieldsRead → SecurityId → FieldsRead
with_owner_or_group p r s = record r { parts = with_sid_part p s (closed r.parts) }

abbrev pub with_flags : Which → AclFlags → FieldsRead → FieldsRead
with_flags which.Sacl f r = record r { sacl = f }
with_flags which.Dacl f r = record r { dacl = f }

abbrev pub begun_or_null : Which → Bool → DraftParts → DraftParts
begun_or_null w true t = with_acl w acl.Null t
begun_or_null w false t = begun w t

-- an ACL begins, and the one before it is closed; no ACE stands in a null ACL
unfoldable pub take_front : Which → Bool → FieldsRead → Option AclFront → Result FieldsRead SddlFault
take_front w has_aces r None = Err fault.Flags
take_front w has_aces r (Some f) =
    if f.null && has_aces then Err fault.Flags
    else Ok (with_flags w f.flags (record r { parts = begun_or_null w f.null (closed r.parts) }))

-- those of an ACE without object types
abbrev pub plain_fields : PlainHead → AceFields
plain_fields h = record no_fields { kind = h.kind; flags = h.flags; mask = h.mask }

abbrev pub ace_of_fields : AceFields → SecurityId → AccessControlEntry
ace_of_fields f s =
    record { kind = f.kind; flags = f.flags; mask = f.mask; object = f.object; inherited = f.inherited; sid = s }

abbrev pub large_in : Option (Which × List AccessControlEntry) → Option Which
large_in None = None
large_in (Some o) = if nat_lt most_acl (acl_size o.1) then Some o.0 else None

abbrev pub grown : FieldsRead → DraftParts → FieldsRead
grown r parts = record r { parts = parts; large = option_or r.large (large_in parts.«open») }

-- the ACE at hand ends with its SID
abbrev pub with_trustee : FieldsRead → SecurityId → FieldsRead
with_trustee r s = grown r (with_ace (ace_of_fields r.ace s) r.parts)

-- a field of the ACE at hand
unfoldable pub take_ace_field : Option SecurityId → FieldsRead → AceField → List ℕ → Result FieldsRead SddlFault
take_ace_field domain r field.Kind text =
    with_value fault.Kind (λ kind. record r { ace = record no_fields { kind = kind } }) (kind_reads text)
take_ace_field domain r field.Flags text =
    with_value fault.Flags (λ flags. record r { ace = record r.ace { flags = flags } }) (flags_reads text)
take_ace_field domain r field.Rights text =
    with_value fault.Rights (λ mask. record r { ace = record r.ace { mask = mask } }) (rights_reads text)
take_ace_field domain r field.Object text =
    with_value fault.Guid (λ guid. record r { ace = record r.ace { object = guid } }) (object_reads r.ace.kind text)
take_ace_field domain r field.Inherited text =
    with_value fault.Guid (λ guid. record r { ace = record r.ace { inherited = guid } }) (object_reads r.ace.kind text)
take_ace_field domain r field.Sid text = with_sid (with_trustee r) (sid_reads text domain)

abbrev pub take_readable : Option SecurityId → FieldsRead → Slot → List ℕ → Result FieldsRead SddlFault
take_readable domain r (slot.Sid p) text = with_sid (with_owner_or_group p r) (sid_reads text domain)
take_readable domain r (slot.AclFlags w has_aces) text = take_front w has_aces r (front_reads text)
take_readable domain r (slot.Ace f) text = take_ace_field domain r f text

-- what a field that does not read is called, as above
abbrev pub ace_fault_of : AceField → SddlFault
ace_fault_of field.Kind = fault.Kind
ace_fault_of field.Flags = fault.Flags
ace_fault_of field.Rights = fault.Rights
ace_fault_of field.Object = fault.Guid
ace_fault_of field.Inherited = fault.Guid
ace_fault_of field.Sid = fault.Sid SidForm

abbrev pub fault_of : Slot → SddlFault
fault_of (slot.Sid p) = fault.Sid SidForm
fault_of (slot.AclFlags w has_aces) = fault.Flags
fault_of (slot.Ace f) = ace_fault_of f

-- one field more
unfoldable pub take_field : Option SecurityId → FieldsRead → Slot → List ℕ → Result FieldsRead SddlFault
take_field domain r s text = if is_unreadable text then Err (fault_of s) else take_readable domain r s text

-- the first field that does not read is the fault
abbrev pub read_fields : Option SecurityId → List Field → FieldsRead → Result FieldsRead SddlFault
read_fields domain [] r = Ok r
read_fields domain (f ∷ fs) r = and_then (take_field domain r f.slot f.text) (read_fields domain fs)

-- 3. The line.

-- shape first, then a part that stands twice, then the fields
unfoldable pub if_shaped : Bool → Bool → Result FieldsRead SddlFault → Result FieldsRead SddlFault
if_shaped shaped twice read = if shaped then (if twice then Err fault.PartTwice else read) else Err fault.Shape

unfoldable pub reads_as : Option SecurityId → List ℕ → Result FieldsRead SddlFault
reads_as domain text =
    if_shaped (is_shaped text) (has_twice (sections_of text).parts)
    (read_fields domain (fields_of (sections_of text).parts) nothing_read)

abbrev pub described : FieldsRead → Descriptor
described r = built (control_flags r.sacl r.dacl) 0 (closed r.parts)

-- the last fault is an ACL that is too large
unfoldable pub finished : Result FieldsRead SddlFault → Result Descriptor SddlFault
finished (Err e) = Err e
finished (Ok r) = unless_large r.large (described r)

-- the descriptor of a line under a domain, or the first fault
unfoldable pub folded : List ℕ → Option SecurityId → Result Descriptor SddlFault
folded text domain = finished (reads_as domain text)
