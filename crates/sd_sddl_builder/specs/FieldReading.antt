-- The reader of fields: what it has read, and what the buffer beside it holds.
use Rattle.std.specs.Prelude.{◌≡◌, ℕ, ◌/◌, ◌%◌, List, None, Result, Ok, Err}
use Rattle.std.specs.Option.{option_map}
use Rattle.sd_ace.specs.Ace.{GuidsFit}
use Rattle.sd_kinds.specs.Kinds.{is_object}
use Rattle.sd_view.specs.Descriptor.{Descriptor, Shows}
use Rattle.sd_view.specs.WrittenForm.{IsWritten}
use Rattle.sd_view.specs.declared.acl_part.AclPart.TheVariants as acl
use Rattle.sd_parts.specs.declared.part.Part.{Part}
use Rattle.sd_builder.specs.Builds.{Builds}
use Rattle.sd_builder.specs.declared.builder.Builder.{Builder}
use Rattle.sd_builder.specs.Draft.{DraftParts, IsOpen, acl_for, closed}
use Rattle.sd_sddl_builder.specs.FoldedReading.{FieldsRead}
use Rattle.sd_sddl_builder.specs.declared.fault.SddlFault.{SddlFault}
use Rattle.sd_sddl_builder.specs.declared.slot.Head.{Head}
use Rattle.sd_sddl_builder.specs.declared.slot.Head.TheVariants as head
use Rattle.sd_parts.specs.declared.part.SidPart.TheVariants as sid_part
use Rattle.sd_sddl_builder.specs.declared.slot.Slot.{Slot}
use Rattle.sd_sddl_builder.specs.declared.slot.Slot.TheVariants as slot
use Rattle.sd_ace.specs.declared.ace_parts.AceFields.{AceFields}
use Rattle.sd_sddl_builder.specs.declared.reading.FieldReader.{FieldReader}

-- the part of a head is not given yet
abbrev pub Lacks : Head → FieldsRead → Type 0
Lacks (head.Sid sid_part.Owner) r = r.parts.owner ≡ None
Lacks (head.Sid sid_part.Group) r = r.parts.group ≡ None
Lacks (head.Acl w) r = acl_for w (closed r.parts) ≡ acl.Absent

-- a field's part is not given yet, or its ACL is open
abbrev pub CanTake : Slot → FieldsRead → Type 0
CanTake (slot.Sid p) r = Lacks (head.Sid p) r
CanTake (slot.AclFlags w has_aces) r = Lacks (head.Acl w) r
CanTake (slot.Ace f) r = IsOpen r.parts

-- what the fields of an ACE need to be an ACE's
pub record AreAceFields (f : AceFields) : Type 0 where
  pub clear : f.flags / 0x20 % 2 ≡ 0
  pub fit : GuidsFit (is_object f.kind) f.object f.inherited

-- the builder was given these parts, in some order
abbrev pub BuildsParts : Builder → List ℕ → DraftParts → Type 0
BuildsParts b buf p = (order : List Part) × Builds b buf (record { parts = p; order = order })

-- The reader has read this, and as long as no ACL is too large it is in the buffer.
pub record HasReadFields (r : FieldReader) (buf : List ℕ) (t : FieldsRead) : Type 0 where
  pub sacl : r.sacl ≡ t.sacl
  pub dacl : r.dacl ≡ t.dacl
  pub ace : r.ace ≡ t.ace
  pub large : r.large ≡ t.large
  pub sound : AreAceFields t.ace
  pub builds : t.large ≡ None → BuildsParts r.builder buf t.parts
  pub open_acl : t.large ≡ None → r.open_acl ≡ option_map (λ o. o.0) t.parts.«open»

-- a field was read, or is the fault
abbrev pub Takes : {X : Type 0} → Result FieldsRead SddlFault → Result X SddlFault → FieldReader → List ℕ → Type 0
Takes wanted (Ok x) r buf = (u : FieldsRead) × HasReadFields r buf u × (wanted ≡ Ok u)
Takes wanted (Err e) r buf = wanted ≡ Err e

-- the buffer shows the descriptor in its written form, or is a refusal's
abbrev pub Ends : Result Descriptor SddlFault → Result (Unit {0}) SddlFault → List ℕ → Type 0
Ends wanted (Ok x) buf = (d : Descriptor) × Shows buf d × IsWritten buf d × (wanted ≡ Ok d)
Ends wanted (Err e) buf = wanted ≡ Err e
