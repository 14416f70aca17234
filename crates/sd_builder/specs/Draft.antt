-- What a builder was given so far, and the descriptor that it ends with, and its bytes (MS-DTYP 2.4.6).
use Rattle.std.specs.Prelude.{◌≡◌, ℕ, ◌+◌, Bool, true, false, if◌then◌else◌, List, [], ◌∷◌, ◌++◌, length, Option}
use Rattle.std.specs.Prelude.{Some, None}
use Rattle.std.specs.List.{flat_map}
use Rattle.sd_ace.specs.Ace.{AccessControlEntry}
use Rattle.sd_sid.specs.Sid.{SecurityId}
use Rattle.sd_acl_view.specs.Acl.{acl_size}
use Rattle.sd_parts.specs.Control.{control_of}
use Rattle.sd_view.specs.Descriptor.{Descriptor}
use Rattle.sd_parts.specs.Header.{header_bytes}
use Rattle.sd_view.specs.Layout.{acl_part, sid_part}
use Rattle.sd_view.specs.declared.acl_part.AclPart.{AclPart}
use Rattle.sd_view.specs.declared.acl_part.AclPart.TheVariants as acl
use Rattle.sd_parts.specs.Parts.{part_of, same_part, sid_part_of}
use Rattle.sd_parts.specs.declared.part.Part.{Part}
use Rattle.sd_parts.specs.declared.part.Part.TheVariants as part
use Rattle.sd_parts.specs.declared.part.SidPart.{SidPart}
use Rattle.sd_parts.specs.declared.part.SidPart.TheVariants as sids
use Rattle.sd_parts.specs.declared.part.Which.{Which}
use Rattle.sd_parts.specs.declared.part.Which.TheVariants as which

-- 1. The parts.

-- the parts that are given, and the ACL that is open, with its ACEs so far
pub record DraftParts : Type 0 where
  pub owner : Option SecurityId
  pub group : Option SecurityId
  pub sacl : AclPart
  pub dacl : AclPart
  pub «open» : Option (Which × List AccessControlEntry)

abbrev pub no_parts : DraftParts
no_parts = record { owner = None; group = None; sacl = acl.Absent; dacl = acl.Absent; «open» = None }

abbrev pub with_sid : SidPart → SecurityId → DraftParts → DraftParts
with_sid sids.Owner s t = record t { owner = Some s }
with_sid sids.Group s t = record t { group = Some s }

abbrev pub sid_for : SidPart → DraftParts → Option SecurityId
sid_for sids.Owner t = t.owner
sid_for sids.Group t = t.group

abbrev pub acl_for : Which → DraftParts → AclPart
acl_for which.Sacl t = t.sacl
acl_for which.Dacl t = t.dacl

abbrev pub with_acl : Which → AclPart → DraftParts → DraftParts
with_acl which.Sacl part t = record t { sacl = part }
with_acl which.Dacl part t = record t { dacl = part }

-- no ACL is open, and the part is not given yet
abbrev pub CanBegin : Which → DraftParts → Type 0
CanBegin w t = (t.«open» ≡ None) × (acl_for w t ≡ acl.Absent)

-- an ACL is opened, without ACEs
abbrev pub begun : Which → DraftParts → DraftParts
begun w t = record t { «open» = Some (w, []) }

abbrev pub IsOpenIn : Option (Which × List AccessControlEntry) → Type 0
IsOpenIn None = ⊥
IsOpenIn (Some o) = Unit {0}

abbrev pub IsOpen : DraftParts → Type 0
IsOpen t = IsOpenIn t.«open»

-- the size of the ACL that is open
abbrev pub open_size_in : Option (Which × List AccessControlEntry) → ℕ
open_size_in None = 0
open_size_in (Some o) = acl_size o.1

abbrev pub open_size : DraftParts → ℕ
open_size t = open_size_in t.«open»

abbrev pub more_in : AccessControlEntry → Option (Which × List AccessControlEntry)
    → Option (Which × List AccessControlEntry)
more_in a None = None
more_in a (Some o) = Some (o.0, o.1 ++ a ∷ [])

-- one ACE more at the end of the open ACL
abbrev pub with_ace : AccessControlEntry → DraftParts → DraftParts
with_ace a t = record t { «open» = more_in a t.«open» }

abbrev pub closed_in : Option (Which × List AccessControlEntry) → DraftParts → DraftParts
closed_in None t = t
closed_in (Some o) t = with_acl o.0 (acl.List o.1) (record t { «open» = None })

-- the open ACL is closed
abbrev pub closed : DraftParts → DraftParts
closed t = closed_in t.«open» t

-- 2. The parts, and the order of the calls.

-- the parts, and those of them that stand in the buffer, in the order of the calls: a null ACL has no bytes, and one
-- that is open does not count yet
pub record Draft : Type 0 where
  pub parts : DraftParts
  pub order : List Part

abbrev pub nothing_given : Draft
nothing_given = record { parts = no_parts; order = [] }

abbrev pub with_owner_or_group : SidPart → SecurityId → Draft → Draft
with_owner_or_group p s t = record { parts = with_sid p s t.parts; order = t.order ++ sid_part_of p ∷ [] }

abbrev pub with_owner : SecurityId → Draft → Draft
with_owner s t = with_owner_or_group sids.Owner s t

abbrev pub with_group : SecurityId → Draft → Draft
with_group s t = with_owner_or_group sids.Group s t

abbrev pub ended_in : Option (Which × List AccessControlEntry) → Draft → Draft
ended_in None t = t
ended_in (Some o) t = record { parts = closed t.parts; order = t.order ++ part_of o.0 ∷ [] }

-- the open ACL is closed, and stands behind the others
abbrev pub ended : Draft → Draft
ended t = ended_in t.parts.«open» t

-- 3. The descriptor that is finished.

-- an ACL is present, null or not
abbrev pub is_present : AclPart → Bool
is_present acl.Absent = false
is_present acl.Null = true
is_present (acl.List aces) = true

-- the parts under a control word and a resource manager byte
abbrev pub built : ℕ → ℕ → DraftParts → Descriptor
built flags rm t = record {
  control = control_of flags (is_present t.sacl) (is_present t.dacl);
  rm = rm;
  owner = t.owner;
  group = t.group;
  sacl = t.sacl;
  dacl = t.dacl;
}

-- 4. Its bytes: the header, and the parts in the order of the calls.

abbrev pub part_bytes : DraftParts → Part → List ℕ
part_bytes t part.Owner = sid_part t.owner
part_bytes t part.Group = sid_part t.group
part_bytes t part.Sacl = acl_part t.sacl
part_bytes t part.Dacl = acl_part t.dacl

-- where a part begins among parts that stand one after the other from there on, and 0 where it is none of them
abbrev pub offset_among : ℕ → DraftParts → List Part → Part → ℕ
offset_among start t [] p = 0
offset_among start t (q ∷ qs) p =
    if same_part p q then start else offset_among (start + length (part_bytes t q)) t qs p

-- the first one stands behind the 20 bytes of the header
abbrev pub offset_of : Draft → Part → ℕ
offset_of t p = offset_among 20 t.parts t.order p

abbrev pub bytes_in_order : Draft → List ℕ
bytes_in_order t = flat_map (part_bytes t.parts) t.order

abbrev pub built_bytes : ℕ → ℕ → Draft → List ℕ
built_bytes flags rm t =
    header_bytes rm (control_of flags (is_present t.parts.sacl) (is_present t.parts.dacl)) (record {
      owner = offset_of t part.Owner;
      group = offset_of t part.Group;
      sacl = offset_of t part.Sacl;
      dacl = offset_of t part.Dacl;
    })
    ++ bytes_in_order t
