-- What a builder's buffer holds between its calls: the parts that are closed, at the offsets that the builder keeps,
-- and after them the ACL that is open.
use Rattle.std.specs.Prelude.{◌≡◌, ◌≤◌, ℕ, ◌+◌, List, [], length, drop, ◌++◌, Option, Some, None, unwrap_or}
use Rattle.std.specs.List.{flat_map}
use Rattle.sd_ace.specs.Ace.{AccessControlEntry}
use Rattle.sd_sid.specs.Sid.{SecurityId, IsSid, sid_bytes, sid_size}
use Rattle.sd_acl_view.specs.Acl.{IsAcl, acl_size, has_object}
use Rattle.sd_ace.specs.AceLayout.{ace_bytes}
use Rattle.sd_acl_view.specs.AclLayout.{acl_bytes}
use Rattle.sd_view.specs.Descriptor.{AreApart, Extent}
use Rattle.sd_builder.specs.Draft.{Draft, DraftParts, acl_for, bytes_in_order, offset_of}
use Rattle.sd_view.specs.declared.acl_part.AclPart.{AclPart}
use Rattle.sd_view.specs.declared.acl_part.AclPart.TheVariants as acl
use Rattle.sd_builder.specs.declared.builder.Builder.{Builder}
use Rattle.sd_builder.specs.declared.builder.OpenAcl.{OpenAcl}
use Rattle.sd_parts.specs.declared.part.Which.{Which}
use Rattle.sd_parts.specs.Parts.{get_part, set_part}
use Rattle.sd_parts.specs.declared.part.Part.{Part}
use Rattle.sd_parts.specs.declared.part.Parts.{Parts}
use Rattle.sd_parts.specs.declared.part.Part.TheVariants as part

-- a part's bytes at its offset, past the header
pub record Stands (bytes : List ℕ) (offset : ℕ) (part : List ℕ) : Type 0 where
  pub low : 20 ≤ offset
  pub inside : offset + length part ≤ length bytes
  pub rest : List ℕ
  pub shape : drop offset bytes ≡ part ++ rest

-- what is given of a part
pub data Given : Type 0 where
  nothing : Given
  null : Given
  sid : SecurityId → Given
  list : List AccessControlEntry → Given

abbrev pub given_sid : Option SecurityId → Given
given_sid None = nothing
given_sid (Some s) = sid s

abbrev pub given_acl : AclPart → Given
given_acl acl.Absent = nothing
given_acl acl.Null = null
given_acl (acl.List aces) = list aces

abbrev pub given : DraftParts → Part → Given
given t part.Owner = given_sid t.owner
given t part.Group = given_sid t.group
given t part.Sacl = given_acl t.sacl
given t part.Dacl = given_acl t.dacl

-- its bytes, and how many there are
abbrev pub given_bytes : Given → List ℕ
given_bytes nothing = []
given_bytes null = []
given_bytes (sid s) = sid_bytes s
given_bytes (list aces) = acl_bytes aces

abbrev pub given_size : Given → ℕ
given_size g = length (given_bytes g)

-- a part that is given stands at the offset that is kept of it, which is 0 where it is null
abbrev pub PartStands : List ℕ → Option ℕ → Given → Type 0
PartStands bytes None g = g ≡ nothing
PartStands bytes (Some offset) nothing = ⊥
PartStands bytes (Some offset) null = offset ≡ 0
PartStands bytes (Some offset) (sid s) = IsSid s × Stands bytes offset (sid_bytes s)
PartStands bytes (Some offset) (list aces) = IsAcl aces × Stands bytes offset (acl_bytes aces)

-- the offset of a part is kept
abbrev pub placed : Part → ℕ → Builder → Builder
placed p offset b = record b { offsets = set_part p (Some offset) b.offsets }

-- where a part stands that has bytes
abbrev pub extent_at : Option ℕ → Given → Extent
extent_at None g = None
extent_at (Some offset) nothing = None
extent_at (Some offset) null = None
extent_at (Some offset) (sid s) = Some (offset, offset + sid_size s)
extent_at (Some offset) (list aces) = Some (offset, offset + acl_size aces)

abbrev pub extents_kept : Builder → DraftParts → Parts Extent
extents_kept b t = record {
  owner = extent_at b.offsets.owner (given_sid t.owner);
  group = extent_at b.offsets.group (given_sid t.group);
  sacl = extent_at b.offsets.sacl (given_acl t.sacl);
  dacl = extent_at b.offsets.dacl (given_acl t.dacl);
}

-- the bytes of the header and of the parts
abbrev pub closed_size : DraftParts → ℕ
closed_size t =
    20 + given_size (given t part.Owner) + given_size (given t part.Group) + given_size (given t part.Sacl)
    + given_size (given t part.Dacl)

-- the parts that are closed, without gaps
pub record PartsStand (bytes : List ℕ) (b : Builder) (t : DraftParts) : Type 0 where
  pub each : (p : Part) → PartStands bytes (get_part p b.offsets) (given t p)
  pub apart : AreApart (extents_kept b t)
  pub size : length bytes ≡ closed_size t

-- they stand behind the header in the order of the calls, and the offsets that are kept are theirs
pub record StandsInOrder (bytes : List ℕ) (b : Builder) (t : Draft) : Type 0 where
  pub shape : drop 20 bytes ≡ bytes_in_order t
  pub offset : (p : Part) → unwrap_or (get_part p b.offsets) 0 ≡ offset_of t p

-- an open ACL after them: eight bytes for its header, and its ACEs so far
pub record OpenAt (closed tail : List ℕ) (o : OpenAcl) (w : Which) (aces : List AccessControlEntry) : Type 0 where
  pub list : o.which ≡ w
  pub start : o.start ≡ length closed
  pub count : o.count ≡ length aces
  pub object : o.object ≡ has_object aces
  pub limits : IsAcl aces
  pub front : List ℕ
  pub eight : length front ≡ 8
  pub shape : tail ≡ front ++ flat_map ace_bytes aces

abbrev pub OpenStands : List ℕ → List ℕ → Option OpenAcl → Option (Which × List AccessControlEntry) → Type 0
OpenStands closed tail None None = tail ≡ []
OpenStands closed tail None (Some u) = ⊥
OpenStands closed tail (Some o) None = ⊥
OpenStands closed tail (Some o) (Some u) = OpenAt closed tail o u.0 u.1

-- the ACL that is open is not given yet
abbrev pub OpenIsFree : Option (Which × List AccessControlEntry) → DraftParts → Type 0
OpenIsFree None t = Unit {0}
OpenIsFree (Some u) t = acl_for u.0 t ≡ acl.Absent

pub record Building (b : Builder) (bytes : List ℕ) (t : Draft) : Type 0 where
  pub closed : List ℕ
  pub tail : List ℕ
  pub shape : bytes ≡ closed ++ tail
  pub parts : PartsStand closed b t.parts
  pub order : StandsInOrder closed b t
  pub «open» : OpenStands closed tail b.open t.parts.«open»
  pub free : OpenIsFree t.parts.«open» t.parts
