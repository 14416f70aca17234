-- What the code that copies has built so far. No definition of what is derived rests on it.
use Rattle.std.specs.Prelude.{◌<◌, ℕ, ◌+◌, ◌^◌, Bool, true, false, not, ◌&&◌, List, [], ◌∷◌, ◌++◌, Option, Some, None}
use Rattle.std.specs.List.{flat_map}
use Rattle.sd_ace.specs.Ace.{AccessControlEntry}
use Rattle.sd_builder.specs.Draft.{Draft, IsOpen, open_size, with_acl}
use Rattle.sd_parts.specs.Parts.{part_of}
use Rattle.sd_view.specs.declared.acl_part.AclPart.{AclPart}
use Rattle.sd_view.specs.declared.acl_part.AclPart.TheVariants as acl
use Rattle.sd_parts.specs.declared.control.AclFlags.{AclFlags}
use Rattle.sd_parts.specs.Control.{flag_bits}
use Rattle.sd_parts.specs.declared.part.Which.{Which}
use Rattle.sd_parts.specs.declared.part.Which.TheVariants.{Dacl, Sacl}
use Rattle.sd_view.specs.Descriptor.{Descriptor}
use Rattle.sd_inherit.specs.Derived.{gathered, inherited, is_protected}
use Rattle.sd_inherit.specs.Origins.{aces_in, gives}
use Rattle.sd_inherit.specs.Taken.{taken}
use Rattle.sd_inherit.specs.declared.copies.Copies.{Copies}
use Rattle.sd_inherit.specs.declared.inherited.AceSource.{AceSource}
use Rattle.sd_inherit.specs.declared.inherited.AclSources.{AclSources}
use Rattle.sd_inherit.specs.declared.origin.Giver.{Giver}
use Rattle.sd_inherit.specs.declared.origin.Giver.TheVariants as giver

-- at most one, as a list
abbrev pub one_or_none : Option AccessControlEntry → List AccessControlEntry
one_or_none None = []
one_or_none (Some a) = a ∷ []

-- the copies of an ACE, in order
abbrev pub listed : Copies → List AccessControlEntry
listed c = one_or_none c.first ++ one_or_none c.second

-- what all of these ACEs give
abbrev pub all_given : AceSource → List AccessControlEntry
all_given s = flat_map (gives s.giver s.plan.now) s.aces

abbrev pub source_acl : Giver → AclSources → AclPart
source_acl giver.Creator s = s.creators
source_acl giver.Parent s = s.parents

-- what the ACL of one descriptor gives
abbrev pub given : Giver → AclSources → List AccessControlEntry
given giver.Creator s = flat_map (taken s.plan.now) (aces_in s.creators)
given giver.Parent s = inherited s.plan.now s.parents

-- what the definition of the new ACL gathers from both
abbrev pub gathered_from : AclSources → List AccessControlEntry
gathered_from s = gathered s.plan.now s.creators s.parents

-- an ACL is open, and is no larger than an ACL may be
pub record HasOpen (t : Draft) : Type 0 where
  pub «open» : IsOpen t.parts
  pub fits : open_size t.parts < 2 ^ 16

abbrev pub more_aces : List AccessControlEntry → Option (Which × List AccessControlEntry)
    → Option (Which × List AccessControlEntry)
more_aces aces None = None
more_aces aces (Some o) = Some (o.0, o.1 ++ aces)

-- these ACEs more at the end of the open ACL
abbrev pub with_aces : List AccessControlEntry → Draft → Draft
with_aces aces t = record t { parts = record t.parts { «open» = more_aces aces t.parts.«open» } }

-- an ACL more, behind the other parts, unless it is absent; a null one has no bytes
abbrev pub with_part : Which → AclPart → Draft → Draft
with_part w acl.Absent t = t
with_part w acl.Null t = record t { parts = with_acl w acl.Null t.parts }
with_part w (acl.List aces) t =
    record { parts = with_acl w (acl.List aces) t.parts; order = t.order ++ part_of w ∷ [] }

-- the flags of an ACL that is protected or not, and that is a list or not
abbrev pub flags_beside : Bool → Bool → AclFlags
flags_beside protected list =
    record { protected = protected; auto_inherit_required = false; auto_inherited = list && not protected }

abbrev pub is_null : AclPart → Bool
is_null acl.Absent = false
is_null acl.Null = true
is_null (acl.List aces) = false

-- the bits of both ACLs' flags, where these ACLs are lists or not
abbrev pub bits_beside : Option Descriptor → Bool → Bool → ℕ
bits_beside creator sacl dacl =
    flag_bits Sacl (flags_beside (is_protected Sacl creator) sacl)
    + flag_bits Dacl (flags_beside (is_protected Dacl creator) dacl)
