-- A descriptor that a line means keeps the limits of a descriptor's fields.
use Rattle.std.proofs.Common.{◌≡◌, ◌<◌, ℕ, ◌^◌, List, [], ◌∷◌, ◌++◌, Option, Some, None, IfSome, Result, Ok, Err, IfOk}
use Rattle.std.proofs.Common.{Bool, true, false, refl, subst, arith}
use Rattle.std.specs.Prelude.{◌&&◌, nat_lt, if◌then◌else◌}
use Rattle.std.specs.Option.{option_map, option_or}
use Rattle.std.proofs.lemmas.Bool.Decides.{nat_tests}
use Rattle.sd_acl_view.proofs.laws.AceLists.{all-more}
use Rattle.sd_ace.specs.Ace.{AccessControlEntry, IsAce, IsGuid}
use Rattle.sd_kinds.specs.Kinds.{is_object}
use Rattle.sd_kinds.specs.Flags.{flags_reads}
use Rattle.sd_ace.specs.GuidText.{guid_reads}
use Rattle.sd_rights.specs.Rights.{rights_reads}
use Rattle.sd_sid.specs.Sid.{IsSid, SecurityId}
use Rattle.sd_sid.specs.SidText.{sid_reads}
use Rattle.sd_kinds.specs.declared.kinds.AceKind.{AceKind}
use Rattle.sd_sid.specs.declared.sid_text.SidFault.{SidFault}
use Rattle.sd_rights.proofs.laws.ReadLimits.{flags-limits, rights-limit}
use Rattle.sd_sid.proofs.laws.ReadLimits.{sid-limits}
use Rattle.sd_ace.proofs.laws.GuidLimits.{guid-limits}
use Rattle.sd_acl_view.specs.Acl.{IsAcl, acl_size}
use Rattle.sd_view.specs.Descriptor.{Descriptor, IsAclPart, IsDescriptor}
use Rattle.sd_builder.specs.Draft.{DraftParts, closed, closed_in, is_present, more_in, with_acl}
use Rattle.sd_view.specs.declared.acl_part.AclPart.{AclPart}
use Rattle.sd_view.specs.declared.acl_part.AclPart.TheVariants as acl
use Rattle.sd_parts.specs.declared.part.Which.{Which}
use Rattle.sd_parts.specs.declared.part.Which.TheVariants as which
use Rattle.sd_sddl_builder.specs.FoldedReading.{Field, FieldsRead, ace_of_fields, begun_or_null, described, fault_of}
use Rattle.sd_sddl_builder.specs.FoldedReading.{fields_of, finished, folded, large_in, no_fields, nothing_read}
use Rattle.sd_sddl_builder.specs.FoldedReading.{read_fields, reads_as, take_ace_field, take_field, take_front}
use Rattle.sd_sddl_builder.specs.FoldedReading.{take_readable, if_shaped, with_flags, with_owner_or_group, with_sid}
use Rattle.sd_sddl_builder.specs.FoldedReading.{with_trustee, with_value}
use Rattle.sd_sddl_builder.specs.Line.{has_twice, is_shaped, sections_of}
use Rattle.sd_text.specs.Chains.{and_then}
use Rattle.sd_sddl_builder.specs.Meaning.{is_unreadable, means, unless_large}
use Rattle.sd_sddl_fields.specs.FieldTexts.{front_reads, kind_reads, object_reads}
use Rattle.sd_sddl_builder.specs.FieldReading.{AreAceFields}
use Rattle.sd_parts.specs.declared.control.AclFlags.{AclFlags}
use Rattle.sd_sddl_builder.specs.declared.fault.SddlFault.{SddlFault}
use Rattle.sd_sddl_builder.specs.declared.fault.SddlFault.TheVariants as fault
use Rattle.sd_sddl_builder.specs.declared.slot.AceField.{AceField}
use Rattle.sd_sddl_builder.specs.declared.slot.AceField.TheVariants as field
use Rattle.sd_parts.specs.declared.part.SidPart.{SidPart}
use Rattle.sd_parts.specs.declared.part.SidPart.TheVariants as sid_part
use Rattle.sd_sddl_builder.specs.declared.slot.Slot.{Slot}
use Rattle.sd_sddl_builder.specs.declared.slot.Slot.TheVariants as slot
use Rattle.sd_ace.specs.declared.ace_parts.AceFields.{AceFields}
use Rattle.sd_sddl_fields.specs.declared.field_texts.AclFront.{AclFront}
use Rattle.sd_parts.proofs.laws.ControlLaws.{control-bits}
use Rattle.sd_sddl_builder.proofs.laws.ControlFlags.{flags-small}
use Rattle.sd_sddl_builder.proofs.laws.FoldedMeaning.{folded-means}
use Rattle.sd_sddl_builder.proofs.FieldLaws.{sound-flags, sound-inherited, sound-kind, sound-mask, sound-object}

-- 1. What the fields so far keep.

-- the limits of the fields of an ACE
record AreFields (f : AceFields) : Type 0 where
  flags : f.flags < 256
  mask : f.mask < 2 ^ 32
  sound : AreAceFields f
  object : IfSome f.object IsGuid
  inherited : IfSome f.inherited IsGuid

-- the limits of an ACL that has a list
abbrev IsListed : AclPart → Type 0
IsListed acl.Absent = Unit {0}
IsListed acl.Null = Unit {0}
IsListed (acl.List aces) = IsAcl aces

-- an ACL that is open
abbrev IsOpened : Option (Which × List AccessControlEntry) → Type 0
IsOpened None = Unit {0}
IsOpened (Some o) = IsAcl o.1

record AreSids (t : DraftParts) : Type 0 where
  owner : IfSome t.owner IsSid
  group : IfSome t.group IsSid

record AreAcls (t : DraftParts) : Type 0 where
  sacl : IsListed t.sacl
  dacl : IsListed t.dacl
  opened : IsOpened t.«open»

-- as long as no ACL is too large, each one keeps its limits
record HasReadLimits (r : FieldsRead) : Type 0 where
  sids : AreSids r.parts
  ace : AreFields r.ace
  acls : r.large ≡ None → AreAcls r.parts

no_aces : IsAcl []
no_aces = record { each = tt; fits = omega arith }

-- 2. The parts.

sids-closed : (t : DraftParts) (o : Option (Which × List AccessControlEntry)) → AreSids t → AreSids (closed_in o t)
sids-closed t None h = h
sids-closed t (Some o) h = listed o.0
  where
    listed : (w : Which) → AreSids (with_acl w (acl.List o.1) (record t { «open» = None }))
    listed which.Sacl = record { owner = h.owner; group = h.group }
    listed which.Dacl = record { owner = h.owner; group = h.group }

acls-closed : (t : DraftParts) (o : Option (Which × List AccessControlEntry)) → AreAcls t → IsOpened o
    → AreAcls (closed_in o t)
acls-closed t None h k = h
acls-closed t (Some o) h k = listed o.0
  where
    listed : (w : Which) → AreAcls (with_acl w (acl.List o.1) (record t { «open» = None }))
    listed which.Sacl = record { sacl = k; dacl = h.dacl; opened = tt }
    listed which.Dacl = record { sacl = h.sacl; dacl = k; opened = tt }

closed-sids : (t : DraftParts) → AreSids t → AreSids (closed t)
closed-sids t h = sids-closed t t.«open» h

closed-acls : (t : DraftParts) → AreAcls t → AreAcls (closed t)
closed-acls t h = acls-closed t t.«open» h h.opened

sids-begun : (w : Which) (null : Bool) (t : DraftParts) → AreSids t → AreSids (begun_or_null w null t)
sids-begun which.Sacl true t h = record { owner = h.owner; group = h.group }
sids-begun which.Dacl true t h = record { owner = h.owner; group = h.group }
sids-begun w false t h = record { owner = h.owner; group = h.group }

acls-begun : (w : Which) (null : Bool) (t : DraftParts) → AreAcls t → AreAcls (begun_or_null w null t)
acls-begun which.Sacl true t h = record { sacl = tt; dacl = h.dacl; opened = h.opened }
acls-begun which.Dacl true t h = record { sacl = h.sacl; dacl = tt; opened = h.opened }
acls-begun w false t h = record { sacl = h.sacl; dacl = h.dacl; opened = no_aces }

-- 3. Steps.

owner_or_group-keeps : (p : SidPart) (r : FieldsRead) (s : SecurityId) → IsSid s → HasReadLimits r
    → HasReadLimits (with_owner_or_group p r s)
owner_or_group-keeps sid_part.Owner r s i h =
    let others = closed-sids r.parts h.sids in
    record {
      sids = record { owner = i; group = others.group };
      ace = h.ace;
      acls = λ e. let k = closed-acls r.parts (h.acls e) in record { sacl = k.sacl; dacl = k.dacl; opened = k.opened };
    }
owner_or_group-keeps sid_part.Group r s i h =
    let others = closed-sids r.parts h.sids in
    record {
      sids = record { owner = others.owner; group = i };
      ace = h.ace;
      acls = λ e. let k = closed-acls r.parts (h.acls e) in record { sacl = k.sacl; dacl = k.dacl; opened = k.opened };
    }

flags-keep : (w : Which) (f : AclFlags) (r : FieldsRead) → HasReadLimits r → HasReadLimits (with_flags w f r)
flags-keep which.Sacl f r h = record { sids = h.sids; ace = h.ace; acls = h.acls }
flags-keep which.Dacl f r h = record { sids = h.sids; ace = h.ace; acls = h.acls }

begun-keeps : (w : Which) (null : Bool) (r : FieldsRead) → HasReadLimits r
    → HasReadLimits (record r { parts = begun_or_null w null (closed r.parts) })
begun-keeps w null r h = record {
  sids = sids-begun w null (closed r.parts) (closed-sids r.parts h.sids);
  ace = h.ace;
  acls = λ e. acls-begun w null (closed r.parts) (closed-acls r.parts (h.acls e));
}

front-keeps : (w : Which) (has_aces : Bool) (r : FieldsRead) (o : Option AclFront) → HasReadLimits r
    → IfOk (take_front w has_aces r o) HasReadLimits
unfolding take_front
front-keeps w has_aces r None h = tt
front-keeps w has_aces r (Some f) h = by_test (f.null && has_aces)
  where
    by_test : (b : Bool) → IfOk
        (if b then Err fault.Flags else Ok
        (with_flags w f.flags (record r { parts = begun_or_null w f.null (closed r.parts) }))) HasReadLimits
    by_test true = tt
    by_test false = flags-keep w f.flags _ (begun-keeps w f.null r h)

is-ace : (f : AceFields) (s : SecurityId) → AreFields f → IsSid s → IsAce (ace_of_fields f s)
is-ace f s h i = record {
  flags = h.flags;
  clear = h.sound.clear;
  mask = h.mask;
  fit = h.sound.fit;
  object = h.object;
  inherited = h.inherited;
  sid = i;
}

neither : (x y : Option Which) → option_or x y ≡ None → (x ≡ None) × (y ≡ None)
neither None y e = (refl, e)
neither (Some w) y e = absurd cc

fits-still : (w : Which) (aces : List AccessControlEntry) → large_in (Some (w, aces)) ≡ None → acl_size aces < 2 ^ 16
fits-still w aces e = by_test (nat_lt 65535 (acl_size aces)) refl e
  where
    by_test : (b : Bool) → nat_lt 65535 (acl_size aces) ≡ b → (if b then Some w else None) ≡ None
        → acl_size aces < 2 ^ 16
    by_test true f g = absurd cc
    by_test false f g = grind (arith, nat_tests)

open-more : (a : AccessControlEntry) (o : Option (Which × List AccessControlEntry)) → IsAce a → IsOpened o
    → large_in (more_in a o) ≡ None → IsOpened (more_in a o)
open-more a None k h e = tt
open-more a (Some o) k h e = record { each = all-more o.1 a h.each k; fits = fits-still o.0 (o.1 ++ a ∷ []) e }

trustee-keeps : (r : FieldsRead) (s : SecurityId) → IsSid s → HasReadLimits r → HasReadLimits (with_trustee r s)
trustee-keeps r s i h = record {
  sids = record { owner = h.sids.owner; group = h.sids.group };
  ace = h.ace;
  acls = λ e.
      let parts = neither r.large (large_in (more_in (ace_of_fields r.ace s) r.parts.«open»)) e in
      let before = h.acls parts.0 in
      record {
        sacl = before.sacl;
        dacl = before.dacl;
        opened = open-more (ace_of_fields r.ace s) r.parts.«open»
            (is-ace r.ace s h.ace i) before.opened parts.1;
      };
}

ace-keeps : (f : AceFields) (r : FieldsRead) → AreFields f → HasReadLimits r → HasReadLimits (record r { ace = f })
ace-keeps f r k h = record { sids = h.sids; ace = k; acls = h.acls }

-- 4. The fields of an ACE.

kind-fields : (kind : AceKind) → AreFields (record no_fields { kind = kind })
kind-fields kind = record {
  flags = omega arith;
  mask = omega arith;
  sound = sound-kind kind;
  object = tt;
  inherited = tt;
}

flags-fields : (f : AceFields) (text : List ℕ) (flags : ℕ) → AreFields f → flags_reads text ≡ Some flags
    → AreFields (record f { flags = flags })
flags-fields f text flags h e =
    let limits = flags-limits text flags e in
    record {
      flags = limits.0;
      mask = h.mask;
      sound = sound-flags f flags h.sound limits.1;
      object = h.object;
      inherited = h.inherited;
    }

mask-fields : (f : AceFields) (text : List ℕ) (mask : ℕ) → AreFields f → rights_reads text ≡ Some mask
    → AreFields (record f { mask = mask })
mask-fields f text mask h e =
    record {
      flags = h.flags;
      mask = rights-limit text mask e;
      sound = sound-mask f mask h.sound;
      object = h.object;
      inherited = h.inherited;
    }

object-limits : (kind : AceKind) (text : List ℕ) → IfSome (object_reads kind text) (λ o. IfSome o IsGuid)
unfolding object_reads
object-limits kind [] = tt
object-limits kind (b ∷ bs) = by_kind (is_object kind)
  where
    guid : (o : Option (List ℕ)) → guid_reads (b ∷ bs) ≡ o → IfSome (option_map (λ g. Some g) o) (λ x. IfSome x IsGuid)
    guid None e = tt
    guid (Some g) e = guid-limits (b ∷ bs) g e

    by_kind : (o : Bool) → IfSome (if o then option_map (λ g. Some g) (guid_reads (b ∷ bs)) else None)
        (λ x. IfSome x IsGuid)
    by_kind true = guid (guid_reads (b ∷ bs)) refl
    by_kind false = tt

guid-read : (kind : AceKind) (text : List ℕ) (o : Option (List ℕ)) → object_reads kind text ≡ Some o → IfSome o IsGuid
guid-read kind text o e = subst (λ (x : Option (Option (List ℕ))). IfSome x (λ y. IfSome y IsGuid)) e
    (object-limits kind text)

object-fields : (f : AceFields) (text : List ℕ) (o : Option (List ℕ)) → AreFields f → object_reads f.kind text ≡ Some o
    → AreFields (record f { object = o })
object-fields f text o h e =
    record {
      flags = h.flags;
      mask = h.mask;
      sound = sound-object f text o h.sound e;
      object = guid-read f.kind text o
          e;
      inherited = h.inherited;
    }

inherited-fields : (f : AceFields) (text : List ℕ) (o : Option (List ℕ)) → AreFields f
    → object_reads f.kind text ≡ Some o → AreFields (record f { inherited = o })
inherited-fields f text o h e =
    record {
      flags = h.flags;
      mask = h.mask;
      sound = sound-inherited f text o h.sound e;
      object = h.object;
      inherited = guid-read f.kind text o e;
    }

-- 5. Each field keeps the limits.

value-keeps : {A : Type 0} (e : SddlFault) (with : A → FieldsRead) (o : Option A)
    → ((x : A) → o ≡ Some x → HasReadLimits (with x)) → IfOk (with_value e with o) HasReadLimits
value-keeps e with None h = tt
value-keeps e with (Some x) h = h x refl

sid-keeps : (with : SecurityId → FieldsRead) (x : Result SecurityId SidFault)
    → ((s : SecurityId) → x ≡ Ok s → HasReadLimits (with s)) → IfOk (with_sid with x) HasReadLimits
sid-keeps with (Ok s) h = h s refl
sid-keeps with (Err e) h = tt

module _ (domain : Option SecurityId) (is : IfSome domain IsSid) where
  ace_field-keeps : (r : FieldsRead) (f : AceField) (text : List ℕ) → HasReadLimits r
      → IfOk (take_ace_field domain r f text) HasReadLimits
  unfolding take_ace_field
  ace_field-keeps r field.Kind text h = value-keeps _ _ (kind_reads text) (λ kind e. ace-keeps _ r (kind-fields kind) h)
  ace_field-keeps r field.Flags text h = value-keeps _ _ (flags_reads text)
      (λ flags e. ace-keeps _ r (flags-fields r.ace text flags h.ace e) h)
  ace_field-keeps r field.Rights text h = value-keeps _ _ (rights_reads text)
      (λ mask e. ace-keeps _ r (mask-fields r.ace text mask h.ace e) h)
  ace_field-keeps r field.Object text h = value-keeps _ _ (object_reads r.ace.kind text)
      (λ o e. ace-keeps _ r (object-fields r.ace text o h.ace e) h)
  ace_field-keeps r field.Inherited text h = value-keeps _ _ (object_reads r.ace.kind text)
      (λ o e. ace-keeps _ r (inherited-fields r.ace text o h.ace e) h)
  ace_field-keeps r field.Sid text h = sid-keeps (with_trustee r) (sid_reads text domain)
      (λ s e. trustee-keeps r s (sid-limits text domain s is e) h)

  readable-keeps : (r : FieldsRead) (s : Slot) (text : List ℕ) → HasReadLimits r
      → IfOk (take_readable domain r s text) HasReadLimits
  readable-keeps r (slot.Sid p) text h =
      sid-keeps (with_owner_or_group p r) (sid_reads text domain)
      (λ s e. owner_or_group-keeps p r s (sid-limits text domain s is e) h)
  readable-keeps r (slot.AclFlags w has_aces) text h = front-keeps w has_aces r (front_reads text) h
  readable-keeps r (slot.Ace f) text h = ace_field-keeps r f text h

  field-keeps : (r : FieldsRead) (s : Slot) (text : List ℕ) → HasReadLimits r
      → IfOk (take_field domain r s text) HasReadLimits
  unfolding take_field
  field-keeps r s text h = by_test (is_unreadable text)
    where
      by_test : (b : Bool) → IfOk (if b then Err (fault_of s) else take_readable domain r s text) HasReadLimits
      by_test true = tt
      by_test false = readable-keeps r s text h

  fields-keep : (fs : List Field) (r : FieldsRead) → HasReadLimits r → IfOk (read_fields domain fs r) HasReadLimits
  fields-keep [] r h = h
  fields-keep (f ∷ fs) r h = by_first (take_field domain r f.slot f.text) (field-keeps r f.slot f.text h)
      (λ x k. fields-keep fs x k)
    where
      by_first : (t : Result FieldsRead SddlFault) → IfOk t HasReadLimits
          → ((x : FieldsRead) → HasReadLimits x → IfOk (read_fields domain fs x) HasReadLimits)
          → IfOk (and_then t (read_fields domain fs)) HasReadLimits
      by_first (Ok x) k more = more x k
      by_first (Err e) k more = tt

nothing-is : HasReadLimits nothing_read
nothing-is = record {
  sids = record { owner = tt; group = tt };
  ace = kind-fields _;
  acls = λ e. record { sacl = tt; dacl = tt; opened = tt };
}

-- 6. The descriptor.

part-limits : (present : Bool) (part : AclPart) → present ≡ is_present part → IsListed part → IsAclPart present part
part-limits present acl.Absent e h = e
part-limits present acl.Null e h = e
part-limits present (acl.List aces) e h = (e, h)

described-limits : (r : FieldsRead) → HasReadLimits r → r.large ≡ None → IsDescriptor (described r)
described-limits r h e =
    let t = closed r.parts in
    let sids = closed-sids r.parts h.sids in
    let acls = closed-acls r.parts (h.acls e) in
    let control = control-bits _ (is_present t.sacl) (is_present t.dacl) (flags-small r.sacl r.dacl) in
    record {
      control = control.small;
      relative = control.relative;
      rm = omega arith;
      owner = sids.owner;
      group = sids.group;
      sacl = part-limits _ t.sacl control.sacl acls.sacl;
      dacl = part-limits _ t.dacl control.dacl acls.dacl;
    }

finished-limits : (x : Result FieldsRead SddlFault) → IfOk x HasReadLimits → IfOk (finished x) IsDescriptor
unfolding finished
finished-limits (Err e) h = tt
finished-limits (Ok r) h = by_large r.large refl
  where
    by_large : (o : Option Which) → r.large ≡ o → IfOk (unless_large o (described r)) IsDescriptor
    by_large None e = described-limits r h e
    by_large (Some w) e = tt

if_shaped-keeps : (shaped twice : Bool) (read : Result FieldsRead SddlFault) → IfOk read HasReadLimits
    → IfOk (if_shaped shaped twice read) HasReadLimits
unfolding if_shaped
if_shaped-keeps true true read h = tt
if_shaped-keeps true false read h = h
if_shaped-keeps false twice read h = tt

folded-limits : (text : List ℕ) (domain : Option SecurityId) → IfSome domain IsSid
    → IfOk (folded text domain) IsDescriptor
unfolding folded reads_as
folded-limits text domain is =
    finished-limits _ (if_shaped-keeps (is_shaped text) (has_twice (sections_of text).parts) _
    (fields-keep domain is (fields_of (sections_of text).parts) nothing_read nothing-is))

-- what a line means under a SID of a domain, or none
pub line-limits : (text : List ℕ) (domain : Option SecurityId) → IfSome domain IsSid
    → IfOk (means text domain) IsDescriptor
line-limits text domain is =
    subst (λ (x : Result Descriptor SddlFault). IfOk x IsDescriptor) (folded-means text domain)
    (folded-limits text domain is)
