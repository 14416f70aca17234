-- What a reader of fields holds, after one field more.
use Rattle.std.proofs.Common.{◌≡◌, ℕ, ◌/◌, ◌%◌, List, [], ◌∷◌, Option, Some, None, Bool, true, false, refl, sym, ap}
use Rattle.std.proofs.Common.{◌∙◌}
use Rattle.std.specs.Prelude.{◌&&◌, Ok}
use Rattle.std.specs.Option.{option_map}
use Rattle.sd_ace.specs.Ace.{AccessControlEntry, GuidsFit}
use Rattle.sd_ace.specs.AceHead.{IsPlainHead, PlainHead}
use Rattle.sd_kinds.specs.Kinds.{is_object}
use Rattle.sd_kinds.specs.declared.kinds.AceKind.{AceKind}
use Rattle.sd_builder.specs.Draft.{DraftParts, built, closed}
use Rattle.sd_builder.specs.declared.builder.Builder.{Builder}
use Rattle.sd_sddl_builder.specs.FoldedReading.{FieldsRead, begun_or_null, described, finished, no_fields}
use Rattle.sd_sddl_builder.specs.FoldedReading.{plain_fields, take_front, with_flags}
use Rattle.sd_sddl_builder.specs.declared.kept.KeptDomains.{KeptDomains}
use Rattle.sd_sddl_fields.specs.FieldTexts.{object_reads}
use Rattle.sd_sddl_builder.specs.Meaning.{control_flags, unless_large}
use Rattle.sd_sddl_builder.specs.FieldReading.{AreAceFields, BuildsParts, HasReadFields}
use Rattle.sd_parts.specs.declared.control.AclFlags.{AclFlags}
use Rattle.sd_ace.specs.declared.ace_parts.AceFields.{AceFields}
use Rattle.sd_sddl_fields.specs.declared.field_texts.AclFront.{AclFront}
use Rattle.sd_parts.specs.declared.part.Which.{Which}
use Rattle.sd_sddl_builder.specs.declared.reading.FieldReader.{FieldReader}

module _ (r : FieldReader) (buf : List ℕ) (t : FieldsRead) (h : HasReadFields r buf t) where
  pub holds-sacl : (f : AclFlags) → HasReadFields (record r { sacl = f }) buf (record t { sacl = f })
  holds-sacl f = record {
    sacl = refl;
    dacl = h.dacl;
    ace = h.ace;
    large = h.large;
    sound = h.sound;
    builds = h.builds;
    open_acl = h.open_acl;
  }

  pub holds-dacl : (f : AclFlags) → HasReadFields (record r { dacl = f }) buf (record t { dacl = f })
  holds-dacl f = record {
    sacl = h.sacl;
    dacl = refl;
    ace = h.ace;
    large = h.large;
    sound = h.sound;
    builds = h.builds;
    open_acl = h.open_acl;
  }

  pub holds-ace : (a : AceFields) → AreAceFields a → HasReadFields (record r { ace = a }) buf (record t { ace = a })
  holds-ace a sound = record {
    sacl = h.sacl;
    dacl = h.dacl;
    ace = refl;
    large = h.large;
    sound = sound;
    builds = h.builds;
    open_acl = h.open_acl;
  }

  -- the domains that are kept are no part of what was read
  pub holds-kept : (d : KeptDomains) → HasReadFields (record r { kept = d }) buf t
  holds-kept d = record {
    sacl = h.sacl;
    dacl = h.dacl;
    ace = h.ace;
    large = h.large;
    sound = h.sound;
    builds = h.builds;
    open_acl = h.open_acl;
  }

-- what a reader of fields ends with, where no ACL is too large
pub finished-none : (t : FieldsRead) (flags : ℕ) → t.large ≡ None → flags ≡ control_flags t.sacl t.dacl
    → finished (Ok t) ≡ Ok (built flags 0 (closed t.parts))
unfolding finished
finished-none t flags none same =
    ap (λ (large : Option Which). unless_large large (described t)) none
    ∙ ap (λ (n : ℕ). Ok (built n 0 (closed t.parts))) (sym same)

-- parts more, in whatever order
pub holds-parts : (r : FieldReader) (buf buf' : List ℕ) (b' : Builder) (t : FieldsRead) (u : DraftParts)
    → HasReadFields r buf t → u.«open» ≡ t.parts.«open»
    → (BuildsParts r.builder buf t.parts → BuildsParts b' buf' u)
    → HasReadFields (record r { builder = b' }) buf' (record t { parts = u })
holds-parts r buf buf' b' t u h same step = record {
  sacl = h.sacl;
  dacl = h.dacl;
  ace = h.ace;
  large = h.large;
  sound = h.sound;
  builds = λ e. step (h.builds e);
  open_acl = λ e. h.open_acl e
      ∙ ap (λ (o : Option (Which × List AccessControlEntry)). option_map (λ p. p.0) o) (sym same);
}

pub sound-kind : (kind : AceKind) → AreAceFields (record no_fields { kind = kind })
sound-kind kind = record { clear = refl; fit = none (is_object kind) }
  where
    none : (o : Bool) → GuidsFit o None None
    none true = tt
    none false = tt

pub sound-flags : (f : AceFields) (flags : ℕ) → AreAceFields f → flags / 0x20 % 2 ≡ 0
    → AreAceFields (record f { flags = flags })
sound-flags f flags s clear = record { clear = clear; fit = s.fit }

pub sound-mask : (f : AceFields) (mask : ℕ) → AreAceFields f → AreAceFields (record f { mask = mask })
sound-mask f mask s = record { clear = s.clear; fit = s.fit }

pub head-sound : (h : PlainHead) → IsPlainHead h → AreAceFields (plain_fields h)
head-sound h limits = sound-mask _ h.mask (sound-flags _ h.flags (sound-kind h.kind) limits.clear)

-- a GUID stands in object kinds alone
guid_stands : (kind : AceKind) (text : List ℕ) (g : List ℕ) → object_reads kind text ≡ Some (Some g)
    → is_object kind ≡ true
unfolding object_reads
guid_stands kind [] g e = absurd cc
guid_stands kind (b ∷ bs) g e = by_kind (is_object kind) refl
  where
    by_kind : (o : Bool) → is_object kind ≡ o → is_object kind ≡ true
    by_kind true f = f
    by_kind false f = absurd (let e' : None ≡ Some (Some g) = (rw f at e) in cc)

any_fits : (o : Bool) (x y : Option (List ℕ)) → o ≡ true → GuidsFit o x y
any_fits true x y e = tt
any_fits false x y e = absurd cc

pub sound-object : (f : AceFields) (text : List ℕ) (object : Option (List ℕ)) → AreAceFields f
    → object_reads f.kind text ≡ Some object → AreAceFields (record f { object = object })
sound-object f text object s e = record { clear = s.clear; fit = by_object object e }
  where
    without : (o : Bool) (x y : Option (List ℕ)) → GuidsFit o x y → GuidsFit o None y
    without true x y fit = tt
    without false None None fit = tt
    without false None (Some g) fit = absurd fit
    without false (Some g) y fit = absurd fit

    by_object : (x : Option (List ℕ)) → object_reads f.kind text ≡ Some x → GuidsFit (is_object f.kind) x f.inherited
    by_object None e = without (is_object f.kind) f.object f.inherited s.fit
    by_object (Some g) e = any_fits (is_object f.kind) (Some g) f.inherited (guid_stands f.kind text g e)

pub sound-inherited : (f : AceFields) (text : List ℕ) (object : Option (List ℕ)) → AreAceFields f
    → object_reads f.kind text ≡ Some object → AreAceFields (record f { inherited = object })
sound-inherited f text object s e = record { clear = s.clear; fit = by_object object e }
  where
    without : (o : Bool) (x y : Option (List ℕ)) → GuidsFit o x y → GuidsFit o x None
    without true x y fit = tt
    without false None None fit = tt
    without false None (Some g) fit = tt
    without false (Some g) y fit = absurd fit

    by_object : (x : Option (List ℕ)) → object_reads f.kind text ≡ Some x → GuidsFit (is_object f.kind) f.object x
    by_object None e = without (is_object f.kind) f.object f.inherited s.fit
    by_object (Some g) e = any_fits (is_object f.kind) f.object (Some g) (guid_stands f.kind text g e)

-- an ACL begins
pub front-taken : (w : Which) (has_aces : Bool) (t : FieldsRead) (f : AclFront) (found : Option AclFront)
    → found ≡ Some f → (f.null && has_aces) ≡ false → take_front w has_aces t found ≡ Ok
    (with_flags w f.flags (record t { parts = begun_or_null w f.null (closed t.parts) }))
unfolding take_front
front-taken w has_aces t f found is e = rw (is, e) refl
