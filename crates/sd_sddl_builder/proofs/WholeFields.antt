-- An ACE that stands whole at the front of a text: its fields, and what they read as.
use Rattle.std.proofs.Common.{◌≡◌, ℕ, List, Ok, Some, refl}
use Rattle.std.specs.Prelude.{Option}
use Rattle.sd_sid.specs.Sid.{SecurityId}
use Rattle.sd_sid.specs.SidText.{sid_reads}
use Rattle.sd_kinds.specs.Flags.{flags_reads}
use Rattle.sd_rights.specs.Rights.{rights_reads}
use Rattle.sd_sddl_fields.specs.FieldTexts.{kind_reads}
use Rattle.sd_ace.specs.declared.ace_parts.AceFields.{AceFields}
use Rattle.sd_sddl_builder.specs.declared.reading.FieldReader.{FieldReader}
use Rattle.sd_sddl_builder.specs.FoldedReading.{FieldsRead, take_ace_field, take_field, with_trustee}
use Rattle.sd_sddl_builder.specs.FieldReading.{AreAceFields}
use Rattle.sd_sddl_builder.specs.Inner.AceEnds.{EndsAce}
use Rattle.sd_sddl_builder.specs.WholeAce.{AceTexts, AreWhole, TakesAce, ace_before, with_texts}
use Rattle.sd_sddl_fields.specs.FieldFronts.{FieldAt, ObjectsAt}
use Rattle.sd_sddl_builder.proofs.FieldLaws.{sound-inherited, sound-object}
use Rattle.sd_sddl_builder.proofs.laws.WholeTexts.{whole-readable}

-- the fields of an ACE before its SID, which read as these
pub record FieldsAt (text : List ℕ) (f : AceFields) (rest : List ℕ) : Type 0 where
  pub kind_rest : List ℕ
  pub flags_rest : List ℕ
  pub rights_rest : List ℕ
  pub kind : FieldAt (λ t. kind_reads t ≡ Some f.kind) 59 text kind_rest
  pub flags : FieldAt (λ t. flags_reads t ≡ Some f.flags) 59 kind_rest flags_rest
  pub rights : FieldAt (λ t. rights_reads t ≡ Some f.mask) 59 flags_rest rights_rest
  pub objects : ObjectsAt f.kind f.object f.inherited rights_rest rest

-- the same and its SID
pub record AceAt (domain : Option SecurityId) (text : List ℕ) (f : AceFields) (s : SecurityId) (rest : List ℕ)
    : Type 0 where
  pub before : List ℕ
  pub fields : FieldsAt text f before
  pub sid : FieldAt (λ t. sid_reads t domain ≡ Ok s) 41 before rest

module _ (dm : Option SecurityId) (text rest : List ℕ) (f : AceFields) (s : SecurityId)
    (h : AceAt dm text f s rest) where
  texts_at : AceTexts
  texts_at = record {
    kind = h.fields.kind.field;
    flags = h.fields.flags.field;
    rights = h.fields.rights.field;
    object = h.fields.objects.first.field;
    inherited = h.fields.objects.second.field;
    sid = h.sid.field;
  }

  whole_at : AreWhole texts_at
  unfolding texts_at
  whole_at = record {
    kind = h.fields.kind.whole;
    flags = h.fields.flags.whole;
    rights = h.fields.rights.whole;
    object = h.fields.objects.first.whole;
    inherited = h.fields.objects.second.whole;
    sid = h.sid.whole;
  }

  stands_at : text ≡ ace_before texts_at rest
  unfolding texts_at
  stands_at =
      rw (
        ← h.sid.stands,
        ← h.fields.objects.second.stands,
        ← h.fields.objects.first.stands,
        ← h.fields.rights.stands,
        ← h.fields.flags.stands,
      )
      (h.fields.kind.stands)

  taken_at : (t : FieldsRead) → with_texts dm texts_at (Ok t) ≡ Ok (with_trustee (record t { ace = f }) s)
  unfolding take_field take_ace_field texts_at
  taken_at t =
      rw (
        whole-readable _ h.fields.kind.whole.plain h.fields.kind.whole.fits,
        h.fields.kind.reads,
        whole-readable _ h.fields.flags.whole.plain h.fields.flags.whole.fits,
        h.fields.flags.reads,
        whole-readable _ h.fields.rights.whole.plain h.fields.rights.whole.fits,
        h.fields.rights.reads,
        whole-readable _ h.fields.objects.first.whole.plain h.fields.objects.first.whole.fits,
        h.fields.objects.first.reads,
        whole-readable _ h.fields.objects.second.whole.plain h.fields.objects.second.whole.fits,
        h.fields.objects.second.reads,
        whole-readable _ h.sid.whole.plain h.sid.whole.fits,
        h.sid.reads,
      )
      refl

-- what ends the ACE of these fields took all of it
pub takes-ace : (old new : FieldReader) (buf buf' text between rest : List ℕ) (f : AceFields) → FieldsAt text f between
    → EndsAce old buf f between new buf' rest → TakesAce old buf text new buf' rest
takes-ace old new buf buf' text between rest f h e =
    let a : AceAt old.domain text f e.trustee rest = record { before = between; fields = h; sid = e.sid } in (
      texts_at old.domain text rest f e.trustee a,
      whole_at old.domain text rest f e.trustee a,
      stands_at old.domain text rest f e.trustee a,
      λ t k. (
        with_trustee (record t { ace = f }) e.trustee,
        e.held t k,
        taken_at old.domain text rest f e.trustee a t,
      ),
    )

-- object types that read are those of an ACE of the kind
pub sound-objects : (f : AceFields) (object inherited : Option (List ℕ)) (text rest : List ℕ) → AreAceFields f
    → ObjectsAt f.kind object inherited text rest → AreAceFields (record f { object = object; inherited = inherited })
sound-objects f object inherited text rest sound h =
    sound-inherited (record f { object = object }) h.second.field inherited
    (sound-object f h.first.field object sound h.first.reads)
    h.second.reads
