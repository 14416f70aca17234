use Rattle.std.proofs.Common.{sym, ◌∙◌, refl}
use Rattle.sd_sddl_fields.specs.FieldTexts.{kind_reads}
use Rattle.sd_sddl_builder.specs.FoldedReading.{take_ace_field}
use Rattle.sd_sddl_builder.proofs.FieldLaws.{holds-ace, sound-flags, sound-inherited, sound-kind, sound-mask}
use Rattle.sd_sddl_builder.proofs.FieldLaws.{sound-object}
use Rattle.sd_sddl_builder.proofs.reading.FieldReader.take_ace_field.Goals as goal

pub returns-in-Some-clause-read : goal.returns-in-Some-clause-read
unfolding take_ace_field kind_reads
returns-in-Some-clause-read c = λ t h. (
  _,
  holds-ace _ _ _ h _ (rw (c.no_fields-self.ensures) (sound-kind c.in-Some.kind)),
  rw (c.in-Kind.is, ← c.from_text.ensures.exact, c.in-Some.is, c.no_fields-self.ensures) refl,
)

pub returns-in_default-clause-read : goal.returns-in_default-clause-read
unfolding take_ace_field kind_reads
returns-in_default-clause-read c = λ t h.
    rw (c.in-Kind.is, ← c.from_text.ensures.exact, c.in_default.is) refl

pub returns-in-Some-flags_from_text-clause-read : goal.returns-in-Some-flags_from_text-clause-read
unfolding take_ace_field
returns-in-Some-flags_from_text-clause-read c = λ t h. (
  _,
  holds-ace _ _ _ h _ (rw (h.ace) (sound-flags t.ace _ h.sound c.in-Some-flags_from_text.ensures.clear)),
  rw (c.in-Flags.is, ← c.flags_from_text.ensures.exact, c.in-Some-flags_from_text.is, h.ace) refl,
)

pub returns-in-Some-rights_from_text-clause-read : goal.returns-in-Some-rights_from_text-clause-read
unfolding take_ace_field
returns-in-Some-rights_from_text-clause-read c = λ t h. (
  _,
  holds-ace _ _ _ h _ (rw (h.ace) (sound-mask t.ace _ h.sound)),
  rw (c.in-Rights.is, ← c.rights_from_text.ensures, c.in-Some-rights_from_text.is, h.ace) refl,
)

pub returns-in-Some-object_from_text-clause-read : goal.returns-in-Some-object_from_text-clause-read
unfolding take_ace_field
returns-in-Some-object_from_text-clause-read c = λ t h.
    let read = sym c.object_from_text.ensures ∙ c.in-Some-object_from_text.is in (
      _,
      holds-ace _ _ _ h _ (rw (h.ace) (sound-object t.ace _ _ h.sound (rw (h.ace) at read))),
      rw (c.in-Object.is, (rw (h.ace) at read), h.ace) refl,
    )

pub returns-in-Some-object_from_text-2-clause-read : goal.returns-in-Some-object_from_text-2-clause-read
unfolding take_ace_field
returns-in-Some-object_from_text-2-clause-read c = λ t h.
    let read = sym c.object_from_text-in-Inherited.ensures ∙ c.in-Some-object_from_text-2.is in (
      _,
      holds-ace _ _ _ h _ (rw (h.ace) (sound-inherited t.ace _ _ h.sound (rw (h.ace) at read))),
      rw (c.in-Inherited.is, (rw (h.ace) at read), h.ace) refl,
    )
