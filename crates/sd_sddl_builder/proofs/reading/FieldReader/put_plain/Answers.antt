use Rattle.std.proofs.Common.{◌≡◌, sym, None, ◌∙◌, refl, true≢false}
use Rattle.sd_ace.specs.AceHead.{plain_ace}
use Rattle.sd_builder.specs.Draft.{Draft}
use Rattle.sd_builder.specs.Trustee.{trustee_sid}
use Rattle.sd_sddl_builder.specs.FieldReading.{AreAceFields}
use Rattle.sd_sddl_builder.specs.FoldedReading.{FieldsRead, plain_fields}
use Rattle.sd_sddl_builder.specs.declared.reading.FieldReader.{FieldReader}
use Rattle.sd_sddl_builder.proofs.FieldLaws.{head-sound, holds-ace}
use Rattle.sd_sddl_builder.proofs.TrusteeLaws.{holds-large, holds-more, none-is, open-too}
use Rattle.sd_sddl_builder.proofs.reading.FieldReader.put_plain.Goals as goal

pub returns-in-Err-clause-held : goal.returns-in-Err-clause-held
returns-in-Err-clause-held c = λ t h.
    let fields = plain_fields c.args.head in
    let sound : AreAceFields fields = head-sound c.args.head c.kind.ensures.limits in
    let r : FieldReader = record c.args.self.now { ace = fields } in
    let u : FieldsRead = record t { ace = fields } in
    let k = holds-ace _ _ _ h fields sound in
    let none : r.large ≡ None = none-is r.large (sym c.is_some.ensures ∙ c.if-is_some.false) in
    let held = c.requires.held in
    let first = holds-ace _ _ _ held.1 fields sound in
    let o = open-too r c.args.buf.now (record held.0 { ace = fields }) u first k none held.2 in
    let s = trustee_sid c.args.trustee in
    let built = k.builds (sym k.large ∙ none) in
    let given : Draft = record { parts = t.parts; order = built.0 } in
    rw (c.no_fields.ensures, c.kind.ensures.value, c.flags.ensures, c.mask.ensures)
    (holds-large r c.args.buf.now c.plain_ace.new.buf c.plain_ace.new.self u s (plain_ace c.args.head s) k none refl o
    ((c.in-Err.ensures.full given built.1).0 refl))

pub returns-in_default-clause-held : goal.returns-in_default-clause-held
returns-in_default-clause-held c = λ t h.
    let fields = plain_fields c.args.head in
    let sound : AreAceFields fields = head-sound c.args.head c.kind.ensures.limits in
    let r : FieldReader = record c.args.self.now { ace = fields } in
    let u : FieldsRead = record t { ace = fields } in
    let k = holds-ace _ _ _ h fields sound in
    let none : r.large ≡ None = none-is r.large (sym c.is_some.ensures ∙ c.if-is_some.false) in
    let held = c.requires.held in
    let first = holds-ace _ _ _ held.1 fields sound in
    let o = open-too r c.args.buf.now (record held.0 { ace = fields }) u first k none held.2 in
    let s = trustee_sid c.args.trustee in
    let built = k.builds (sym k.large ∙ none) in
    let given : Draft = record { parts = t.parts; order = built.0 } in
    rw (c.no_fields.ensures, c.kind.ensures.value, c.flags.ensures, c.mask.ensures)
    (holds-more r c.args.buf.now c.plain_ace.new.buf c.plain_ace.new.self u s (plain_ace c.args.head s) k none refl o
    (λ large. absurd (true≢false (sym ((c.in_default.ensures.full given built.1).1 large))))
    (built.0, c.in_default.ensures.ok given built.1))
