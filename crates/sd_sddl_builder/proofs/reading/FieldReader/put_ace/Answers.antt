use Rattle.std.proofs.Common.{◌≡◌, sym, None, ◌∙◌, refl, ap, true≢false}
use Rattle.sd_builder.specs.Draft.{Draft}
use Rattle.sd_sddl_builder.specs.FoldedReading.{ace_of_fields}
use Rattle.sd_sddl_builder.proofs.TrusteeLaws.{holds-large, holds-more, none-is, open-too}
use Rattle.sd_sddl_builder.proofs.reading.FieldReader.put_ace.Goals as goal

pub returns-in-Err-clause-held : goal.returns-in-Err-clause-held
returns-in-Err-clause-held c = λ t h.
    let r = c.args.self.now in
    let none : r.large ≡ None = none-is r.large (sym c.is_some.ensures ∙ c.if-is_some.false) in
    let o = open-too r c.args.buf.now c.requires.0 t c.requires.1 h none c.requires.2 in
    let is : c.new-ace.result ≡ ace_of_fields t.ace c.args.sid.now =
    c.new-ace.ensures ∙ ap (λ f. ace_of_fields f c.args.sid.now) h.ace in
    let built = h.builds (sym h.large ∙ none) in
    holds-large r c.args.buf.now c.ace_of.new.buf c.ace_of.new.self t c.args.sid.now c.new-ace.result h none is o
    ((c.in-Err.ensures.full (record { parts = t.parts; order = built.0 }) built.1).0 refl)

pub returns-in_default-clause-held : goal.returns-in_default-clause-held
returns-in_default-clause-held c = λ t h.
    let r = c.args.self.now in
    let none : r.large ≡ None = none-is r.large (sym c.is_some.ensures ∙ c.if-is_some.false) in
    let o = open-too r c.args.buf.now c.requires.0 t c.requires.1 h none c.requires.2 in
    let is : c.new-ace.result ≡ ace_of_fields t.ace c.args.sid.now =
    c.new-ace.ensures ∙ ap (λ f. ace_of_fields f c.args.sid.now) h.ace in
    let built = h.builds (sym h.large ∙ none) in
    let given : Draft = record { parts = t.parts; order = built.0 } in
    holds-more r c.args.buf.now c.ace_of.new.buf c.ace_of.new.self t c.args.sid.now c.new-ace.result h none is o
    (λ large. absurd (true≢false (sym ((c.in_default.ensures.full given built.1).1 large))))
    (built.0, c.in_default.ensures.ok given built.1)
