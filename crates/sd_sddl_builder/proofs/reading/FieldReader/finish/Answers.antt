use Rattle.std.proofs.Common.{◌≡◌, Option, Some, None, refl, sym, ◌∙◌}
use Rattle.sd_view.specs.WrittenForm.{IsWritten}
use Rattle.sd_builder.specs.Draft.{Draft, built, closed}
use Rattle.sd_builder.proofs.laws.BuiltBytes.{builds-written}
use Rattle.sd_sddl_builder.specs.Meaning.{control_flags}
use Rattle.sd_sddl_builder.proofs.FieldLaws.{finished-none}
use Rattle.sd_sddl_builder.proofs.laws.FieldParts.{is-closed}
use Rattle.sd_sddl_builder.proofs.reading.FieldReader.finish.Goals as goal

no-some : {A : Type 0} (x : Option A) → ((y : A) → x ≡ Some y → ⊥) → x ≡ None
no-some None h = refl
no-some (Some y) h = absurd (h y refl)

pub returns : goal.returns
returns c = λ t h.
    let now = c.close_acl.ensures.held t h in
    let none : t.large ≡ None = sym h.large ∙ no-some c.args.self.now.large c.in_default.not-Some in
    let built_so = now.builds none in
    let given : Draft = record { parts = closed t.parts; order = built_so.0 } in
    let flags = c.control_flags-flags.result in
    let d = built flags 0 (closed t.parts) in
    let same : flags ≡ control_flags t.sacl t.dacl = c.control_flags-flags.ensures ∙ rw (now.sacl, now.dacl) refl in
    let whole = c.finish.ensures.exact given built_so.1 in
    let ended = (is-closed t.parts).none in
    let written : IsWritten c.finish.new.buf d =
    rw whole
    (builds-written c.close_acl.new.self.builder c.close_acl.new.buf given flags 0 built_so.1 ended) in
    (d, c.finish.ensures.shows given built_so.1, written, finished-none t flags none same)
