use Rattle.std.proofs.Common.{◌≡◌, ◌∷◌, sym, ◌∙◌, arith, Some, None}
use Rattle.std.proofs.lemmas.Bool.Decides.{nat_tests}
use Rattle.sd_sddl_builder.proofs.laws.Heads.{no_head, no-colon}
use Rattle.sd_sddl_reader.proofs.FitLaws.{keeps-same}
use Rattle.sd_sddl_reader.proofs.reader.SddlReader.feed_after.Goals.{in_default-via-in-Some+else-byte-eq58}
use Rattle.sd_sddl_reader.proofs.reader.SddlReader.feed_after.Goals.{in_default-via-in_default}
use Rattle.sd_sddl_reader.proofs.reader.SddlReader.feed_after.Goals as goal

pub returns-in-Some-clause-answers : goal.returns-in-Some-clause-answers
returns-in-Some-clause-answers c = λ t k.
    let e = c.begin_part.ensures.answers t (record { fields = k.fields; fits = k.fits }) in
    (e.0, e.1, λ rest. rw (c.begin_part.ensures.pending, c.if-byte-eq58.true) (e.2 rest))

pub returns-in-Some-clause-reader : goal.returns-in-Some-clause-reader
returns-in-Some-clause-reader c =
    let k = c.requires.ready.held.1 in
    let e = c.begin_part.ensures.answers c.requires.ready.held.0 (record { fields = k.fields; fits = k.fits }) in
    record {
      calm = c.begin_part.ensures.calm;
      still = λ _. c.begin_part.ensures.pending;
      letter = λ b is. absurd (let no : None ≡ Some b = sym c.begin_part.ensures.pending ∙ is in cc);
      read = e.0;
      held = e.1;
    }

pub returns-in_default-clause-answers : goal.returns-in_default-clause-answers
returns-in_default-clause-answers c = λ t k.
    let kept = keeps-same (record c.args.self.now { pending = None }) c.put_text.new.self _ _ c.args.buf.now t
    c.put_text.ensures.same (record { fields = k.fields; fits = k.fits }) in
    let e = c.feed_alone.ensures.answers t kept in (
      e.0,
      e.1,
      λ rest.
          e.2 rest ∙ c.put_text.ensures.answers t (c.args.byte ∷ rest) (elim c.in_default.branch [
            | in_default-via-in-Some+else-byte-eq58 w ↦ no-colon c.args.byte rest _
                (let n = w.if-byte-eq58.false in grind (arith, nat_tests))
            | in_default-via-in_default w ↦ no_head _ _ (sym c.head_of.ensures ∙ w.in_default.is)
          ]),
    )
