use Rattle.std.proofs.Common.{true, sym, inl, inr, ◌∙◌}
use Rattle.sd_text.specs.Chains.{unless}
use Rattle.sd_sddl_reader.proofs.Steps.{close_outside, colon, unsound}
use Rattle.sd_sddl_reader.proofs.FitLaws.{keeps-same}
use Rattle.sd_sddl_reader.proofs.reader.SddlReader.put_outside.Goals as goal

pub returns-in-40-clause-answers : goal.returns-in-40-clause-answers
returns-in-40-clause-answers c = λ t k.
    let e = c.begin_ace.ensures.answers t k in
    (e.0, e.1, λ rest none. rw (c.in-40.is) (e.2 rest))

pub returns-in-41-clause-answers : goal.returns-in-41-clause-answers
returns-in-41-clause-answers c = λ t k. (
  t,
  record { fields = k.fields; fits = k.fits },
  λ rest none.
      let s = c.args.self.now in
      unsound s.fields.domain true s.twice s.seen (unless s.fault t) s.field rest s.state
      ∙ elim c.in-41.is [
        | inl e ↦ rw e (sym (close_outside s.fields.domain s.sound s.twice s.seen (unless s.fault t) s.field rest
            s.state c.requires.here))
        | inr e ↦ rw e (sym (colon s.fields.domain s.sound s.twice s.seen (unless s.fault t) s.field rest s.state
            c.requires.here))
      ],
)

pub returns-in_default-clause-answers : goal.returns-in_default-clause-answers
returns-in_default-clause-answers c = λ t k. (
  t,
  keeps-same c.args.self.now c.put_text.new.self _ _ c.args.buf.now t c.put_text.ensures.same k,
  λ rest none. c.put_text.ensures.answers t rest none,
)
