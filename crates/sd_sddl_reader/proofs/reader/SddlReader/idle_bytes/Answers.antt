use Rattle.std.proofs.Common.{take, refl, sym, ◌∙◌}
use Rattle.sd_text.specs.Chains.{unless}
use Rattle.sd_sddl_reader.proofs.Steps.{outside_of}
use Rattle.sd_sddl_reader.proofs.Runs.{blanks-outside, idle-goes, ignored, lost-field, none-if}
use Rattle.sd_sddl_reader.proofs.reader.SddlReader.idle_bytes.Goals as goal

pub returns-then-is_lost-clause-read : goal.returns-then-is_lost-clause-read
returns-then-is_lost-clause-read c = λ buf domain before r h.
    let s = c.args.self.now in
    let bytes = take c.in_field.result c.args.text.now in
    idle-goes s bytes buf domain before (r.still (rw (c.in-Ace.is) refl))
    (λ t rest. rw (c.in-Ace.is)
    (lost-field s.fields.domain s.sound s.twice s.seen s.fault t c.in-Ace.«field-0» s.field bytes rest
    (sym c.is_lost.ensures ∙ c.if-is_lost.true) c.in_field.ensures.inside)) h

pub returns-then-ignores_blanks : goal.returns-then-ignores_blanks
returns-then-ignores_blanks c = record {
  within = c.blanks.ensures.within;
  read = λ buf domain before r h.
      let s = c.args.self.now in
      let bytes = take c.blanks.result c.args.text.now in
      idle-goes s bytes buf domain before (none-if _ _ c.if-is_none.true c.is_none.ensures)
      (λ t rest. blanks-outside s.fields.domain s.sound s.twice s.seen (unless s.fault t) s.state s.field bytes rest
      (outside_of s.state c.in_default.not-Ace) r.calm.held
      (ignored s.field (sym c.ignores_blanks.ensures ∙ c.if-ignores_blanks.true)) c.blanks.ensures.blank) h;
}
