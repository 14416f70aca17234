use Rattle.std.proofs.Common.{◌≡◌, ℕ, List, [], refl, ap, ◌∙◌, ◌++◌}
use Rattle.std.specs.Prelude.{Option}
use Rattle.sd_sid.specs.Sid.{SecurityId}
use Rattle.sd_sddl_builder.specs.Meaning.{means}
use Rattle.sd_sddl_builder.specs.FoldedReading.{FieldsRead, finished, folded, reads_as}
use Rattle.std.specs.Option.{option_to_list}
use Rattle.sd_sddl_reader.specs.Inner.Reads.{LineHasRead, Reads, answer_at}
use Rattle.sd_sddl_reader.proofs.FieldTexts.{append_nothing}
use Rattle.sd_sddl_reader.proofs.FitLaws.{keeps-same}
use Rattle.sd_sddl_builder.proofs.laws.FoldedMeaning.{folded-means}
use Rattle.sd_sddl_reader.proofs.reader.SddlReader.end.Goals.{in-Some, in_default}
use Rattle.sd_sddl_reader.proofs.reader.SddlReader.end.Goals as goal

-- what the last step starts from, and what it gives
record AtEnd (c : goal.After-finish_alone) (domain : Option SecurityId) (text : List ℕ) (t : FieldsRead) : Type 0 where
  kept : LineHasRead c.match-self.self c.args.buf.now t
  meant : finished (answer_at c.match-self.self t []) ≡ means text domain

at-end : (c : goal.After-finish_alone) (domain : Option SecurityId) (text : List ℕ)
    (h : Reads c.args.self.now c.args.buf.now domain text) → AtEnd c domain text h.0
unfolding folded
at-end c domain text h =
    let s = c.args.self.now in
    let whole : answer_at s h.0 (option_to_list s.pending ++ []) ≡ reads_as domain text =
    h.2 [] ∙ ap (reads_as domain) (append_nothing text) in
    let flushed : answer_at c.match-self.self h.0 [] ≡ reads_as domain text = elim c.match-self.branch [
      | in-Some w ↦ rw (w.self-is) (w.put_text.ensures.answers h.0 [] refl ∙ (rw (w.in-Some.is) at whole))
      | in_default w ↦ rw (w.self-is) (rw (w.in_default.is) at whole)
    ] in
    let kept : LineHasRead c.match-self.self c.args.buf.now h.0 = elim c.match-self.branch [
      | in-Some w ↦ rw (w.self-is) (keeps-same s w.put_text.new.self _ _ c.args.buf.now h.0 w.put_text.ensures.same h.1)
      | in_default w ↦ rw (w.self-is) h.1
    ] in
    record { kept = kept; meant = ap finished flushed ∙ folded-means text domain }

pub returns-clause-exact : goal.returns-clause-exact
returns-clause-exact c = λ domain text h.
    let e = at-end c domain text h in
    rw (e.meant) at (c.finish_alone.ensures.exact h.0 e.kept)

pub returns-clause-written : goal.returns-clause-written
returns-clause-written c = λ domain text h.
    let e = at-end c domain text h in
    rw (e.meant) at (c.finish_alone.ensures.written h.0 e.kept)
