use Rattle.sd_run.proofs.AfterBytesLemmas.{Answered-line, lines-empty, lines-last}
use Rattle.sd_run.proofs.feed.finish.Goals as goal

pub returns-then-is_untouched : goal.returns-then-is_untouched
returns-then-is_untouched g c = record {
  finished = λ token0 sink0 got h.
      rw (lines-empty got ((c.is_untouched.ensures _ _ h.holds).0 c.if-is_untouched.true)) h.answered;
}

pub returns : goal.returns
returns g c = record {
  finished = λ token0 sink0 got h.
      rw (lines-last got ((c.is_untouched.ensures _ _ h.holds).1 c.if-is_untouched.false))
      (c.answer_line.ensures.answered token0 sink0 _ _ (c.settle.ensures.text _ _ h.holds) (Answered-line h.answered));
}
