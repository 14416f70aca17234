use Rattle.std.proofs.Common.{sym, ◌∙◌, refl}
use Rattle.std.proofs.lemmas.Result.{err_from_is_err_and}
use Rattle.sd_run.proofs.AfterBytesLemmas.{Answered-push, Failed-push, counted_true, counted_false}
use Rattle.sd_run.proofs.feed.answer_line.Goals as goal

pub returns-in_err-faulty-clause-answered : goal.returns-in_err-faulty-clause-answered
returns-in_err-faulty-clause-answered g c = λ token0 sink0 all line h after.
    let p = err_from_is_err_and c.from_residual.result c.from_residual.ensures.1 in
    rw p.1
    (Failed-push _ token0 sink0 all line _ _ after (c.in_err-faulty.ensures.put line h) c.write_answer.ensures.holder
    (c.write_answer.ensures.compared line h))

pub returns-then-faulty-clause-answered : goal.returns-then-faulty-clause-answered
returns-then-faulty-clause-answered g c = λ token0 sink0 all line h after.
    let put = c.in_ok-faulty.ensures.put line h in
    Answered-push _ token0 sink0 all line _ _ after put.0 c.write_answer.ensures.holder
    (c.write_answer.ensures.compared line h) refl (counted_true _ _ (sym put.1 ∙ c.if-faulty.true))

pub returns-else-faulty-clause-answered : goal.returns-else-faulty-clause-answered
returns-else-faulty-clause-answered g c = λ token0 sink0 all line h after.
    let put = c.in_ok-faulty.ensures.put line h in
    Answered-push _ token0 sink0 all line _ _ after put.0 c.write_answer.ensures.holder
    (c.write_answer.ensures.compared line h) refl (counted_false _ _ (sym put.1 ∙ c.if-faulty.false))
