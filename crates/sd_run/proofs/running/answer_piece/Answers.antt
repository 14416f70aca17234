use Rattle.std.proofs.lemmas.Result.{err_from_is_err_and}
use Rattle.sd_run.proofs.LineCutLemmas.{ended-append}
use Rattle.sd_run.proofs.RunLemmas.{Failed-flush}
use Rattle.sd_run.proofs.running.answer_piece.Goals as goal

pub returns-in_err-a_line_ended-clause-fed : goal.returns-in_err-a_line_ended-clause-fed
returns-in_err-a_line_ended-clause-fed g c = λ token0 sink0 got h.
    let p = err_from_is_err_and c.from_residual.result c.from_residual.ensures.1 in
    rw p.1 (c.in_err-a_line_ended.ensures.fed token0 sink0 got h)

pub returns-in_err-flush-clause-fed : goal.returns-in_err-flush-clause-fed
returns-in_err-flush-clause-fed g c = λ token0 sink0 got h.
    let p = err_from_is_err_and c.from_residual-in_err-flush.result c.from_residual-in_err-flush.ensures.1 in
    rw p.1
    (Failed-flush _ token0 sink0 _ _ _ _ (g.W.Drain.told c.feed_all.new.drain) (g.W.Drain.told c.flush.new.self)
    (c.in_ok-a_line_ended.ensures.fed token0 sink0 got h).answered c.in_err-flush.ensures.bytes
    c.in_err-flush.ensures.failures (ended-append got c.args.piece.now))
