use Rattle.std.proofs.lemmas.Result.{err_from_is_err_and}
use Rattle.sd_run.proofs.RunLemmas.{Failed-flush, lines-front}
use Rattle.sd_run.proofs.running.close.Goals as goal

pub returns-in_err-finish-clause-closed : goal.returns-in_err-finish-clause-closed
returns-in_err-finish-clause-closed g c = λ token0 sink0 got h.
    let p = err_from_is_err_and c.from_residual.result c.from_residual.ensures.1 in
    rw p.1 (c.in_err-finish.ensures.finished token0 sink0 got h)

pub returns-in_err-flush-clause-closed : goal.returns-in_err-flush-clause-closed
returns-in_err-flush-clause-closed g c = λ token0 sink0 got h.
    let p = err_from_is_err_and c.from_residual-in_err-flush.result c.from_residual-in_err-flush.ensures.1 in
    rw p.1
    (Failed-flush _ token0 sink0 _ _ _ _ (g.W.Drain.told c.finish.new.drain) (g.W.Drain.told c.flush.new.self)
    (c.in_ok-finish.ensures.finished token0 sink0 got h) c.in_err-flush.ensures.bytes c.in_err-flush.ensures.failures
    (lines-front got))
