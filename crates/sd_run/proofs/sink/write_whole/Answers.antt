use Rattle.std.proofs.Common.{rules, ◌≡◌, ◌<◌, ◌≤◌, ◌-◌, length, take, drop, Ok, ◌∙◌, arith}
use Rattle.std.proofs.lemmas.List.{length-drop, take_rest}
use Rattle.std.proofs.lemmas.Result.{err_from_is_err_and}
use Rattle.sd_run.proofs.DrainLemmas.{PutSome-stopped, Appends-more, Appends-Keeps, failed-nothing, failed-some}
use Rattle.sd_run.proofs.sink.write_whole.Goals as goal

pub returns-then-n-eq0 : goal.returns-then-n-eq0
returns-then-n-eq0 g c =
    let some : 0 < length
    (take (length c.args.bytes.now - c.loop-at.at) (drop c.loop-at.at c.args.bytes.now)) = rw (take_rest
    c.args.bytes.now c.loop-at.at) (simp length-drop (omega arith)) in
    let z : c.in_ok-n.n ≡ 0 = search rules in
    let e : c.write.result ≡ Ok 0 = cc in
    PutSome-stopped (g.W.Drain.told c.args.drain.now) (g.W.Drain.told c.loop-at.drain) (g.W.Drain.told c.write.new.self)
    c.args.bytes.now c.loop-at.at c.loop-at.invariant.appended c.loop-at.invariant.no_failure
    (rw z at c.in_ok-n.ensures.bytes) (c.write.ensures.failures ∙ failed-nothing c.write.result _ _ e some)
    (omega arith)

pub loop-at-preserved : goal.loop-at-preserved
loop-at-preserved g c =
    let within : c.in_ok-n.n ≤ length
    c.args.bytes.now - c.loop-at.at = rw (
      take_rest c.args.bytes.now c.loop-at.at,
      length-drop,
    ) at c.in_ok-n.ensures.within in
    let some : 0 < c.in_ok-n.n = omega arith in
    record {
      within = omega arith;
      appended = Appends-more _ _ _ c.args.bytes.now c.loop-at.at c.in_ok-n.n c.loop-at.invariant.appended
          (rw (take_rest c.args.bytes.now c.loop-at.at) at c.in_ok-n.ensures.bytes);
      no_failure = c.write.ensures.failures ∙ failed-some c.write.result _ c.in_ok-n.n _ c.in_ok-n.was some
          ∙ c.loop-at.invariant.no_failure;
    }

pub returns-in_err-n : goal.returns-in_err-n
returns-in_err-n g c =
    let p = err_from_is_err_and c.from_residual.result c.from_residual.ensures.1 in
    rw p.1
    (PutSome-stopped (g.W.Drain.told c.args.drain.now) (g.W.Drain.told c.loop-at.drain)
    (g.W.Drain.told c.write.new.self) c.args.bytes.now c.loop-at.at c.loop-at.invariant.appended
    c.loop-at.invariant.no_failure (Appends-Keeps _ _ c.in_err-n.ensures.bytes) c.in_err-n.ensures.failures
    (omega arith))
