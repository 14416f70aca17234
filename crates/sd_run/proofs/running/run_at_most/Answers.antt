use Rattle.std.proofs.Common.{rules, ◌≡◌, ◌≤◌, length, take, refl, ◌∙◌, arith}
use Rattle.std.proofs.lemmas.List.{length-take}
use Rattle.std.proofs.lemmas.Result.{err_from_is_err_and}
use Rattle.sd_run.specs.Told.{sink_of}
use Rattle.sd_run.proofs.RunLemmas.{BeforeRead-start, BeforeRead-more, broken-read, finished, broken-close}
use Rattle.sd_run.proofs.RunLemmas.{broken-write, broken-most, read_some}
use Rattle.sd_answer.proofs.laws.ShortAnswers.{answers-short}
use Rattle.sd_run.proofs.running.run_at_most.Goals as goal

pub loop-turn-init : goal.loop-turn-init
loop-turn-init g c = record {
  before = BeforeRead-start _ _ _ c.start.ensures.empty refl refl;
  size = search rules;
  ready = c.start.ensures.ready;
  lines_within = omega arith;
  faults_within = omega arith;
  same = c.new-task.ensures.task ∙ c.engine.view_is;
  short = answers-short _ _ (rw (c.new-task.ensures.task ∙ c.engine.view_is) at c.new-task.ensures.limits);
}

pub loop-turn-preserved : goal.loop-turn-preserved
loop-turn-preserved g c =
    let r = c.loop-turn.invariant.before in
    let n = c.in_ok-n.n in
    let buf = c.read_piece.new.buf in
    let fed = c.in_ok-answer_piece.ensures.fed c.args.token.now (sink_of (g.W.Drain.told c.args.drain.now)) r.got
    r.after in
    let size : length (take n buf) ≤ 8192 = simp length-take
    (omega (arith, c.loop-turn.invariant.size, c.read_piece.auto.buf)) in
    record {
      before = BeforeRead-more _ c.args.most c.loop-turn.turn _ _ _ r (omega arith) (take n buf) _ _
          c.answer_piece.ensures.bytes (read_some _ _ buf n (search rules) c.in_ok-n.ensures.read) fed
          (c.in_ok-answer_piece.ensures.handed_on refl);
      size = c.read_piece.auto.buf ∙ c.loop-turn.invariant.size;
      ready = c.in_ok-answer_piece.ensures.ready refl;
      lines_within = omega (arith, c.answer_piece.ensures.rose);
      faults_within = omega (arith, c.answer_piece.ensures.rose);
      same = c.loop-turn.invariant.same;
      short = c.loop-turn.invariant.short;
    }

pub returns-in_err-n-clause-outcome : goal.returns-in_err-n-clause-outcome
returns-in_err-n-clause-outcome g c =
    let p = err_from_is_err_and c.from_residual.result c.from_residual.ensures.1 in
    rw (p.1, p.2, c.in_err-n.ensures.read.0, ← c.loop-turn.invariant.same)
    (broken-read _ c.args.most c.loop-turn.turn _ _ _ c.loop-turn.invariant.before (omega arith) _ refl refl
    c.in_err-n.ensures.read.1)

pub returns-then-n-eq0-clause-outcome : goal.returns-then-n-eq0-clause-outcome
returns-then-n-eq0-clause-outcome g c =
    let r = c.loop-turn.invariant.before in
    let closed = c.in_ok-close.ensures.closed c.args.token.now (sink_of (g.W.Drain.told c.args.drain.now)) r.got
    r.after in
    rw (← c.loop-turn.invariant.same)
    (finished _ c.args.most c.loop-turn.turn _ _ _ r (omega arith) _ _ (rw c.if-n-eq0.true at c.in_ok-n.ensures.read)
    closed (c.in_ok-close.ensures.flushed refl))

pub returns-in_err-close-clause-outcome : goal.returns-in_err-close-clause-outcome
returns-in_err-close-clause-outcome g c =
    let r = c.loop-turn.invariant.before in
    let p = err_from_is_err_and c.from_residual-in_err-close.result c.from_residual-in_err-close.ensures.1 in
    let closed = c.in_err-close.ensures.closed c.args.token.now (sink_of (g.W.Drain.told c.args.drain.now)) r.got
    r.after in
    rw (p.1, p.2, ← c.loop-turn.invariant.same)
    (broken-close _ c.args.most c.loop-turn.turn _ _ _ r (omega arith) _ _
    (rw c.if-n-eq0.true at c.in_ok-n.ensures.read) closed)

pub returns-in_err-answer_piece-clause-outcome : goal.returns-in_err-answer_piece-clause-outcome
returns-in_err-answer_piece-clause-outcome g c =
    let r = c.loop-turn.invariant.before in
    let n = c.in_ok-n.n in
    let buf = c.read_piece.new.buf in
    let exit = c.from_residual-in_err-answer_piece in
    let p = err_from_is_err_and exit.result exit.ensures.1 in
    let fed = c.in_err-answer_piece.ensures.fed c.args.token.now (sink_of (g.W.Drain.told c.args.drain.now)) r.got
    r.after in
    let size : length (take n buf) ≤ 8192 = simp length-take
    (omega (arith, c.loop-turn.invariant.size, c.read_piece.auto.buf)) in
    rw (p.1, p.2, ← c.loop-turn.invariant.same)
    (broken-write _ c.args.most c.loop-turn.turn _ _ _ r (omega arith) (take n buf) _ _ c.answer_piece.ensures.bytes
    size (read_some _ _ buf n (search rules) c.in_ok-n.ensures.read) fed)

pub returns-clause-outcome : goal.returns-clause-outcome
returns-clause-outcome g c =
    let e : c.loop-turn.turn ≡ c.args.most = omega arith in
    rw (← c.loop-turn.invariant.same) (broken-most _ _ _ _ _ (rw e at c.loop-turn.invariant.before))

pub returns-then-n-eq0-clause-holder : goal.returns-then-n-eq0-clause-holder
returns-then-n-eq0-clause-holder g c =
    let r = c.loop-turn.invariant.before in
    (c.in_ok-close.ensures.closed c.args.token.now (sink_of (g.W.Drain.told c.args.drain.now)) r.got
    r.after).same_holder

pub returns-in_err-close-clause-holder : goal.returns-in_err-close-clause-holder
returns-in_err-close-clause-holder g c =
    let r = c.loop-turn.invariant.before in
    (c.in_err-close.ensures.closed c.args.token.now (sink_of (g.W.Drain.told c.args.drain.now)) r.got
    r.after).same_holder

pub returns-in_err-answer_piece-clause-holder : goal.returns-in_err-answer_piece-clause-holder
returns-in_err-answer_piece-clause-holder g c =
    let r = c.loop-turn.invariant.before in
    (c.in_err-answer_piece.ensures.fed c.args.token.now (sink_of (g.W.Drain.told c.args.drain.now)) r.got
    r.after).same_holder
