use Rattle.std.proofs.Common.{◌≡◌, ◌≤◌, ◌*◌, length}
use Rattle.sd_run.specs.Inner.Running.{BeforeRead}
use Rattle.sd_answer.specs.Answer.{AnswersAreShort}
use Rattle.sd_answer.specs.LineInHand.{IsReady}
use Rattle.sd_run.proofs.running.run_at_most.Given as goal

abbrev pub invariant-loop-turn : goal.invariant-loop-turn
invariant-loop-turn g l = record {
  before : BeforeRead l.task l.turn (record {
    token = l.fn.token;
    source = g.R.Source.told l.fn.source;
    drain = g.W.Drain.told l.fn.drain;
  }) l.state (record {
    token = l.token;
    source = g.R.Source.told l.source;
    drain = g.W.Drain.told l.drain;
  });
  size : length l.buf ≡ 8192;
  ready : IsReady l.state.line;
  lines_within : l.state.report.lines ≤ 8192 * l.turn;
  faults_within : l.state.report.faults ≤ 8192 * l.turn;
  same : l.task ≡ l.fn.engine;
  short : AnswersAreShort l.fn.engine l.fn.token.holder;
}
