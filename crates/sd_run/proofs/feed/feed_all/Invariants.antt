use Rattle.std.proofs.Common.{◌≡◌, ◌<◌, ◌≤◌, ◌-◌, ℕ, List, true, ◌++◌, length, take}
use Rattle.sd_token.specs.Token.{TokenShown}
use Rattle.sd_sink.specs.Sink.{SinkTold}
use Rattle.sd_answer.specs.LineInHand.{IsReady}
use Rattle.sd_run.specs.Inner.Running.{RoseWithin, AfterBytes}
use Rattle.sd_run.specs.Lines.{has_lf}
use Rattle.sd_run.specs.Told.{sink_of}
use Rattle.sd_run.proofs.feed.feed_all.Given as goal

abbrev pub invariant-loop-n : goal.invariant-loop-n
invariant-loop-n g l = record {
  within : l.start ≤ length l.piece;
  ready : IsReady l.state.line;
  after : (token0 : TokenShown) (sink0 : SinkTold) (got : List ℕ)
      → AfterBytes l.task token0 sink0 got
      (record { state = l.fn.state; token = l.fn.token; sink = sink_of (g.W.Drain.told l.fn.drain) })
      → AfterBytes l.task token0 sink0 (got ++ take l.start l.piece)
      (record { state = l.state; token = l.token; sink = sink_of (g.W.Drain.told l.drain) });
  found : 0 < l.start → has_lf l.piece ≡ true;
  quiet : l.start ≡ 0 → g.W.Drain.told l.drain ≡ g.W.Drain.told l.fn.drain;
  none_counted : l.start ≡ 0 → l.state.report.lines ≡ l.fn.state.report.lines;
  rose : RoseWithin l.start l.fn.state.report l.state.report;
}

abbrev pub decreases-loop-n : goal.decreases-loop-n
decreases-loop-n g l = length l.piece - l.start
