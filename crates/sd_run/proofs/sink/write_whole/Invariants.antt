use Rattle.std.proofs.Common.{◌≡◌, ◌≤◌, ◌-◌, length, take}
use Rattle.std.specs.Io.KnownBytes.{Appends}
use Rattle.sd_run.proofs.sink.write_whole.Given as goal

abbrev pub invariant-loop-at : goal.invariant-loop-at
invariant-loop-at g l = record {
  within : l.at ≤ length l.bytes;
  appended : Appends (g.W.Drain.told l.fn.drain).taken (g.W.Drain.told l.drain).taken (take l.at l.bytes);
  no_failure : (g.W.Drain.told l.drain).failures ≡ (g.W.Drain.told l.fn.drain).failures;
}

abbrev pub decreases-loop-at : goal.decreases-loop-at
decreases-loop-at g l = length l.bytes - l.at
