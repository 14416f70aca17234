use Rattle.std.proofs.Common.{◌≡◌, length, true}
use Rattle.sd_command.specs.Preparing.{settled}
use Rattle.sd_call_run.specs.Inner.Batches.{Sofar}
use Rattle.sd_call_run.proofs.BatchLemmas.{told_of}
use Rattle.sd_call_run.proofs.batch.answer_lines.Given as goal

abbrev pub invariant-loop-first : goal.invariant-loop-first
invariant-loop-first l = record {
  sofar : Sofar (settled l.fn.prepared) l.input
      (told_of l.fn.cells.cells.ghost_name l.fn.cells.cells.now 0 l.fn.cells.failures)
      (told_of l.cells.cells.ghost_name l.cells.cells.now l.cells.held l.cells.failures) l.left l.batch;
  settled : settled l.prepared ≡ settled l.fn.prepared;
  all : l.batch.all ≡ true;
}

abbrev pub decreases-loop-first : goal.decreases-loop-first
decreases-loop-first l = length l.left
