use Rattle.std.proofs.Common.{◌||◌, Bool, ap, refl}
use Rattle.sd_command.specs.Preparing.{settled}
use Rattle.sd_call_run.proofs.BatchLemmas.{batched-cut, sofar-more, sofar-none}
use Rattle.sd_call_run.proofs.batch.answer_lines.Goals as goal

pub loop-first-init : goal.loop-first-init
loop-first-init c = record {
  sofar = rw c.requires (sofar-none (settled c.args.prepared.now) c.args.input.now _ _ refl refl);
  settled = refl;
  all = refl;
}

pub returns-in_default-answer-clause-batched : goal.returns-in_default-answer-clause-batched
returns-in_default-answer-clause-batched c =
    let old = c.args.cells.now in
    let mid = c.loop-first.cells in
    let new = c.answer.new.sink in
    batched-cut (settled c.args.prepared.now) (settled c.loop-first.prepared) c.loop-first.invariant.settled
    c.args.input.now old.cells.ghost_name old.cells.now old.failures mid.cells.ghost_name mid.cells.now mid.held
    mid.failures new.cells.ghost_name new.cells.now new.held new.failures c.loop-first.left.now c.in-Some.first.rest.now
    c.in-Some.first.line.now c.loop-first.batch _ c.loop-first.invariant.sofar c.in-Some.ensures.cut
    c.in_default-answer.ensures.put refl refl refl

pub loop-first-preserved : goal.loop-first-preserved
loop-first-preserved c =
    let old = c.args.cells.now in
    let new = c.answer.new.sink in
    let put = c.in-Ok.ensures.put in
    record {
      sofar = sofar-more (settled c.args.prepared.now) (settled c.loop-first.prepared) c.loop-first.invariant.settled
          c.args.input.now old.cells.ghost_name old.cells.now old.failures _ new.cells.ghost_name new.cells.now new.held
          new.failures c.loop-first.left.now c.in-Some.first.rest.now c.in-Some.first.line.now c.loop-first.batch _
          c.loop-first.invariant.sofar c.in-Some.ensures.cut put.0 c.count.ensures
          (ap (λ (b : Bool). c.loop-first.batch.faulty || b) put.1);
      settled = rw (c.answer.ensures.task, c.answer.ensures.holder) c.loop-first.invariant.settled;
      all = c.loop-first.invariant.all;
    }
