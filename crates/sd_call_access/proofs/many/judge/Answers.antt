use Rattle.std.proofs.Common.{◌<◌, ◌∙◌, Ok, [], length, arith}
use Rattle.sd_call_access.specs.Many.{given, judged_by}
use Rattle.sd_call_access.proofs.laws.Written.{written_more}
use Rattle.sd_call_access.proofs.ManyLemmas.{most_more}
use Rattle.sd_call_access.proofs.many.judge.Goals as goal

pub loop-i-preserved : goal.loop-i-preserved
loop-i-preserved c =
    let l = c.loop-i in
    let rows = given c.args.descriptors.now in
    let less : l.i < length rows = omega (arith, c.loop-i-test.true, c.count_of-i-end.ensures) in record {
      holder = c.judge_one.ensures.holder ∙ l.invariant.holder;
      written = written_more (judged_by c.args.token.now.holder c.args.ask.now) rows c.args.verdicts.now
          l.verdicts l.i (Ok []) c.judge_one.result less (omega (arith, less, c.requires))
          l.invariant.written
          (rw l.invariant.holder at c.judge_one.ensures.verdict);
      goes_on = omega (arith, c.judge_one.ensures.bound.goes_on, l.invariant.goes_on);
      at_most = most_more _ _ _ (Ok []) _ _ _ less l.invariant.at_most
          (rw l.invariant.holder at c.judge_one.ensures.bound.at_most);
    }
