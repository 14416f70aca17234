use Rattle.std.proofs.Common.{◌≡◌, ◌-◌, ◌+◌, take, drop, arith}
use Rattle.sd_run.proofs.LineCutLemmas.{NoLfBelow, NoLfBelow-more, length-part}
use Rattle.sd_run.proofs.feed.pass_blocks.Goals as goal

pub loop-start-preserved : goal.loop-start-preserved
loop-start-preserved c =
    let bytes = c.args.bytes.now in
    let start = c.loop-start.start in
    let m = start + 128 - start in
    let part = length-part bytes start m (omega arith) in
    let block : NoLfBelow (take m (drop start bytes)) 128 = λ k low. c.has_lf.ensures.none c.if-not-has_lf.true k
    (omega (arith, part)) in
    record {
      within = omega arith;
      before = NoLfBelow-more bytes start m 128 (omega arith) c.loop-start.invariant.before block;
    }

pub returns-else-not-has_lf-clause-ended : goal.returns-else-not-has_lf-clause-ended
returns-else-not-has_lf-clause-ended c =
    λ room.
    let m : c.loop-start.start + 128 - c.loop-start.start ≡ 128 = omega arith in
    rw m at (c.has_lf.ensures.some c.if-not-has_lf.false)
