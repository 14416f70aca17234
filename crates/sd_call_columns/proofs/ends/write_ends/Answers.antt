use Rattle.std.proofs.Common.{◌∙◌, ◌+◌, length, arith}
use Rattle.std.proofs.lemmas.List.{drop-set-lt, length-set}
use Rattle.sd_call_columns.proofs.AnswerLemmas.{ends_more, lengths_more, lengths_most}
use Rattle.sd_call_columns.proofs.ends.write_ends.Goals as goal

pub overflow_add-at : goal.overflow_add-at
overflow_add-at c =
    let more = lengths_more c.args.outcomes.now c.loop-i.i c.index-outcomes-i.result c.loop-i-test.true in
    let most = lengths_most c.args.outcomes.now (c.loop-i.i + 1) in
    omega (arith, more, most, c.loop-i.invariant.at, c.requires.fits)

pub overflow_cast-offsets-in-loop-i : goal.overflow_cast-offsets-in-loop-i
overflow_cast-offsets-in-loop-i c =
    let more = lengths_more c.args.outcomes.now c.loop-i.i c.index-outcomes-i.result c.loop-i-test.true in
    let most = lengths_most c.args.outcomes.now (c.loop-i.i + 1) in
    omega (arith, more, most, c.loop-i.invariant.at, c.requires.fits)

pub loop-i-preserved : goal.loop-i-preserved
loop-i-preserved c =
    let l = c.loop-i in
    let more = lengths_more c.args.outcomes.now l.i c.index-outcomes-i.result c.loop-i-test.true in
    record {
      at = omega (arith, more, l.invariant.at);
      ends = ends_more c.args.begin c.args.outcomes.now l.offsets l.i _
          (omega (arith, c.loop-i-test.true, c.requires.room, length-set c.args.offsets.now 0 c.args.begin))
          l.invariant.ends (omega (arith, more, l.invariant.at));
      rest = drop-set-lt (length c.args.outcomes.now + 1) l.offsets (l.i + 1) _ (omega (arith, c.loop-i-test.true))
          ∙ l.invariant.rest;
    }
