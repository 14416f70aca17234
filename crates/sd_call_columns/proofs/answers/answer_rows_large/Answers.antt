use Rattle.std.proofs.Common.{arith}
use Rattle.sd_call.specs.Columns.{numbers}
use Rattle.sd_call_columns.proofs.AnswerLemmas.{ends_told, front_told}
use Rattle.sd_call_columns.proofs.laws.RowLaws.{answer_count}
use Rattle.sd_call_columns.proofs.answers.answer_rows_large.Goals as goal

pub write_large_ends-requires-clause-room : goal.write_large_ends-requires-clause-room
write_large_ends-requires-clause-room g c =
    let rows = c.args.rows.now in
    let held = c.give_rows-ending.ensures.held in
    let told = front_told _ _ _ _ _ _ _ held in
    let count = answer_count (g.A.AnswersRows.answer c.args.answerer.now) rows.column.data.now
    (numbers rows.column.offsets) c.requires.some in
    omega (arith, told.size, held.few, count, c.requires.offsets)

pub write_large_ends-requires-clause-fits : goal.write_large_ends-requires-clause-fits
write_large_ends-requires-clause-fits g c =
    let held = c.give_rows-ending.ensures.held in
    let told = front_told _ _ _ _ _ _ _ held in
    omega (arith, told.end, held.within, c.requires.fits)

pub returns : goal.returns
returns g c =
    let ending = c.give_rows-ending in (
      ending.result.count,
      record {
        holds = ending.ensures.held;
        offsets = ends_told _ _ _ _ _ _ _ _ _ ending.ensures.held c.write_large_ends.ensures.ends
            c.write_large_ends.ensures.rest;
        ending = ending.ensures.ending;
      },
    )
