use Rattle.std.proofs.Common.{◌≡◌, ◌≤◌, ◌<◌, ◌+◌, ◌-◌, ◌∙◌, Ok, [], ℕ, length, drop, get_or, take, ap, arith}
use Rattle.sd_call.specs.Columns.{numbers}
use Rattle.sd_call.specs.Outcomes.{done}
use Rattle.sd_call_columns.specs.Answered.{answers_by, end_of}
use Rattle.sd_call_columns.proofs.AnswerLemmas.{all_told, bytes_more, end_more, fitted, joined_more, not_fitted}
use Rattle.sd_call_columns.proofs.AnswerLemmas.{outcome_more, room_is, some_told, within_more}
use Rattle.sd_call_columns.proofs.laws.RowLaws.{answer_at, answer_count}
use Rattle.sd_call_columns.proofs.answers.give_rows.Goals as goal

pub returns-then-size-room-clause-ending : goal.returns-then-size-room-clause-ending
returns-then-size-room-clause-ending g c =
    let l = c.loop-i in
    let r = c.args.rows.now in
    let offsets = numbers r.column.offsets in
    let answer = g.A.AnswersRows.answer c.args.answerer.now in
    let given = answers_by answer r.column.data.now offsets in
    let less : l.i + 1 < length offsets = omega (arith, c.loop-i-test.true, c.row_count-count.ensures) in
    let count = answer_count answer r.column.data.now offsets (omega (arith, less)) in
    let is = answer_at answer r.column.data.now offsets l.i less in
    let long = room_is l.at l.out in
    let n = not_fitted (get_or given l.i (Ok [])) (take (length l.out - l.at) (drop l.at l.out))
    c.give_row-outcome.new.output c.give_row-outcome.result
    (rw is (rw l.invariant.same at c.give_row-outcome.ensures.answers))
    (omega (arith, long, c.if-size-room.true)) in
    some_told given r.begin (length c.args.out.now) l.i c.stopped.result c.give_row-outcome.result.length
    (omega (arith, less, count)) (omega (arith, l.invariant.at, l.invariant.within, c.if-size-room.true, l.auto.out))
    n c.stopped.ensures

pub loop-i-preserved : goal.loop-i-preserved
loop-i-preserved g c =
    let l = c.loop-i in
    let r = c.args.rows.now in
    let offsets = numbers r.column.offsets in
    let answer = g.A.AnswersRows.answer c.args.answerer.now in
    let given = answers_by answer r.column.data.now offsets in
    let less : l.i + 1 < length offsets = omega (arith, c.loop-i-test.true, c.row_count-count.ensures) in
    let count = answer_count answer r.column.data.now offsets (omega (arith, less)) in
    let in_list : l.i < length given = omega (arith, less, count) in
    let is = answer_at answer r.column.data.now offsets l.i less in
    let long = room_is l.at l.out in
    let row = fitted (get_or given l.i (Ok [])) (take (length l.out - l.at) (drop l.at l.out))
    c.give_row-outcome.new.output c.give_row-outcome.result
    (rw is (rw l.invariant.same at c.give_row-outcome.ensures.answers))
    (omega (arith, long, c.if-size-room.false)) in
    let more = end_more given r.begin l.i in_list in
    let part : c.give_row-outcome.result.length ≤ length c.give_row-outcome.new.output =
    omega (arith, long, c.if-size-room.false, c.give_row-outcome.auto.output) in
    record {
      same = c.give_row-outcome.ensures.same ∙ l.invariant.same;
      at = omega (arith, more, row.size, l.invariant.at);
      within = within_more l.at c.give_row-outcome.result.length (length l.out - l.at) l.out
          c.give_row-outcome.new.output l.invariant.within part;
      bytes = bytes_more l.at c.give_row-outcome.result.length (length l.out - l.at) l.out
          c.give_row-outcome.new.output _ _ l.invariant.within part l.invariant.bytes row.bytes
          ∙ joined_more (take r.begin c.args.out.now) given l.i in_list;
      outcomes = outcome_more given _ l.outcomes l.i _ in_list
          (omega (arith, c.loop-i-test.true, c.row_count-count.ensures, c.requires.room)) l.invariant.outcomes
          row.is;
    }

pub returns-clause-ending : goal.returns-clause-ending
returns-clause-ending g c =
    let l = c.loop-i in
    let r = c.args.rows.now in
    let offsets = numbers r.column.offsets in
    let answer = g.A.AnswersRows.answer c.args.answerer.now in
    let count = answer_count answer r.column.data.now offsets c.requires.some in
    let given = answers_by answer r.column.data.now offsets in
    let all : l.i ≡ c.row_count-count.result = omega (arith, c.loop-i-test.false, l.auto.i-end) in
    all_told given r.begin (length c.args.out.now) c.row_count-count.result c.done.result
    (omega (arith, count, c.row_count-count.ensures))
    (c.done.ensures ∙ ap done l.invariant.at ∙ ap (λ (k : ℕ). done (end_of r.begin (take k given))) all)
