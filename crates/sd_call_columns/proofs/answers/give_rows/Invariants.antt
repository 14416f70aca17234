use Rattle.std.proofs.Common.{◌≡◌, ◌≤◌, ◌++◌, drop, length, map, take}
use Rattle.std.specs.List.{flat_map}
use Rattle.sd_call.specs.Columns.{numbers}
use Rattle.sd_call_columns.specs.Answered.{answers_by, bytes_of, end_of, outcome_of}
use Rattle.sd_call_columns.proofs.answers.give_rows.Given as goal

abbrev pub invariant-loop-i : goal.invariant-loop-i
invariant-loop-i g l = record {
  same : g.A.AnswersRows.answer l.answerer ≡ g.A.AnswersRows.answer l.fn.answerer;
  at : l.at ≡ end_of l.rows.begin (take l.i (answers_by (g.A.AnswersRows.answer l.fn.answerer)
      l.rows.column.data.now (numbers l.rows.column.offsets)));
  within : l.at ≤ length l.out;
  bytes : take l.at l.out ≡ take l.rows.begin l.fn.out ++ flat_map bytes_of (take l.i (answers_by
      (g.A.AnswersRows.answer l.fn.answerer) l.rows.column.data.now (numbers l.rows.column.offsets)));
  outcomes : l.outcomes ≡ map outcome_of (take l.i (answers_by (g.A.AnswersRows.answer l.fn.answerer)
      l.rows.column.data.now (numbers l.rows.column.offsets))) ++ drop l.i l.fn.outcomes;
}
