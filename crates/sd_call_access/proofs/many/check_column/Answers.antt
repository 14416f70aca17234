use Rattle.std.proofs.Common.{◌∙◌, arith}
use Rattle.sd_call.specs.Columns.{numbers}
use Rattle.sd_call_access.proofs.ManyLemmas.{either, row_count_is}
use Rattle.sd_call_access.proofs.many.check_column.Goals as goal

pub judge_with-requires-clause-room : goal.judge_with-requires-clause-room
judge_with-requires-clause-room c =
    let column = c.args.column.now in
    let n = row_count_is column.data.now (numbers column.offsets) in
    omega (arith, n, c.if-offsets-verdicts.false, c.offset_count-offsets.ensures)

pub returns : goal.returns
returns c = record {
  none = λ zero. absurd (c.if-offsets-eq0.false (c.offset_count-offsets.ensures ∙ zero));
  short = λ less. absurd (omega (arith, less, c.if-offsets-verdicts.false, c.offset_count-offsets.ensures));
  fits = λ _ _. either c.new.result c.judge_with.ensures;
}
