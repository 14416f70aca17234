use Rattle.std.proofs.Common.{◌≡◌, ◌≤◌, ◌++◌, drop, length, map, take}
use Rattle.std.specs.List.{flat_map}
use Rattle.sd_call.specs.Columns.{numbers}
use Rattle.sd_call_convert.specs.Many.{answers_by, bytes_of, end_of, outcome_of}
use Rattle.sd_call_convert.proofs.many.convert_rows.Given as goal

abbrev pub invariant-loop-i : goal.invariant-loop-i
invariant-loop-i l = record {
  at : l.at ≡ end_of l.work.begin (take l.i (answers_by l.work.manner l.work.column.data.now
      (numbers l.work.column.offsets)));
  within : l.at ≤ length l.out;
  bytes : take l.at l.out ≡ take l.work.begin l.fn.out ++ flat_map bytes_of (take l.i (answers_by l.work.manner
      l.work.column.data.now (numbers l.work.column.offsets)));
  outcomes : l.outcomes ≡ map outcome_of (take l.i (answers_by l.work.manner l.work.column.data.now
      (numbers l.work.column.offsets))) ++ drop l.i l.fn.outcomes;
}
