use Rattle.std.proofs.Common.{◌∙◌, sym, ap}
use Rattle.sd_call_columns.specs.Answered.{lent}
use Rattle.sd_call_access.specs.DerivedMany.{asked_large, children_for}
use Rattle.sd_call_access.proofs.DerivedLemmas.{all_derived, none_derived}
use Rattle.sd_call_access.proofs.derived_many.derive_many_large.Goals as goal

pub returns-in-Ok : goal.returns-in-Ok
returns-in-Ok c =
    let a = c.args in
    let v = a.derivation.now in
    all_derived (asked_large v) (lent a.out.now a.out_offsets.now a.outcomes.now)
    (lent c.answer_rows_large.new.out c.answer_rows_large.new.out_offsets c.answer_rows_large.new.outcomes)
    c.answer_rows_large.result c.in-Ok.deriver.children
    (ap (children_for v.creation) (sym c.has_room-enough.ensures) ∙ c.in-Ok.ensures.exact)
    (rw (← c.column.ensures.data, ← c.column.ensures.offsets) c.answer_rows_large.ensures)

pub returns-in-Err : goal.returns-in-Err
returns-in-Err c =
    let a = c.args in
    none_derived (asked_large a.derivation.now) (lent a.out.now a.out_offsets.now a.outcomes.now) c.in-Err.outcome
    (rw (← c.has_room-enough.ensures) c.in-Err.ensures.exact)
