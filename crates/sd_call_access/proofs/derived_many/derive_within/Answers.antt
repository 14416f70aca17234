use Rattle.std.proofs.Common.{◌∙◌, sym, ap}
use Rattle.sd_call_columns.specs.Answered.{lent}
use Rattle.sd_call_access.specs.DerivedMany.{asked, children_for}
use Rattle.sd_call_access.proofs.DerivedLemmas.{all_derived, none_derived}
use Rattle.sd_call_access.proofs.derived_many.derive_within.Goals as goal

pub returns-in-Ok : goal.returns-in-Ok
returns-in-Ok c =
    let a = c.args in
    let v = a.derivation.now in
    all_derived (asked v) (lent a.out.now a.out_offsets.now a.outcomes.now)
    (lent c.answer_rows.new.out c.answer_rows.new.out_offsets c.answer_rows.new.outcomes) c.answer_rows.result
    c.in-Ok.deriver.children (ap (children_for v.creation) (sym c.has_room-enough.ensures) ∙ c.in-Ok.ensures.exact)
    (rw (← c.column.ensures.data, ← c.column.ensures.offsets) c.answer_rows.ensures)

pub returns-in-Err : goal.returns-in-Err
returns-in-Err c =
    let a = c.args in
    none_derived (asked a.derivation.now) (lent a.out.now a.out_offsets.now a.outcomes.now) c.in-Err.outcome
    (rw (← c.has_room-enough.ensures) c.in-Err.ensures.exact)
