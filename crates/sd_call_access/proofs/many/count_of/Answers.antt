use Rattle.std.proofs.Common.{◌-◌, ◌∙◌, ℕ, ap}
use Rattle.sd_call.specs.Columns.{numbers}
use Rattle.sd_call_access.proofs.ManyLemmas.{row_count_is}
use Rattle.sd_call_access.proofs.many.count_of.Goals as goal

pub returns-in-Rows : goal.returns-in-Rows
returns-in-Rows c =
    let column = c.in-Rows.column in
    rw c.in-Rows.is
    (c.saturating_sub.ensures ∙ ap (λ (n : ℕ). n - 1) c.offset_count.ensures
    ∙ row_count_is column.data.now (numbers column.offsets))
