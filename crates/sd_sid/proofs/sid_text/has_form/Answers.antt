use Rattle.std.proofs.Common.{arith, sym, ◌∙◌}
use Rattle.sd_sid.proofs.FormLemmas.{form_is}
use Rattle.sd_sid.proofs.sid_text.has_form.Goals as goal

pub returns-clause-value : goal.returns-clause-value
returns-clause-value c = form_is c.args.text.now _ (omega arith)
    (sym c.begins_with_s1.ensures.value ∙ c.if-not-begins_with_s1.false) c.are_numbers.ensures
