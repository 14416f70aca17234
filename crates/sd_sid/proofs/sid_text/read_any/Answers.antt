use Rattle.std.proofs.Common.{sym, ◌∙◌}
use Rattle.std.proofs.lemmas.List.{take_rest}
use Rattle.sd_sid.proofs.laws.ReadLimits.{form-few}
use Rattle.sd_sid.proofs.sid_text.read_any.Goals as goal

pub read_numbers-requires : goal.read_numbers-requires
read_numbers-requires c =
    rw take_rest (form-few c.args.text.now (sym c.has_form.ensures.value ∙ c.if-not-has_form.false))
