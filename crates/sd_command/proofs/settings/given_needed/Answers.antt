use Rattle.std.proofs.Common.{rules, ◌≡◌, Err, ◌∙◌, sym}
use Rattle.sd_command.proofs.GivenLemmas.{needed-fault, needed-is}
use Rattle.sd_command.proofs.settings.given_needed.Goals as goal

pub returns-in_err-value : goal.returns-in_err-value
returns-in_err-value g c = λ reads is.
    let e : c.from_residual.result ≡ Err c.in_err-value.field-0.0 = search rules in
    e ∙ needed-fault reads c.args.option _ _ (sym (c.given_if.ensures reads is) ∙ c.in_err-value.was)

pub returns : goal.returns
returns g c = λ reads is.
    c.ok_or.ensures.value ∙ needed-is reads c.args.option _ _ (sym (c.given_if.ensures reads is) ∙ c.in_ok-value.was)
