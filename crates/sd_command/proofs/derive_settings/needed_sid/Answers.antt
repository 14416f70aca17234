use Rattle.std.proofs.Common.{rules, ◌≡◌, Err, ◌∙◌, sym}
use Rattle.std.specs.Option.{option_copied}
use Rattle.sd_command.specs.Settings as specs
use Rattle.sd_command.specs.TokenText.{sid_under}
use Rattle.sd_command.proofs.GivenLemmas.{needed-fault, needed-is}
use Rattle.sd_command.proofs.derive_settings.needed_sid.Goals as goal

pub returns-in_err-sid : goal.returns-in_err-sid
unfolding specs.given_sid specs.needed_sid
returns-in_err-sid c =
    let e : c.from_residual.result ≡ Err c.in_err-sid.field-0.0 = search rules in
    e
    ∙ needed-fault (sid_under (option_copied c.args.domain)) c.args.option _ _
    (sym c.given_sid.ensures ∙ c.in_err-sid.was)

pub returns : goal.returns
unfolding specs.given_sid specs.needed_sid
returns c =
    c.ok_or.ensures.value
    ∙ needed-is (sid_under (option_copied c.args.domain)) c.args.option _ _
    (sym c.given_sid.ensures ∙ c.in_ok-sid.was)
