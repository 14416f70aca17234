use Rattle.std.proofs.Common.{true, ap, ◌∙◌}
use Rattle.sd_command.specs.CommandLine.{bare_line}
use Rattle.clap.specs.Simple.{on_top, app_of_fields}
use Rattle.sd_command.proofs.command_line.bare_line.Goals as goal

pub returns : goal.returns
unfolding bare_line
returns c =
    ap app_of_fields c.subcommand_required.ensures
    ∙ ap (on_top (λ s. record s { subcommand_required = true }))
    (ap app_of_fields c.after_help.ensures ∙ ap app_of_fields c.about.ensures ∙ c.new.ensures.app)
