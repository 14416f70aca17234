use Rattle.std.proofs.Common.{◌≡◌, ◌∙◌}
use Rattle.std.proofs.lemmas.Result.{IfOk-weaker}
use Rattle.clap.specs.Words.{app_of, with_subcommand}
use Rattle.sd_command.specs.CommandLine.{check_line, convert_line, derive_line, explain_line, line, with_options}
use Rattle.sd_command.specs.declared.options.TheConstants.{CHECK_OPTIONS, CONVERT_OPTIONS, DERIVE_OPTIONS}
use Rattle.sd_command.specs.declared.options.TheConstants.{EXPLAIN_OPTIONS}
use Rattle.sd_command.proofs.LineLemmas.{one-below}
use Rattle.sd_command.proofs.command_line.command_line.Goals as goal

pub returns : goal.returns
unfolding line convert_line explain_line check_line derive_line
returns c =
    let convert = c.in_ok-line.ensures
    ∙ one-below CONVERT_OPTIONS _ _ _ _ c.bare_line.ensures c.named-convert.ensures.app in
    let explain = c.in_ok-line-2.ensures ∙ one-below EXPLAIN_OPTIONS _ _ _ _ convert c.named-explain.ensures.app in
    let check = c.in_ok-line-3.ensures ∙ one-below CHECK_OPTIONS _ _ _ _ explain c.named-check.ensures.app in
    IfOk-weaker c.with_command-4.result
    (λ r. app_of r
    ≡ with_subcommand (app_of c.in_ok-line-3.line) (with_options (app_of c.named-derive.result) DERIVE_OPTIONS).top)
    (λ r. app_of r ≡ line)
    (λ r h. h ∙ one-below DERIVE_OPTIONS _ _ _ _ check c.named-derive.ensures.app)
    c.with_command-4.ensures
