use Rattle.std.proofs.Common.{◌≡◌, false, take}
use Rattle.clap.specs.Words.{app_of}
use Rattle.clap.specs.declared.builder.command.Command.TheViews.{out-Command}
use Rattle.sd_command.specs.CommandLine.{with_options}
use Rattle.sd_command.proofs.command_line.with_each.Given as goal

abbrev pub invariant-loop-option : goal.invariant-loop-option
invariant-loop-option l =
    (app_of l.command ≡ with_options (app_of l.fn.command) (take l.option-index l.fn.options))
    × ((out-Command l.command).has_globals ≡ false)
