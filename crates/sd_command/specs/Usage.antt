-- What is said of words that settle no job.
use Rattle.std.specs.Prelude.{◌++◌, codes}
use Rattle.clap.specs.Words.{Text}
use Rattle.sd_check.specs.declared.ask.AskFault.{AskFault}
use Rattle.sd_check.specs.declared.ask.AskFault.TheVariants.{EmptyRequest, ReservedBits}
use Rattle.sd_command.specs.FaultLines.{fault_line, value_line}
use Rattle.sd_command.specs.declared.settings.UsageFault.{UsageFault}
use Rattle.sd_command.specs.declared.settings.UsageFault.TheVariants.{NoCommand, Unasked, Value}

abbrev pub ask_text : AskFault → Text
ask_text EmptyRequest = codes "50 empty-request"
ask_text ReservedBits = codes "51 reserved-bits"

abbrev pub usage_line : UsageFault → Text
usage_line NoCommand = fault_line (codes "usage")
usage_line (Value option) = value_line option
usage_line (Unasked fault) = fault_line (codes "error " ++ ask_text fault)
