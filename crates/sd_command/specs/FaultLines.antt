-- The lines on the fault stream.
use Rattle.std.specs.Prelude.{◌++◌, codes}
use Rattle.clap.specs.Words.{Text}
use Rattle.sd_command.specs.CommandLine.{option_text}
use Rattle.sd_command.specs.declared.options.OptionName.{OptionName}

-- a line on the fault stream
abbrev pub fault_line : Text → Text
fault_line text = codes "sdtool: " ++ text ++ codes "\n"

-- the value of an option does not read
abbrev pub value_line : OptionName → Text
value_line option = fault_line (codes "usage: --" ++ option_text option)
