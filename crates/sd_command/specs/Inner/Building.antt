-- A command of the line while its options are added. Private contracts alone cite this word; it promises nothing to a
-- caller.
use Rattle.std.specs.Prelude.{◌≡◌, Result, IfOk, false}
use Rattle.clap.specs.Words.{App, app_of}
use Rattle.clap.specs.declared.builder.command.Command.{Command}
use Rattle.clap.specs.declared.builder.command.Command.TheViews.{out-Command}

-- the command, where there was memory for it: its own line, and no option that holds for the commands below it
abbrev pub IsBuilt : {E : Type 0} → App → Result Command E → Type 0
IsBuilt app command = IfOk command (λ c. (app_of c ≡ app) × ((out-Command c).has_globals ≡ false))
