-- What stands before the first read: what is prepared for a run, or why nothing is read.
use Rattle.std.specs.Prelude.{◌≡◌, ℕ, List, [], Result, Ok, Err, codes}
use Rattle.std.specs.String.{string_bytes}
use Rattle.clap.specs.Words.{Text, fault_of}
use Rattle.sd_command.specs.CommandLine.{line}
use Rattle.sd_command.specs.EarlyEnds.{AllowsEnd}
use Rattle.sd_command.specs.Settings.{Settings, settings_of}
use Rattle.sd_command.specs.Usage.{usage_line}
use Rattle.sd_command.specs.Endings.{Told, EndsIdle, EndsRun, ShowsHelp}
use Rattle.sd_command.specs.FaultLines.{fault_line}
use Rattle.sd_command.specs.declared.parse.EarlyEnd.TheVariants.{NoMemory, Usage, Help}
use Rattle.sd_command.specs.declared.program.Notice.TheVariants as said
use Rattle.sd_command.specs.declared.program.Notice as program
use Rattle.sd_command.specs.declared.program.Prepared.{Prepared}
use Rattle.sd_command.specs.declared.program.Stop.{Stop}
use Rattle.sd_command.specs.declared.program.Stop.TheVariants as stop
use Rattle.sd_command.specs.declared.settings.UsageFault.{UsageFault}

-- of words that the command line takes, only out of memory stops the run
abbrev pub StopsTaken : Result Prepared Stop → Type 0
StopsTaken (Err (stop.Early early)) = early ≡ NoMemory
StopsTaken _ = Unit {0}

-- the task of the engine, and the holder of the token
abbrev pub settled : Prepared → Settings
settled prepared = record { task = prepared.engine; holder = prepared.token.holder }

-- if there is memory: what the words settle is prepared, or is told as their fault
abbrev pub Settles : Result Settings UsageFault → Result Prepared Stop → Type 0
Settles settings (Ok prepared) = (settings ≡ Ok (settled prepared)) × (prepared.token.compared ≡ 0)
Settles settings (Err (stop.Early early)) = ⊥
Settles settings (Err (stop.Value fault)) = settings ≡ Err fault

-- what the words allow
abbrev pub PreparesBy : List Text → Result Prepared Stop → Type 0
PreparesBy words (Ok prepared) = (fault_of line words ≡ []) × Settles (settings_of words) (Ok prepared)
PreparesBy words (Err (stop.Early early)) = AllowsEnd (fault_of line words) early
PreparesBy words (Err (stop.Value fault)) =
    (fault_of line words ≡ []) × Settles (settings_of words) (Err (stop.Value fault))

-- what is said where nothing is read: help on the output, or a line on the fault stream with its status
pub data Notice : Type 0 where
  help : List ℕ → Notice
  fault : ℕ → Text → Notice

abbrev pub notice_of : Stop → Notice
notice_of (stop.Early NoMemory) = fault 4 (fault_line (codes "no memory"))
notice_of (stop.Early Usage) = fault 2 (fault_line (codes "usage"))
notice_of (stop.Early (Help text)) = help (string_bytes text)
notice_of (stop.Value value) = fault 2 (usage_line value)

-- the notice that the code gives
abbrev pub noticed : program.Notice → Notice
noticed (said.Help text) = help text.now
noticed (said.Fault status line) = fault status line.now

abbrev pub EndsNoticed : Notice → Told → Told → ℕ → Type 0
EndsNoticed (help text) = ShowsHelp text
EndsNoticed (fault status line) = EndsIdle status line

abbrev pub StopsBy : Stop → Told → Told → ℕ → Type 0
StopsBy stop = EndsNoticed (notice_of stop)

-- a run of what is prepared, or an ending without one
abbrev pub EndsPrepared : Result Prepared Stop → Told → Told → ℕ → Type 0
EndsPrepared (Ok prepared) = EndsRun (settled prepared)
EndsPrepared (Err stopped) = StopsBy stopped
