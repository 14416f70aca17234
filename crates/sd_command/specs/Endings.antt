-- How the program ends: its exit status, what it read, what it wrote, and what the fault stream got.
use Rattle.std.specs.Prelude.{◌≡◌, ◌⊎◌, ◌++◌, ◌==◌, ℕ, ◌^◌, true, List, [], Result, Ok, Err, codes, if◌then◌else◌}
use Rattle.std.specs.Io.KnownBytes.{Keeps}
use Rattle.std.specs.List.{list_any}
use Rattle.clap.specs.Words.{Text, IsAmong, fault_of}
use Rattle.clap.specs.declared.error.ErrorKind.TheVariants as kind
use Rattle.sd_sink.specs.Sink.{PutAll, PutSome}
use Rattle.sd_token.specs.Token.{TokenShown}
use Rattle.sd_run.specs.Told.{SourceTold, DrainTold, failed_flushes_after, is_flush, sink_of}
use Rattle.sd_run.specs.declared.device.DeviceFault.{DeviceFault}
use Rattle.sd_run.specs.Outcome.{Outcome}
use Rattle.sd_command.specs.CommandLine.{line}
use Rattle.sd_command.specs.EarlyEnds.{is_mistake}
use Rattle.sd_command.specs.Settings.{Settings, settings_of}
use Rattle.sd_command.specs.Usage.{usage_line}
use Rattle.sd_command.specs.FaultLines.{fault_line}
use Rattle.sd_command.specs.declared.settings.UsageFault.{UsageFault}
use Rattle.sd_run.specs.declared.engine.Report.{Report}
use Rattle.sd_run.specs.declared.engine.RunFault.{RunFault}
use Rattle.sd_run.specs.declared.engine.RunFault.TheVariants.{Read, Write, TooManyReads}

-- ---- what the fault stream gets

abbrev pub run_text : RunFault → Text
run_text Read = codes "60 read"
run_text Write = codes "61 write"
run_text TooManyReads = codes "62 too-many-reads"

abbrev pub run_line : RunFault → Text
run_line fault = fault_line (codes "error " ++ run_text fault)

-- the text was put, or a prefix of it where the drain failed
abbrev pub Says : Text → DrainTold → DrainTold → Type 0
Says text drain drain' = PutAll (sink_of drain) (sink_of drain') text ⊎ PutSome (sink_of drain) (sink_of drain') text

-- nothing was read, and nothing was written on the output
abbrev pub IsIdle : SourceTold → SourceTold → DrainTold → DrainTold → Type 0
IsIdle source source' output output' = (source' ≡ source) × (output' ≡ output)

-- ---- a run

-- the outcome of a run for what the words settle: their task, and a token of their holder
pub record RunOf (settings : Settings) (source source' : SourceTold) (output output' : DrainTold)
    (result : Result Report RunFault) : Type 0 where
  pub token : TokenShown
  pub token' : TokenShown
  pub holder : token.holder ≡ settings.holder
  pub none_compared : token.compared ≡ 0
  pub outcome : Outcome (2 ^ 40) settings.task (record { token = token; source = source; drain = output })
      (record { token = token'; source = source'; drain = output' }) result

-- ---- the endings

-- what the three devices tell
pub record Told : Type 0 where
  pub source : SourceTold
  pub output : DrainTold
  pub faults : DrainTold

-- the status, with a line on the fault stream and nothing else
abbrev pub EndsIdle : ℕ → Text → Told → Told → ℕ → Type 0
EndsIdle expected text told told' status =
    (status ≡ expected) × (IsIdle told.source told'.source told.output told'.output)
    × (Says text told.faults told'.faults)

abbrev pub EndsWithoutMemory : Told → Told → ℕ → Type 0
EndsWithoutMemory = EndsIdle 4 (fault_line (codes "no memory"))

abbrev pub EndsRefused : Told → Told → ℕ → Type 0
EndsRefused = EndsIdle 2 (fault_line (codes "usage"))

-- the text was put, or a prefix of it where the drain failed, and then the drain was flushed, whether that failed or
-- not
pub record HandsOn (text : List ℕ) (drain drain' : DrainTold) : Type 0 where
  pub written : DrainTold
  pub says : Says text drain written
  pub keeps : Keeps written.taken drain'.taken
  pub flush : Result (Unit {0}) DeviceFault
  pub failures : drain'.failures ≡ failed_flushes_after flush written.failures
  pub flushed : drain'.flushed ≡ is_flush flush

-- nothing was read and nothing was said; the output got this text of help
abbrev pub ShowsHelp : List ℕ → Told → Told → ℕ → Type 0
ShowsHelp text told told' status =
    (status ≡ 0) × (told'.source ≡ told.source) × (told'.faults ≡ told.faults) × HandsOn text told.output told'.output

-- The text is that of `clap`, whose contracts do not say which text that is.
abbrev pub EndsWithHelp : Told → Told → ℕ → Type 0
EndsWithHelp told told' status = (text : List ℕ) × ShowsHelp text told told' status

abbrev pub status_of : Result Report RunFault → ℕ
status_of (Ok report) = if report.faults == 0 then 0 else 1
status_of (Err fault) = 3

abbrev pub SaysOf : Result Report RunFault → DrainTold → DrainTold → Type 0
SaysOf (Ok report) drain drain' = drain' ≡ drain
SaysOf (Err fault) drain drain' = Says (run_line fault) drain drain'

pub record EndsRun (settings : Settings) (told told' : Told) (status : ℕ) : Type 0 where
  -- what the run returned
  pub result : Result Report RunFault
  pub run : RunOf settings told.source told'.source told.output told'.output result
  pub says : SaysOf result told.faults told'.faults
  pub is : status ≡ status_of result

-- by what the words settle: a job is run, and else it is said what does not read, or why nothing can be asked
abbrev pub EndsSettled : Result Settings UsageFault → Told → Told → ℕ → Type 0
EndsSettled (Ok settings) = EndsRun settings
EndsSettled (Err fault) = EndsIdle 2 (usage_line fault)

-- words that the command line takes: only out of memory keeps them from what they settle
abbrev pub EndsTaken : List Text → Told → Told → ℕ → Type 0
EndsTaken words told told' status =
    EndsWithoutMemory told told' status ⊎ EndsSettled (settings_of words) told told' status

-- any words, by the kinds of fault that `clap` finds in them
pub data EndsBy (words : List Text) (told told' : Told) (status : ℕ) : Type 0 where
  without_memory : EndsWithoutMemory told told' status → EndsBy words told told' status
  refused : list_any is_mistake (fault_of line words) ≡ true → EndsRefused told told' status
      → EndsBy words told told' status
  helped : IsAmong kind.DisplayHelp (fault_of line words) → EndsWithHelp told told' status
      → EndsBy words told told' status
  settled : fault_of line words ≡ [] → EndsSettled (settings_of words) told told' status
      → EndsBy words told told' status

-- at 2 and 4 nothing was read, and nothing was written on the output
abbrev pub IsIdleAt : ℕ → Told → Told → Type 0
IsIdleAt status told told' = (status ≡ 2) ⊎ (status ≡ 4) → IsIdle told.source told'.source told.output told'.output
