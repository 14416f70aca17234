-- A batch in the middle, and what is prepared for one.
use Rattle.std.specs.Prelude.{◌≡◌, ◌<◌, ◌++◌, ℕ, List, [], ◌∷◌, Bool, true, false, length, take, Result, Ok, Err}
use Rattle.std.specs.List.{list_any}
use Rattle.sd_answer.specs.Answer.{is_error}
use Rattle.sd_command.specs.Preparing.{Notice, fault, help, notice_of, settled}
use Rattle.sd_command.specs.Settings.{Settings}
use Rattle.sd_command.specs.declared.program.Prepared.{Prepared}
use Rattle.sd_command.specs.declared.program.Stop.{Stop}
use Rattle.sd_run.specs.Answers.{answers}
use Rattle.sd_run.specs.Lines.{lines}
use Rattle.sd_sink.specs.Sink.{PutAll, SinkTold}
use Rattle.sd_call_run.specs.Runs.{EndsRun, EndsWith, ShowsHelp}
use Rattle.sd_call_run.specs.declared.batch.Batch.{Batch}
use Rattle.sd_call_run.specs.declared.run.Ending.{Ending}

-- the answers to some lines were put, and these bytes have the others
pub record Sofar (settings : Settings) (input : List ℕ) (old new : SinkTold) (left : List ℕ) (batch : Batch) : Type 0
  where
    pub front : List (List ℕ)
    pub split : lines input ≡ front ++ lines left
    pub put : PutAll old new (answers settings.task settings.holder front)
    pub count : batch.length ≡ length (answers settings.task settings.holder front)
    pub faulty : batch.faulty ≡ list_any (is_error settings.task settings.holder) front

-- all lines were answered, or there was no room for the answers to one line more
abbrev pub StopsBehind : Settings → List (List ℕ) → List (List ℕ) → ℕ → Bool → Type 0
StopsBehind settings front [] room all = all ≡ true
StopsBehind settings front (next ∷ others) room all =
    (all ≡ false) × (room < length (answers settings.task settings.holder (front ++ next ∷ [])))

-- the lines of an input were answered, as many as there was room for
pub record Batched (settings : Settings) (input output : List ℕ) (batch : Batch) : Type 0 where
  pub front : List (List ℕ)
  pub others : List (List ℕ)
  pub split : lines input ≡ front ++ others
  pub count : batch.length ≡ length (answers settings.task settings.holder front)
  pub written : take batch.length output ≡ answers settings.task settings.holder front
  pub faulty : batch.faulty ≡ list_any (is_error settings.task settings.holder) front
  pub stops : StopsBehind settings front others (length output) batch.all

-- Where help is asked for, the output shows the help text that the stop holds, and no other.
abbrev pub EndsNoticed : Notice → List ℕ → List ℕ → Ending → Type 0
EndsNoticed (help text) output message ending = ShowsHelp text output ending
EndsNoticed (fault status line) output message ending = EndsWith status line message ending

abbrev pub EndsStopped : Stop → List ℕ → List ℕ → Ending → Type 0
EndsStopped stop = EndsNoticed (notice_of stop)

-- a run of what is prepared, or an ending without one
abbrev pub EndsPrepared : Result Prepared Stop → List ℕ → List ℕ → List ℕ → Ending → Type 0
EndsPrepared (Ok prepared) input output message ending = EndsRun (settled prepared) input output message ending
EndsPrepared (Err stopped) input output message ending = EndsStopped stopped output message ending
