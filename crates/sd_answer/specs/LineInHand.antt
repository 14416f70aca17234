-- The line in hand, and what is put of its answer. Callers never look inside `IsReady`, `HoldsText` and `Holds`.
use Rattle.std.specs.Prelude.{◌≡◌, ◌≤◌, ℕ, ◌-◌, ◌^◌, min, List, [], ◌∷◌, ◌++◌}
use Rattle.std.specs.Prelude.{length, Bool, true, false, Result, Ok, Err}
use Rattle.sd_sink.specs.Sink.{SinkTold, PutAll, PutSome}
use Rattle.sd_sink.specs.declared.sink.SinkFault.{SinkFault}
use Rattle.sd_answer.specs.Answer.{line_limit}
use Rattle.sd_answer.specs.Inner.Reading.{CanRead, HasRead, form_of}
use Rattle.sd_answer.specs.LineEnd.{without_cr, carriage_return}
use Rattle.sd_answer.specs.declared.job.Job.{Job}
use Rattle.sd_answer.specs.declared.line.Line.{Line}

-- the reader of the line in hand may go on
abbrev pub IsReady : Line → Type 0
IsReady line = CanRead line.reader line.read

-- the line in hand has this text: it was read whole, or it passes the limit
pub record HoldsText (job : Job) (line : Line) (text : List ℕ) : Type 0 where
  pub form : form_of line.reader ≡ job.line_form
  pub counted : line.count ≡ min (length text) (2 ^ 64 - 1)
  pub whole : length text ≤ line_limit job.line_form → HasRead line.reader line.read line.held job.domain text

-- a CR that waits for the next byte
abbrev pub pending : Bool → List ℕ
pending true = carriage_return ∷ []
pending false = []

-- the line in hand has the bytes since the last LF
pub record Holds (job : Job) (line : Line) (raw : List ℕ) : Type 0 where
  pub text : HoldsText job line (without_cr raw)
  pub waits : raw ≡ without_cr raw ++ pending line.cr

-- the answer and its LF were put, with whether it is an error; or a part of it was
abbrev pub PutsAnswer : SinkTold → SinkTold → List ℕ → Bool → Result Bool SinkFault → Type 0
PutsAnswer old new text error (Ok faulty) = PutAll old new text × (faulty ≡ error)
PutsAnswer old new text error (Err fault) = PutSome old new text
