-- A run in the middle: the line in hand, and what was answered of the lines before it.
use Rattle.std.specs.Prelude.{zero, suc, ◌≡◌, ◌<◌, ◌≤◌, ℕ, ◌+◌, ◌^◌, List, [], ◌++◌, length, take}
use Rattle.std.specs.Prelude.{MatchResult, Result, Ok, Err}
use Rattle.std.specs.Io.KnownBytes.{Consumes, Appends, IsAtEnd, Keeps}
use Rattle.sd_sink.specs.Counts.{counted}
use Rattle.sd_sink.specs.Sink.{SinkTold, PutAll, IsPrefix}
use Rattle.sd_sink.specs.declared.sink.SinkFault.{SinkFault}
use Rattle.sd_token.specs.Token.{Compares, TokenShown}
use Rattle.sd_answer.specs.LineInHand.{Holds}
use Rattle.sd_answer.specs.declared.job.Task.{Task}
use Rattle.sd_run.specs.Answers.{answers, errors, bounds}
use Rattle.sd_run.specs.Lines.{AreBytes, cut_at_line_feeds, ended, lines}
use Rattle.sd_run.specs.Outcome.{HandedOn, IsFront, RoseBy}
use Rattle.sd_run.specs.Told.{DrainTold, RunTold, SourceTold, sink_of}
use Rattle.sd_run.specs.declared.engine.Report.{Report}
use Rattle.sd_run.specs.declared.engine.RunFault.{RunFault}
use Rattle.sd_run.specs.declared.engine.RunFault.TheVariants.{Read}
use Rattle.sd_run.specs.declared.engine.RunState.{RunState}

-- n lines and n faults more may be counted
abbrev pub HasRoom : Report → ℕ → Type 0
HasRoom report n = (report.lines + n < 2 ^ 64) × (report.faults + n < 2 ^ 64)

-- at most n lines and n faults more were counted
abbrev pub RoseWithin : ℕ → Report → Report → Type 0
RoseWithin n old new = (new.lines ≤ old.lines + n) × (new.faults ≤ old.faults + n)

-- where a run stands: its state, and what its token and its sink tell
pub record Standing : Type 0 where
  pub state : RunState
  pub token : TokenShown
  pub sink : SinkTold

abbrev pub stands : RunState → TokenShown → DrainTold → Standing
stands state token drain = record { state = state; token = token; sink = sink_of drain }

-- since a token and a sink told this, all of these lines are answered
pub record Answered (task : Task) (token0 : TokenShown) (sink0 : SinkTold) (all : List (List ℕ)) (now : Standing)
    : Type 0 where
  pub put : PutAll sink0 now.sink (answers task token0.holder all)
  pub lines_counted : now.state.report.lines ≡ length all
  pub faults_counted : now.state.report.faults ≡ errors task token0.holder all
  pub same_holder : now.token.holder ≡ token0.holder
  pub compared : Compares token0 now.token (bounds task token0.holder all)

-- after these bytes, the lines that an LF ended are answered, and what follows is held
pub record AfterBytes (task : Task) (token0 : TokenShown) (sink0 : SinkTold) (got : List ℕ) (now : Standing)
    : Type 0 where
  pub holds : Holds task.job now.state.line (cut_at_line_feeds got).rest
  pub answered : Answered task token0 sink0 (ended got) now

-- the sink failed: some of these lines are answered whole, those before among them, and of the answer to one more, or
-- to none, a part
pub record Failed (task : Task) (token0 : TokenShown) (sink0 : SinkTold) (before all : List (List ℕ)) (now : Standing)
    : Type 0 where
  pub whole : List (List ℕ)
  pub broken : List (List ℕ)
  pub more : List (List ℕ)
  pub part : List ℕ
  pub split : all ≡ whole ++ broken ++ more
  pub begins : IsFront before whole
  pub one : length broken ≤ 1
  pub is_prefix : IsPrefix part (answers task token0.holder broken)
  pub appended : Appends sink0.contents now.sink.contents (answers task token0.holder whole ++ part)
  pub failed : now.sink.failures ≡ counted sink0.failures
  pub same_holder : now.token.holder ≡ token0.holder
  pub compared : Compares token0 now.token (bounds task token0.holder (whole ++ broken))

-- a piece went in: after whatever bytes came before it and it, the lines that ended are answered; or the sink failed
abbrev pub Feeds : {A : Type 0} → Task → List ℕ → Standing → Standing → Result A SinkFault → Type 0
Feeds task piece old new result =
    (token0 : TokenShown) (sink0 : SinkTold) (got : List ℕ) → AfterBytes task token0 sink0 got old
    → MatchResult result
    (λ _. AfterBytes task token0 sink0 (got ++ piece) new)
    (λ _. Failed task token0 sink0 (ended got) (ended (got ++ piece)) new)

-- the input ended: after whatever bytes came, all lines are answered; or the sink failed
abbrev pub Closes : Task → Standing → Standing → Result (Unit {0}) SinkFault → Type 0
Closes task old new result =
    (token0 : TokenShown) (sink0 : SinkTold) (got : List ℕ) → AfterBytes task token0 sink0 got old
    → MatchResult result
    (λ _. Answered task token0 sink0 (lines got) new)
    (λ _. Failed task token0 sink0 (ended got) (lines got) new)

-- a read gave these bytes
pub record ReadSome (old new : SourceTold) (bytes : List ℕ) : Type 0 where
  pub read : Consumes old.left new.left bytes
  pub reads : new.reads ≡ counted old.reads
  pub ends : new.ends ≡ old.ends
  pub failures : new.failures ≡ old.failures

-- a read met the end
pub record ReadNone (old new : SourceTold) : Type 0 where
  pub read : Consumes old.left new.left []
  pub at_end : IsAtEnd new.left
  pub reads : new.reads ≡ counted old.reads
  pub ends : new.ends ≡ counted old.ends
  pub failures : new.failures ≡ old.failures

-- a read failed
pub record ReadFailed (old new : SourceTold) : Type 0 where
  pub keeps : Keeps old.left new.left
  pub reads : new.reads ≡ counted old.reads
  pub ends : new.ends ≡ old.ends
  pub failures : new.failures ≡ counted old.failures

-- what a read into a buffer with room returned, and what the buffer holds
abbrev pub ReadsPiece : SourceTold → SourceTold → List ℕ → Result ℕ RunFault → Type 0
ReadsPiece old new buf (Ok zero) = ReadNone old new
ReadsPiece old new buf (Ok (suc n)) = ReadSome old new (take (suc n) buf)
ReadsPiece old new buf (Err fault) = (fault ≡ Read) × ReadFailed old new

-- where a run stands with a drain for its sink
abbrev pub standing : RunState → RunTold → Standing
standing state now = stands state now.token now.drain

-- a run before its next read
pub record BeforeRead (task : Task) (turn : ℕ) (old : RunTold) (state : RunState) (now : RunTold) : Type 0 where
  -- the bytes that left the source
  pub got : List ℕ
  pub read : Consumes old.source.left now.source.left got
  pub bytes : AreBytes got
  pub after : AfterBytes task old.token (sink_of old.drain) got (standing state now)
  pub handed_on : HandedOn got old.drain now.drain
  pub reads : RoseBy turn old.source.reads now.source.reads
  pub ends : now.source.ends ≡ old.source.ends
  pub failures : now.source.failures ≡ old.source.failures
