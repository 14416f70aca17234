-- What each return of a run says of what was read and written.
use Rattle.std.specs.Prelude.{◌≡◌, ◌≤◌, ◌⊎◌, ℕ, ◌+◌, ◌-◌, ◌^◌, min, List, [], length, true, ◌++◌, Result, Ok, Err}
use Rattle.std.specs.Io.KnownBytes.{Consumes, Appends, IsAtEnd}
use Rattle.sd_sink.specs.Counts.{counted}
use Rattle.sd_token.specs.Token.{Compares}
use Rattle.sd_sink.specs.Sink.{IsPrefix}
use Rattle.sd_run.specs.Told.{DrainTold, RunTold}
use Rattle.sd_run.specs.Lines.{AreBytes, lines, ended}
use Rattle.sd_run.specs.Answers.{answers, errors, bounds}
use Rattle.sd_answer.specs.declared.job.Task.{Task}
use Rattle.sd_run.specs.declared.engine.Report.{Report}
use Rattle.sd_run.specs.declared.engine.RunFault.{RunFault}
use Rattle.sd_run.specs.declared.engine.RunFault.TheVariants.{Read, Write, TooManyReads}

-- n calls were counted, and no more
pub record RoseBy (n old new : ℕ) : Type 0 where
  pub at_least : min (old + n) (2 ^ 64 - 1) ≤ new
  pub at_most : new ≤ old + n

-- the whole input was answered
pub record Finished (most : ℕ) (task : Task) (old new : RunTold) (report : Report) : Type 0 where
  -- the bytes that left the source in this run
  pub got : List ℕ
  pub read : Consumes old.source.left new.source.left got
  pub bytes : AreBytes got
  pub reads : new.source.reads ≤ old.source.reads + most
  -- the one read that answered 0 was the last, and nothing is left
  pub end : new.source.ends ≡ counted old.source.ends
  pub at_end : IsAtEnd new.source.left
  pub no_failed_read : new.source.failures ≡ old.source.failures
  pub written : Appends old.drain.taken new.drain.taken (answers task old.token.holder (lines got))
  pub no_failed_write : new.drain.failures ≡ old.drain.failures
  pub flushed : new.drain.flushed ≡ true
  pub lines_counted : report.lines ≡ length (lines got)
  pub faults_counted : report.faults ≡ errors task old.token.holder (lines got)
  pub compared : Compares old.token new.token (bounds task old.token.holder (lines got))

-- No line had ended and the output is as it was, or its last call was a flush that succeeded. Any read may be the one
-- that fails, so this holds before each: a caller has the answers to all lines that have ended before more is read.
abbrev pub HandedOn : List ℕ → DrainTold → DrainTold → Type 0
HandedOn got drain drain' = ((ended got ≡ []) × (drain' ≡ drain)) ⊎ (drain'.flushed ≡ true)

-- no read answered 0: the lines that an LF ended were answered, whole, and the answers handed on
pub record Stopped (most : ℕ) (task : Task) (old new : RunTold) : Type 0 where
  pub got : List ℕ
  pub read : Consumes old.source.left new.source.left got
  pub bytes : AreBytes got
  pub reads : new.source.reads ≤ old.source.reads + most
  pub no_end : new.source.ends ≡ old.source.ends
  pub written : Appends old.drain.taken new.drain.taken (answers task old.token.holder (ended got))
  pub handed_on : HandedOn got old.drain new.drain
  pub no_failed_write : new.drain.failures ≡ old.drain.failures
  pub compared : Compares old.token new.token (bounds task old.token.holder (ended got))

-- the first of these lines are those
abbrev pub IsFront : List (List ℕ) → List (List ℕ) → Type 0
IsFront front all = (back : List (List ℕ)) × (all ≡ front ++ back)

-- the bytes that one read may give
abbrev pub most_of_a_read : ℕ
most_of_a_read = 8192

-- a write or a flush failed, and a prefix of the answers was written: those of some lines whole, and
-- a part of the answer to one more, or to none where a flush failed
pub record WriteFailed (most : ℕ) (task : Task) (old new : RunTold) : Type 0 where
  pub got : List ℕ
  pub read : Consumes old.source.left new.source.left got
  pub bytes : AreBytes got
  pub reads : new.source.reads ≤ old.source.reads + most
  pub no_failed_read : new.source.failures ≡ old.source.failures
  -- all lines where the end was read, else those that an LF ended
  pub all : List (List ℕ)
  pub these : ((new.source.ends ≡ counted old.source.ends) × (all ≡ lines got))
      ⊎ ((new.source.ends ≡ old.source.ends) × (all ≡ ended got))
  pub written : List ℕ
  pub wrote : Appends old.drain.taken new.drain.taken written
  pub is_prefix : IsPrefix written (answers task old.token.holder all)
  pub failed : new.drain.failures ≡ counted old.drain.failures
  -- the same line by line, with the comparisons of the line whose answer failed
  pub whole : List (List ℕ)
  pub broken : List (List ℕ)
  pub more : List (List ℕ)
  pub split : all ≡ whole ++ broken ++ more
  pub one : length broken ≤ 1
  pub part : List ℕ
  pub is_part : IsPrefix part (answers task old.token.holder broken)
  pub joined : written ≡ answers task old.token.holder whole ++ part
  pub compared : Compares old.token new.token (bounds task old.token.holder (whole ++ broken))
  -- It ended at the first answers that did not go out: the lines that had ended before the last read are answered
  -- whole.
  pub front : List ℕ
  pub last_read : List ℕ
  pub cut : got ≡ front ++ last_read
  pub one_read : length last_read ≤ most_of_a_read
  pub went_out : IsFront (ended front) whole

-- what each fault says: of a run of at most `most` reads, which the first failed read ends
abbrev pub FaultSays : ℕ → Task → RunTold → RunTold → RunFault → Type 0
FaultSays most task old new Read =
    Stopped most task old new × (new.source.failures ≡ counted old.source.failures)
FaultSays most task old new TooManyReads =
    Stopped most task old new × RoseBy most old.source.reads new.source.reads
    × (new.source.failures ≡ old.source.failures)
FaultSays most task old new Write = WriteFailed most task old new

-- what each return says of what was read and written
abbrev pub Outcome : ℕ → Task → RunTold → RunTold → Result Report RunFault → Type 0
Outcome most task old new (Ok report) = Finished most task old new report
Outcome most task old new (Err fault) = FaultSays most task old new fault
