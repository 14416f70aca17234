-- What each return of a run says.
use Rattle.std.proofs.Common.{zero, suc, ◌≡◌, ℕ, ◌+◌, ◌<◌, ◌≤◌, List, [], ◌∷◌, ◌++◌, length, take, true}
use Rattle.std.proofs.Common.{◌⊎◌, Option, None, Some, Result, Ok, Err, refl, sym, ◌∙◌, ap, arith, append-nil}
use Rattle.std.proofs.Common.{append_assoc, inl, inr}
use Rattle.std.proofs.lemmas.List.Elements.{All-append, All-nil}
use Rattle.std.proofs.lemmas.Result.{err_from_is_err_and}
use Rattle.std.specs.Io.KnownBytes.{Consumes, Appends, Keeps, ReadConsumes}
use Rattle.std.specs.Result.{MatchResult, IsErrAnd}
use Rattle.std.proofs.KnownBytes.{Consumes-nil, Consumes-trans, Consumes-kept}
use Rattle.sd_sink.specs.Counts.{counted}
use Rattle.sd_token.specs.Token.{TokenShown}
use Rattle.sd_sink.specs.Sink.{SinkTold, IsPrefix}
use Rattle.sd_run.specs.Told.{DrainTold, RunTold, SourceTold, sink_of, reads_after, ends_after, failed_reads_after}
use Rattle.sd_run.specs.Lines.{AreBytes, ended, last_line, lines, cut_at_line_feeds}
use Rattle.sd_run.specs.Answers.{answers}
use Rattle.sd_run.specs.Inner.Running.{AfterBytes, Answered, BeforeRead, Failed, Standing, standing}
use Rattle.sd_run.specs.Inner.Running.{ReadFailed, ReadNone, ReadSome, ReadsPiece}
use Rattle.sd_answer.specs.LineInHand.{Holds}
use Rattle.sd_run.specs.Outcome.{Finished, FaultSays, HandedOn, IsFront, most_of_a_read}
use Rattle.sd_answer.specs.declared.job.Task.{Task}
use Rattle.sd_run.specs.declared.device.DeviceFault.{DeviceFault}
use Rattle.sd_run.specs.declared.engine.RunFault.{RunFault}
use Rattle.sd_run.specs.declared.engine.RunState.{RunState}
use Rattle.sd_run.specs.declared.engine.RunFault.TheVariants.{Read, Write, TooManyReads}
use Rattle.sd_run.proofs.AnswersLemmas.{answers-append}
use Rattle.sd_run.proofs.AfterBytesLemmas.{AfterBytes-nil}

Appends-kept : (a b c : Option (List ℕ)) (xs : List ℕ) → Appends a b xs → Keeps b c → Appends a c xs
Appends-kept None b c xs p q = tt
Appends-kept (Some x) None c xs p q = absurd p
Appends-kept (Some x) (Some y) None xs p q = absurd q
Appends-kept (Some x) (Some y) (Some z) xs p q = q ∙ p

Consumes-none : (a b c : Option (List ℕ)) (xs : List ℕ) → Consumes a b xs → Consumes b c [] → Consumes a c xs
Consumes-none a b c xs p q = rw append-nil at (Consumes-trans a b c xs [] p q)

AreBytes-append : (xs ys : List ℕ) → AreBytes xs → AreBytes ys → AreBytes (xs ++ ys)
AreBytes-append xs ys h more = All-append (λ b. b < 256) xs ys h more

none_ended : (xs : List (List ℕ)) → length xs ≡ 0 → xs ≡ []
none_ended [] none = refl
none_ended (x ∷ xs) none = absurd (omega arith)

-- a piece more: no line ended in it and nothing was put, or the last call was a flush
HandedOn-more : (got got' : List ℕ) (a b c : DrainTold) (lines lines' : ℕ) → HandedOn got a b
    → lines ≡ length (ended got) → lines' ≡ length (ended got')
    → ((c ≡ b) × (lines' ≡ lines)) ⊎ (c.flushed ≡ true) → HandedOn got' a c
HandedOn-more got got' a b c lines lines' p counted counted' (inr flushed) = inr flushed
HandedOn-more got got' a b c lines lines' (inl quiet) counted counted' (inl (still, same)) =
    let before = ap length quiet.0 in inl (none_ended (ended got') (omega arith), still ∙ quiet.1)
HandedOn-more got got' a b c lines lines' (inr flushed) counted counted' (inl (still, same)) =
    inr (ap (λ (d : DrainTold). d.flushed) still ∙ flushed)

-- a flush that fails
pub Failed-flush : (task : Task) (token0 : TokenShown) (sink0 : SinkTold) (before all : List (List ℕ))
    (state : RunState) (token : TokenShown) (drain drain' : DrainTold)
    → Answered task token0 sink0 all (record { state = state; token = token; sink = sink_of drain })
    → Keeps drain.taken drain'.taken → drain'.failures ≡ counted drain.failures → IsFront before all
    → Failed task token0 sink0 before all (record { state = state; token = token; sink = sink_of drain' })
Failed-flush task token0 sink0 before all state token drain drain' h keeps failed front = record {
  whole = all;
  broken = [];
  more = [];
  part = [];
  split = sym (append-nil (all ++ []) ∙ append-nil all);
  begins = front;
  one = omega arith;
  is_prefix = (answers task token0.holder [], refl);
  appended = rw append-nil (Appends-kept _ _ _ _ h.put.appended keeps);
  failed = let same = h.put.no_failure in omega arith;
  same_holder = h.same_holder;
  compared = rw append-nil h.compared;
}

-- the lines that an LF ended come first
pub lines-front : (got : List ℕ) → IsFront (ended got) (lines got)
unfolding lines
lines-front got = (last_line (cut_at_line_feeds got).rest, refl)

ended-nil : ended [] ≡ []
unfolding ended cut_at_line_feeds
ended-nil = refl

-- before the first read
pub BeforeRead-start : (task : Task) (state : RunState) (now : RunTold)
    → Holds task.job state.line [] → state.report.lines ≡ 0 → state.report.faults ≡ 0
    → BeforeRead task 0 now state now
BeforeRead-start task state now h no_lines no_faults = record {
  got = [];
  read = Consumes-nil now.source.left;
  bytes = All-nil _;
  after = AfterBytes-nil task (standing state now) h no_lines no_faults;
  handed_on = inl (ended-nil, refl);
  reads = record { at_least = omega arith; at_most = omega arith };
  ends = refl;
  failures = refl;
}

-- the answers to some lines, and a part of the answer to one more, are a prefix of the answers to all
written-prefix : (task : Task) (token0 : TokenShown) (sink0 : SinkTold) (before all : List (List ℕ)) (now : Standing)
    (h : Failed task token0 sink0 before all now)
    → IsPrefix (answers task token0.holder h.whole ++ h.part) (answers task token0.holder all)
written-prefix task token0 sink0 before all now h =
    let a = answers task token0.holder in (
      h.is_prefix.0 ++ a h.more,
      ap a h.split ∙ answers-append task token0.holder (h.whole ++ h.broken) h.more
          ∙ ap (λ (t : List ℕ). t ++ a h.more)
          (answers-append task token0.holder h.whole h.broken ∙ ap (λ (t : List ℕ). a h.whole ++ t) h.is_prefix.1)
          ∙ simp append_assoc,
    )

module _ (task : Task) (most turn : ℕ) (old : RunTold) (state : RunState) (now : RunTold)
    (r : BeforeRead task turn old state now) (low : turn < most) where
  -- a piece was read and its lines are answered
  pub BeforeRead-more : (piece : List ℕ) (state' : RunState) (new : RunTold)
      → AreBytes piece → ReadSome now.source new.source piece
      → AfterBytes task old.token (sink_of old.drain) (r.got ++ piece) (standing state' new)
      → ((new.drain ≡ now.drain) × (state'.report.lines ≡ state.report.lines)) ⊎ (new.drain.flushed ≡ true)
      → BeforeRead task (turn + 1) old state' new
  BeforeRead-more piece state' new bytes some after handed = record {
    got = r.got ++ piece;
    read = Consumes-trans _ _ _ _ _ r.read some.read;
    bytes = AreBytes-append r.got piece r.bytes bytes;
    after = after;
    handed_on = HandedOn-more r.got (r.got ++ piece) old.drain now.drain new.drain _ _ r.handed_on
        r.after.answered.lines_counted after.answered.lines_counted handed;
    reads = let reads = some.reads in record {
      at_least = let before = r.reads.at_least in omega arith;
      at_most = let before = r.reads.at_most in omega arith;
    };
    ends = some.ends ∙ r.ends;
    failures = some.failures ∙ r.failures;
  }

  -- a read failed, and nothing else changed
  pub broken-read : (new : RunTold) → new.token ≡ now.token → new.drain ≡ now.drain
      → ReadFailed now.source new.source → FaultSays most task old new Read
  broken-read new token drain failed = (
    record {
      got = r.got;
      read = Consumes-kept _ _ _ _ r.read failed.keeps;
      bytes = r.bytes;
      reads = let before = r.reads.at_most in let reads = failed.reads in omega arith;
      no_end = failed.ends ∙ r.ends;
      written = rw drain r.after.answered.put.appended;
      handed_on = rw drain r.handed_on;
      no_failed_write = rw drain r.after.answered.put.no_failure;
      compared = rw token r.after.answered.compared;
    },
    failed.failures ∙ ap counted r.failures,
  )

  -- the end was read
  pub finished : (state' : RunState) (new : RunTold)
      → ReadNone now.source new.source
      → Answered task old.token (sink_of old.drain) (lines r.got) (standing state' new) → new.drain.flushed ≡ true
      → Finished most task old new state'.report
  finished state' new none answered flushed = record {
    got = r.got;
    read = Consumes-none _ _ _ _ r.read none.read;
    bytes = r.bytes;
    reads = let before = r.reads.at_most in let reads = none.reads in omega arith;
    end = none.ends ∙ ap counted r.ends;
    at_end = none.at_end;
    no_failed_read = none.failures ∙ r.failures;
    written = answered.put.appended;
    no_failed_write = answered.put.no_failure;
    flushed = flushed;
    lines_counted = answered.lines_counted;
    faults_counted = answered.faults_counted;
    compared = answered.compared;
  }

  -- a write or a flush failed, after the last of these bytes were read, and before all of these lines were answered
  broken : (got last_read : List ℕ) (all : List (List ℕ)) (state' : RunState) (new : RunTold)
      → Consumes old.source.left new.source.left got → AreBytes got → new.source.reads ≤ old.source.reads + most
      → new.source.failures ≡ old.source.failures
      → ((new.source.ends ≡ counted old.source.ends) × (all ≡ lines got))
      ⊎ ((new.source.ends ≡ old.source.ends) × (all ≡ ended got))
      → got ≡ r.got ++ last_read → length last_read ≤ most_of_a_read
      → Failed task old.token (sink_of old.drain) (ended r.got) all (standing state' new)
      → FaultSays most task old new Write
  broken got last_read all state' new read bytes reads no_failed_read these cut one_read failed = record {
    got = got;
    read = read;
    bytes = bytes;
    reads = reads;
    no_failed_read = no_failed_read;
    all = all;
    these = these;
    written = answers task old.token.holder failed.whole ++ failed.part;
    wrote = failed.appended;
    is_prefix = written-prefix _ _ _ _ _ _ failed;
    failed = failed.failed;
    whole = failed.whole;
    broken = failed.broken;
    more = failed.more;
    split = failed.split;
    one = failed.one;
    part = failed.part;
    is_part = failed.is_prefix;
    joined = refl;
    compared = failed.compared;
    front = r.got;
    last_read = last_read;
    cut = cut;
    one_read = one_read;
    went_out = failed.begins;
  }

  -- after the end was read
  pub broken-close : (state' : RunState) (new : RunTold) → ReadNone now.source new.source
      → Failed task old.token (sink_of old.drain) (ended r.got) (lines r.got) (standing state' new)
      → FaultSays most task old new Write
  broken-close state' new none failed =
      broken r.got [] (lines r.got) state' new
      (Consumes-none _ _ _ _ r.read none.read) r.bytes
      (let before = r.reads.at_most in let reads = none.reads in omega arith)
      (none.failures ∙ r.failures) (inl (none.ends ∙ ap counted r.ends, refl))
      (sym (append-nil r.got)) (omega arith) failed

  -- before it
  pub broken-write : (piece : List ℕ) (state' : RunState) (new : RunTold)
      → AreBytes piece → length piece ≤ most_of_a_read → ReadSome now.source new.source piece
      → Failed task old.token (sink_of old.drain) (ended r.got) (ended (r.got ++ piece)) (standing state' new)
      → FaultSays most task old new Write
  broken-write piece state' new bytes size some failed =
      broken (r.got ++ piece) piece (ended (r.got ++ piece)) state' new
      (Consumes-trans _ _ _ _ _ r.read some.read) (AreBytes-append r.got piece r.bytes bytes)
      (let before = r.reads.at_most in let reads = some.reads in omega arith)
      (some.failures ∙ r.failures) (inr (some.ends ∙ r.ends, refl)) refl size failed

-- the reads are used up
pub broken-most : (task : Task) (most : ℕ) (old : RunTold) (state : RunState) (now : RunTold)
    → BeforeRead task most old state now → FaultSays most task old now TooManyReads
broken-most task most old state now r = (
  record {
    got = r.got;
    read = r.read;
    bytes = r.bytes;
    reads = r.reads.at_most;
    no_end = r.ends;
    written = r.after.answered.put.appended;
    handed_on = r.handed_on;
    no_failed_write = r.after.answered.put.no_failure;
    compared = r.after.answered.compared;
  },
  r.reads,
  r.failures,
)

-- what a read into a buffer with room returned, with a run's fault for the device's
pub reads_piece : (old new : SourceTold) (buf : List ℕ) (r : Result ℕ DeviceFault) (m : Result ℕ RunFault)
    → MatchResult r (λ n. m ≡ Ok n) (λ _. IsErrAnd m (λ fault. fault ≡ Read)) → 0 < length buf
    → ReadConsumes old.left new.left r buf → new.reads ≡ reads_after buf old.reads
    → new.ends ≡ ends_after r buf old.ends → new.failures ≡ failed_reads_after r old.failures
    → ReadsPiece old new buf m
reads_piece old new [] r m mapped room bytes reads ends failures = absurd (omega arith)
reads_piece old new (b ∷ buf) (Ok zero) m mapped room bytes reads ends failures = rw mapped (record {
  read = bytes.0;
  at_end = bytes.1 refl room;
  reads = reads;
  ends = ends;
  failures = failures;
})
reads_piece old new (b ∷ buf) (Ok (suc n)) m mapped room bytes reads ends failures = rw mapped (record {
  read = bytes.0;
  reads = reads;
  ends = ends;
  failures = failures;
})
reads_piece old new (b ∷ buf) (Err fault) m mapped room bytes reads ends failures =
    let p = err_from_is_err_and m mapped in
    rw p.1 (p.2, record { keeps = bytes; reads = reads; ends = ends; failures = failures })

-- the bytes of a read that is not the last
pub read_some : (old new : SourceTold) (buf : List ℕ) (n : ℕ) → (n ≡ 0 → ⊥) → ReadsPiece old new buf (Ok n)
    → ReadSome old new (take n buf)
read_some old new buf zero some read = absurd (some refl)
read_some old new buf (suc n) some read = read
