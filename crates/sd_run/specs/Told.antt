-- What a source and a drain tell of themselves, and what a call does to it.
use Rattle.std.specs.Prelude.{ℕ, zero, suc, List, [], ◌∷◌, Bool, true, false, Option, Result, Ok, Err}
use Rattle.sd_sink.specs.Counts.{counted}
use Rattle.sd_sink.specs.Sink.{SinkTold}
use Rattle.sd_token.specs.Token.{TokenShown}

pub record SourceTold : Type 0 where
  -- the bytes that it has still to give, where they are known
  pub left : Option (List ℕ)
  -- its reads, those that answered 0, and those that failed
  pub reads : ℕ
  pub ends : ℕ
  pub failures : ℕ

pub record DrainTold : Type 0 where
  -- the bytes that it took, where they are known
  pub taken : Option (List ℕ)
  -- its failed calls: a write that takes 0 bytes of a non-empty piece is one
  pub failures : ℕ
  -- its last call was a flush that succeeded
  pub flushed : Bool

-- what a run's token and its two devices tell, before it or after it
pub record RunTold : Type 0 where
  pub token : TokenShown
  pub source : SourceTold
  pub drain : DrainTold

-- a call that asks for no byte is no read
abbrev pub reads_after : List ℕ → ℕ → ℕ
reads_after [] reads = reads
reads_after (b ∷ buf) reads = counted reads

-- 0 is the end of the input where a byte was asked for
abbrev pub ends_after : {E : Type 0} → Result ℕ E → List ℕ → ℕ → ℕ
ends_after (Ok zero) [] ends = ends
ends_after (Ok zero) (b ∷ buf) ends = counted ends
ends_after (Ok (suc n)) buf ends = ends
ends_after (Err e) buf ends = ends

abbrev pub failed_reads_after : {E : Type 0} → Result ℕ E → ℕ → ℕ
failed_reads_after (Ok n) failures = failures
failed_reads_after (Err e) failures = counted failures

abbrev pub failed_writes_after : {E : Type 0} → Result ℕ E → List ℕ → ℕ → ℕ
failed_writes_after (Ok zero) (b ∷ bytes) failures = counted failures
failed_writes_after (Ok zero) [] failures = failures
failed_writes_after (Ok (suc n)) bytes failures = failures
failed_writes_after (Err e) bytes failures = counted failures

abbrev pub failed_flushes_after : {T E : Type 0} → Result T E → ℕ → ℕ
failed_flushes_after (Ok x) failures = failures
failed_flushes_after (Err e) failures = counted failures

abbrev pub is_flush : {T E : Type 0} → Result T E → Bool
is_flush (Ok x) = true
is_flush (Err e) = false

-- a drain as a sink, apart from the reference that leads to it: it takes no byte for certain
abbrev pub sink_of : DrainTold → SinkTold
sink_of drain = record { identity = 0; contents = drain.taken; failures = drain.failures; room = 0 }
