-- What a sink tells, and what a call does to it.
use Rattle.std.specs.Prelude.{◌≡◌, ◌<◌, ℕ, ◌-◌, List, ◌++◌, length, Option, Result, Ok, Err}
use Rattle.std.specs.Io.KnownBytes.{Appends}
use Rattle.sd_sink.specs.Counts.{counted}
use Rattle.sd_sink.specs.declared.sink.SinkFault.{SinkFault}

pub record SinkTold : Type 0 where
  -- which reference it writes through, for a sink that holds one (else 0): no call replaces it
  pub identity : ℕ
  -- the bytes that were appended so far, where they are known
  pub contents : Option (List ℕ)
  -- how many calls failed
  pub failures : ℕ
  -- how many more bytes it takes for certain: none for a device, and what is left of a buffer
  pub room : ℕ

-- the list goes on from the part
abbrev pub IsPrefix : List ℕ → List ℕ → Type 0
IsPrefix part all = (rest : List ℕ) × (all ≡ part ++ rest)

-- all of a text was appended
pub record PutAll (old new : SinkTold) (text : List ℕ) : Type 0 where
  pub identity : new.identity ≡ old.identity
  pub appended : Appends old.contents new.contents text
  pub no_failure : new.failures ≡ old.failures
  pub room : new.room ≡ old.room - length text

-- a prefix of a text was appended, and one call failed; the text has more bytes than there was room for
pub record PutSome (old new : SinkTold) (text : List ℕ) : Type 0 where
  pub identity : new.identity ≡ old.identity
  pub part : List ℕ
  pub is_prefix : IsPrefix part text
  pub appended : Appends old.contents new.contents part
  -- the failed call was the last one: a further one may fail, and then there were two
  pub failed : new.failures ≡ counted old.failures
  pub beyond : old.room < length text

-- what a call that puts a text did: all of it, or a prefix and a failure
abbrev pub Puts : SinkTold → SinkTold → List ℕ → Result (Unit {0}) SinkFault → Type 0
Puts old new text (Ok done) = PutAll old new text
Puts old new text (Err fault) = PutSome old new text
