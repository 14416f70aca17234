-- What a printer tells, and what a call does to it.
use Rattle.std.specs.Prelude.{◌≡◌, ℕ, List, [], ◌++◌, Bool, true, false, Result, Ok, Err}
use Rattle.sd_sink.specs.Sink.{SinkTold, PutAll, PutSome, Puts}
use Rattle.sd_sink.specs.declared.sink.SinkFault.{SinkFault}

pub record PrintTold : Type 0 where
  -- which reference it prints through: no call replaces it
  pub identity : ℕ
  -- a call failed: from then on nothing is handed down
  pub failed : Bool
  -- what the sink below tells
  pub below : SinkTold
  -- the bytes that were not handed down yet
  pub held : List ℕ

-- all that is handed down went, and the rest is held
pub record Passes (old new : PrintTold) (text : List ℕ) : Type 0 where
  pub part : List ℕ
  pub put : PutAll old.below new.below part
  pub rest : part ++ new.held ≡ old.held ++ text

-- a text was printed: handed down or held, or a prefix of it and of what was held went down and a call failed
pub record Prints (old new : PrintTold) (text : List ℕ) : Type 0 where
  pub identity : new.identity ≡ old.identity
  pub below_identity : new.below.identity ≡ old.below.identity
  pub whole : old.failed ≡ false → new.failed ≡ false → Passes old new text
  pub some : old.failed ≡ false → new.failed ≡ true → PutSome old.below new.below (old.held ++ text)
  pub stays : old.failed ≡ true → new.failed ≡ true
  pub none : old.failed ≡ true → new.below ≡ old.below

abbrev pub failed_of : Result (Unit {0}) SinkFault → Bool
failed_of (Ok done) = false
failed_of (Err fault) = true

-- what is held went down, and the result says whether all of the calls went well
pub record Finishes (old new : PrintTold) (result : Result (Unit {0}) SinkFault) : Type 0 where
  pub identity : new.identity ≡ old.identity
  pub below_identity : new.below.identity ≡ old.below.identity
  pub puts : old.failed ≡ false → Puts old.below new.below old.held result
  pub none : old.failed ≡ true → new.below ≡ old.below
  pub fault : old.failed ≡ true → result ≡ Err (record {})
  pub tells : new.failed ≡ failed_of result
  pub empty : new.failed ≡ false → new.held ≡ []

-- a printer that has just begun, over a sink that tells this
pub record Begins (told : SinkTold) (new : PrintTold) : Type 0 where
  pub below : new.below ≡ told
  pub unfailed : new.failed ≡ false
  pub nothing_held : new.held ≡ []
