-- What contracts see of answers that wait.
use Rattle.std.specs.Prelude.{ℕ, List, Option, Bool}

pub record HeldTold : Type 0 where
  -- the bytes that were written, where they are known
  pub contents : Option (List ℕ)
  -- those of them that still wait
  pub waiting : List ℕ
  -- a call failed
  pub failed : Bool
