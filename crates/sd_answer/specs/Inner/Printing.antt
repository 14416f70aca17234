-- What a part of an answer prints.
use Rattle.std.specs.Prelude.{◌≡◌, ℕ, List, Bool}
use Rattle.sd_sink.specs.Print.{PrintTold, Prints}

-- the answer and its LF were printed, with whether it is an error
abbrev pub PrintsAnswer : PrintTold → PrintTold → List ℕ → Bool → Bool → Type 0
PrintsAnswer old new text error faulty = Prints old new text × (faulty ≡ error)
