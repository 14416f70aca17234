-- The characters that end a line.
use Rattle.std.specs.Prelude.{ℕ, List, [], ◌∷◌, ◌==◌, if◌then◌else◌}
use Rattle.std.specs.Str.{byte as char}

abbrev pub line_feed : ℕ
line_feed = char "\n"

abbrev pub carriage_return : ℕ
carriage_return = char "\r"

-- a line without the one CR at its end, if it has one
unfoldable pub without_cr : List ℕ → List ℕ
without_cr [] = []
without_cr (b ∷ []) = if b == carriage_return then [] else b ∷ []
without_cr (b ∷ c ∷ bytes) = b ∷ without_cr (c ∷ bytes)
