-- The lines of some bytes.
use Rattle.std.specs.Prelude.{◌≡◌, ◌<◌, ℕ, Bool, false, All, List, [], ◌∷◌, ◌++◌, ◌==◌, if◌then◌else◌, map}
use Rattle.std.specs.List.{flat_map, list_any}
use Rattle.sd_answer.specs.LineEnd.{line_feed, without_cr}

-- numbers that are bytes
abbrev pub AreBytes : List ℕ → Type 0
AreBytes bytes = All (λ b. b < 256) bytes

-- what each LF ends, in order, and what follows the last LF
pub record LineCut : Type 0 where
  pub ended : List (List ℕ)
  pub rest : List ℕ

-- a byte goes onto the first line of what follows it
abbrev pub onto_first_line : ℕ → List (List ℕ) → List ℕ → LineCut
onto_first_line b [] rest = record { ended = []; rest = b ∷ rest }
onto_first_line b (line ∷ others) rest = record { ended = (b ∷ line) ∷ others; rest = rest }

unfoldable pub cut_at_line_feeds : List ℕ → LineCut
cut_at_line_feeds [] = record { ended = []; rest = [] }
cut_at_line_feeds (b ∷ bytes) =
    if b == line_feed
    then record { ended = [] ∷ (cut_at_line_feeds bytes).ended; rest = (cut_at_line_feeds bytes).rest }
    else onto_first_line b (cut_at_line_feeds bytes).ended (cut_at_line_feeds bytes).rest

-- the lines that an LF ended
unfoldable pub ended : List ℕ → List (List ℕ)
ended bytes = map without_cr (cut_at_line_feeds bytes).ended

-- what follows the last LF is a line where it is not empty, and keeps its CR
abbrev pub last_line : List ℕ → List (List ℕ)
last_line [] = []
last_line (b ∷ bytes) = (b ∷ bytes) ∷ []

unfoldable pub lines : List ℕ → List (List ℕ)
lines bytes = ended bytes ++ last_line (cut_at_line_feeds bytes).rest

-- What fixes the cut by itself: the bytes are the ended lines, each with its LF, and then the rest, and no LF stands in
-- any of these.

abbrev pub has_lf : List ℕ → Bool
has_lf bytes = list_any (λ b. b == line_feed) bytes

pub record IsCut (bytes : List ℕ) (p : LineCut) : Type 0 where
  pub joined : flat_map (λ line. line ++ line_feed ∷ []) p.ended ++ p.rest ≡ bytes
  pub ended_without : list_any has_lf p.ended ≡ false
  pub rest_without : has_lf p.rest ≡ false

abbrev pub LinesAreCut : Type 0
LinesAreCut = (bytes : List ℕ) → IsCut bytes (cut_at_line_feeds bytes)
