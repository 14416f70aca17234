-- A text that a byte cuts.
use Rattle.std.specs.Prelude.{ℕ, ◌==◌, if◌then◌else◌, List, [], ◌∷◌}

-- what stands before the first such byte, and what follows each of them up to the next one
pub record Cuts : Type 0 where
  pub first : List ℕ
  pub others : List (List ℕ)

abbrev pub all_cuts : Cuts → List (List ℕ)
all_cuts cuts = cuts.first ∷ cuts.others

-- a byte goes onto the first of what follows it
abbrev pub with_byte : ℕ → ℕ → Cuts → Cuts
with_byte mark b cuts =
    if b == mark then record { first = []; others = cuts.first ∷ cuts.others }
    else record { first = b ∷ cuts.first; others = cuts.others }

-- a text cut at each byte that is this mark
abbrev pub cut_at : ℕ → List ℕ → Cuts
cut_at mark [] = record { first = []; others = [] }
cut_at mark (b ∷ bs) = with_byte mark b (cut_at mark bs)
