-- The rows of a column of bytes or texts, as Arrow lays it out.
use Rattle.std.specs.Prelude.{ℕ, List, [], ◌∷◌, ◌&&◌, if◌then◌else◌, length, nat_le, slice_range, Result, Ok, Err}
use Rattle.sd_call.specs.declared.outcome.CallFault.{CallFault}
use Rattle.sd_call.specs.declared.outcome.CallFault.TheVariants as call
use Rattle.sd_call.specs.declared.argument.Argument.TheVariants as which
use Rattle.sd_call.specs.declared.column.Offsets.{Offsets}
use Rattle.sd_call.specs.declared.column.Offsets.TheVariants.{Large, Small}

-- the offsets, whichever size they have
abbrev pub numbers : Offsets → List ℕ
numbers (Small offsets) = offsets.now
numbers (Large offsets) = offsets.now

-- The row from an offset up to the next one. Offsets that decrease or pass the end of the bytes are a fault of the row.
unfoldable pub row_between : List ℕ → ℕ → ℕ → Result (List ℕ) CallFault
row_between bytes from to =
    if nat_le from to && nat_le to (length bytes) then Ok (slice_range bytes from to)
    else Err (call.Argument which.Offsets 0)

-- the rows behind an offset
abbrev pub rows_from : List ℕ → ℕ → List ℕ → List (Result (List ℕ) CallFault)
rows_from bytes from [] = []
rows_from bytes from (to ∷ others) = row_between bytes from to ∷ rows_from bytes to others

-- There is an offset more than there are rows.
abbrev pub rows : List ℕ → List ℕ → List (Result (List ℕ) CallFault)
rows bytes [] = []
rows bytes (from ∷ others) = rows_from bytes from others
