-- Where the entry of two letters stands in the tables of aliases, one after the other, and that of a SID.
use Rattle.std.specs.Prelude.{ℕ, ◌+◌, ◌*◌, ◌-◌, ◌/◌, ◌%◌, ◌^◌, get_or}
use Rattle.std.specs.Str.{byte as char}
use Rattle.sd_alias.specs.declared.places.TheConstants.{LETTERS, NO, PLACES, SID_PLACES, SID_SPREAD}

-- its row is that of the first letter, and its column that of the second
unfoldable pub place_of : ℕ → ℕ → ℕ
place_of first second = get_or PLACES (LETTERS * (first - char "A") + (second - char "A")) NO

-- the cell is told by the authority and the last sub-authority
unfoldable pub sid_place : ℕ → ℕ → ℕ
sid_place authority last =
    get_or SID_PLACES ((authority + last * 32) % 2 ^ 64 * SID_SPREAD % 2 ^ 64 / 2 ^ 57) NO
