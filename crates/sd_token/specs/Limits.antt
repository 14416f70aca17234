-- The limit of a token. The standard has none (MS-DTYP 2.5.2); this is what the library holds.
use Rattle.std.specs.Prelude.{◌≡◌, ℕ}
use Rattle.sd_token.specs.declared.limits.TheConstants.{MOST_ENTRIES}

-- the entries of a token
abbrev pub most_entries : ℕ
most_entries = 1024

-- it and the code's constant, written out
unfoldable pub LimitValues : Type 0
LimitValues = (most_entries ≡ 1024) × (MOST_ENTRIES ≡ 1024)
