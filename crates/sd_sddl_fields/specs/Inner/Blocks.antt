-- The bytes that a block is told by.
use Rattle.std.specs.Prelude.{ℕ, Bool, ◌&&◌, nat_lt}
use Rattle.std.specs.Str.{byte as char}
use Rattle.sd_sddl_fields.specs.Held.{is_plain_text}

-- a byte of a field outside parentheses that comes behind the closing one, as all but a few do
abbrev pub is_plain_late : ℕ → Bool
is_plain_late b = is_plain_text b && nat_lt (char ")") b
