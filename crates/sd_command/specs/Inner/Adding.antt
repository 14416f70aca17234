-- What a token has after the pieces of a text, one after the other. Private contracts alone cite these words; they
-- promise nothing to a caller.
use Rattle.std.specs.Prelude.{nat_lt, Result, Ok, Err, if◌then◌else◌, ◌++◌, List, [], ◌∷◌, length, Option, Some, None}
use Rattle.std.specs.Option.{option_and_then}
use Rattle.clap.specs.Words.{Text}
use Rattle.sd_token.specs.Limits.{most_entries}
use Rattle.sd_sid.specs.Sid.{SecurityId}
use Rattle.sd_token.specs.Token.{Entry}
use Rattle.sd_command.specs.TokenText.{entry_reads}
use Rattle.sd_command.specs.declared.settings.UsageFault.{UsageFault}

-- one entry more, if it reads and there is room
abbrev pub with_entry : List Entry → Option Entry → Option (List Entry)
with_entry entries None = None
with_entry entries (Some e) = if nat_lt (length entries) most_entries then Some (entries ++ e ∷ []) else None

abbrev pub with_pieces : Option SecurityId → List Text → List Entry → Option (List Entry)
with_pieces domain [] entries = Some entries
with_pieces domain (p ∷ ps) entries =
    option_and_then (with_pieces domain ps) (with_entry entries (entry_reads domain p))

-- a value where there is no fault
abbrev pub gives : {A B : Type 0} → A → Result B UsageFault → Result A UsageFault
gives value (Err fault) = Err fault
gives value (Ok other) = Ok value
