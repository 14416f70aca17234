-- The text of a token (MS-DTYP 2.5.2): SIDs parted by commas, with an exclamation mark before each that is deny-only.
use Rattle.std.specs.Prelude.{◌==◌, nat_lt, if◌then◌else◌, List, [], ◌∷◌, length, Option, None, option_map}
use Rattle.std.specs.List.{slice_split}
use Rattle.std.specs.Str.{byte as char}
use Rattle.std.specs.Result.{result_ok}
use Rattle.sd_text.specs.Chains.{all_read}
use Rattle.clap.specs.Words.{Text}
use Rattle.sd_token.specs.Limits.{most_entries}
use Rattle.sd_sid.specs.Sid.{SecurityId}
use Rattle.sd_sid.specs.SidText.{sid_reads}
use Rattle.sd_token.specs.Token.{Entry}
use Rattle.sd_token.specs.declared.token.EntryKind.{EntryKind}
use Rattle.sd_token.specs.declared.token.EntryKind.TheVariants.{Enabled, DenyOnly}

-- what the commas part
abbrev pub cut_at_commas : Text → List Text
cut_at_commas text = slice_split (λ c. c == char ",") text

-- a SID under a domain, if the text reads as one
abbrev pub sid_under : Option SecurityId → Text → Option SecurityId
sid_under domain text = result_ok (sid_reads text domain)

-- a text behind its mark, and what the mark says
abbrev pub marked : Text → Text × EntryKind
marked [] = ([], Enabled)
marked (c ∷ text) = if c == char "!" then (text, DenyOnly) else (c ∷ text, Enabled)

-- an entry of the token
abbrev pub entry_reads : Option SecurityId → Text → Option Entry
entry_reads domain piece = option_map (λ sid. (sid, (marked piece).1)) (sid_under domain (marked piece).0)

-- the entries of a text of at most 1,024 pieces
unfoldable pub entries_read : Option SecurityId → Text → Option (List Entry)
entries_read domain text =
    if nat_lt most_entries (length (cut_at_commas text)) then None
    else all_read (entry_reads domain) (cut_at_commas text)
