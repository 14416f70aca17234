use Rattle.std.proofs.Common.{◌≡◌, [], length}
use denote.Text.{Utf8}
use denote.Shadow.{shadow}
use Rattle.std.specs.Option.{option_copied}
use Rattle.sd_command.specs.Inner.Adding.{with_pieces}
use Rattle.sd_command.specs.TokenText.{cut_at_commas}
use Rattle.sd_command.proofs.token_text.add_entries.Given as goal

abbrev pub invariant-loop-piece : goal.invariant-loop-piece
invariant-loop-piece l = shadow (Utf8 l.rest)
    × (with_pieces (option_copied l.domain) (cut_at_commas l.rest) l.token.holder.entries
    ≡ with_pieces (option_copied l.fn.domain) (cut_at_commas l.fn.text) [])
    × (l.token.compared ≡ l.fn.token.compared)

abbrev pub decreases-loop-piece : goal.decreases-loop-piece
decreases-loop-piece l = length l.rest
