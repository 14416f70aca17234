use Rattle.std.proofs.Common.{◌≡◌, ap, ◌∙◌, map, true}
use Rattle.std.specs.String.{string_bytes}
use Rattle.clap.specs.Words.{App, HasMatchesOf, app_of, fault_of, is_simple, is_simple_and_free, subcommand_of}
use Rattle.clap.specs.Words.{subcommand_rows_of, takes}
use Rattle.sd_command.specs.CommandLine.{line}
use Rattle.sd_command.proofs.ParseLemmas.{by-kinds, kept, line-simple, line-free, only-memory}
use Rattle.sd_command.proofs.parse.parse_words.Goals as goal

pub returns-clause-ok : goal.returns-clause-ok
returns-clause-ok c =
    let words = map string_bytes c.args.words.now in
    let line_is = c.in_ok-command.ensures in
    kept (HasMatchesOf (app_of c.in_ok-command.command) words) (λ m. subcommand_rows_of m ≡ subcommand_of line words)
    (λ m has. (has (ap is_simple line_is ∙ line-simple)).1 ∙ ap (λ (a : App). subcommand_of a words) line_is)
    c.try_get_matches_from.result c.with_reason.result c.with_reason.ensures c.try_get_matches_from.ensures.matches

pub returns-clause-takes : goal.returns-clause-takes
returns-clause-takes c =
    let words = map string_bytes c.args.words.now in
    let line_is = c.in_ok-command.ensures in
    only-memory (takes (app_of c.in_ok-command.command) words ≡ true) (takes line words ≡ true)
    (λ taken. ap (λ (a : App). takes a words) line_is ∙ taken) c.try_get_matches_from.result c.with_reason.result
    c.with_reason.ensures c.try_get_matches_from.ensures.passes

pub returns-clause-kinds : goal.returns-clause-kinds
returns-clause-kinds c =
    let words = map string_bytes c.args.words.now in
    let line_is = c.in_ok-command.ensures in
    by-kinds (fault_of (app_of c.in_ok-command.command) words) (fault_of line words)
    (ap (λ (a : App). fault_of a words) line_is) c.try_get_matches_from.result c.with_reason.result
    c.with_reason.ensures (c.try_get_matches_from.ensures.kinds (ap is_simple_and_free line_is ∙ line-free))
