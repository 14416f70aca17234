use Rattle.std.proofs.Common.{ap, ◌∙◌}
use Rattle.clap.specs.Words.{Text, first_of, found_of, rows_of}
use Rattle.clap.proofs.WalkLemmas.{first_value-rows}
use Rattle.sd_command.proofs.settings.text_of.Goals as goal

pub returns : goal.returns
returns c =
    c.get_str.ensures
    ∙ first_value-rows (found_of c.args.matches.now) c.text.result.now
    ∙ ap (λ (id : Text). first_of id (rows_of (found_of c.args.matches.now))) c.text.ensures
