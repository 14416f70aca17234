use Rattle.std.proofs.Common.{rules}
use Rattle.sd_command.specs.Settings as specs
use Rattle.sd_command.proofs.check_settings.given_level.Goals as goal

pub returns : goal.returns
unfolding specs.given_level
returns c = c.given_if.ensures specs.level_reads (λ text value h. search rules)
