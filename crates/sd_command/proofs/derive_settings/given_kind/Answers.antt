use Rattle.std.proofs.Common.{rules}
use Rattle.sd_command.specs.Settings as specs
use Rattle.sd_command.proofs.derive_settings.given_kind.Goals as goal

pub returns : goal.returns
unfolding specs.given_kind
returns c = c.given_needed.ensures specs.target_reads (λ text value h. search rules)
