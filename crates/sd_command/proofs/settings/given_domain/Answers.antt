use Rattle.std.proofs.Common.{rules}
use Rattle.sd_command.specs.Settings as specs
use Rattle.sd_command.proofs.settings.given_domain.Goals as goal

pub returns : goal.returns
unfolding specs.given_domain
returns c = c.given_if.ensures specs.domain_reads (λ text value h. search rules)
