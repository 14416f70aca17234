use Rattle.std.proofs.Common.{rules}
use Rattle.sd_rights.specs.Rights.{rights_reads}
use Rattle.sd_command.specs.Settings as specs
use Rattle.sd_command.proofs.check_settings.given_want.Goals as goal

pub returns : goal.returns
unfolding specs.given_want
returns c = c.given_or.ensures rights_reads (λ text value h. search rules)
