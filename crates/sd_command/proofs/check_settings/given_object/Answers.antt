use Rattle.std.proofs.Common.{rules}
use Rattle.sd_ace.specs.GuidText.{guid_reads}
use Rattle.sd_command.specs.Settings as specs
use Rattle.sd_command.proofs.check_settings.given_object.Goals as goal

pub returns : goal.returns
unfolding specs.given_object
returns c = c.given_if.ensures guid_reads (λ text value h. search rules)
