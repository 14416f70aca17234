use Rattle.std.proofs.Common.{rules}
use Rattle.sd_command.specs.Settings as specs
use Rattle.sd_command.proofs.settings.given_output_form.Goals as goal

pub returns : goal.returns
unfolding specs.given_output_form
returns c = c.given_or.ensures specs.output_form_reads (λ text value h. search rules)
