use Rattle.std.proofs.Common.{ap, ◌∙◌}
use Rattle.sd_answer.specs.declared.job.Task.{Task}
use Rattle.sd_run.proofs.CreatorLemmas.{creator-read}
use Rattle.sd_run.proofs.engine.Engine.set_creator.Goals as goal

pub returns-clause-creator : goal.returns-clause-creator
returns-clause-creator c =
    let domain = c.as_ref.ensures.value ∙ ap (λ (t : Task). t.job.domain) c.self.view_is in
    creator-read _ _ _ (rw domain at c.read_sddl.ensures.exact)
