use Rattle.std.proofs.Common.{◌∙◌, ap}
use Rattle.sd_call.specs.Outcomes.{done}
use Rattle.sd_call_access.proofs.ManyLemmas.{answered}
use Rattle.sd_call_access.proofs.many.judge_with.Goals as goal

pub returns-in-Ok-asker_in : goal.returns-in-Ok-asker_in
returns-in-Ok-asker_in c =
    rw c.in-Ok.is
    (answered _ _ _ _ _ _ _ _ _ _ _ (rw c.in-Ok-asker_in.is at c.asker_in.ensures.asker)
    (c.done.ensures ∙ ap done c.count_of.ensures) c.judge.ensures.verdicts)
