use Rattle.std.proofs.Common.{◌∙◌}
use Rattle.sd_text.proofs.laws.NameLaws.{run-step, run-end}
use Rattle.sd_text.proofs.names.read_names.Goals as goal

pub loop-first-preserved : goal.loop-first-preserved
loop-first-preserved g c =
    run-step _ _ _ _ _ _ _ _ c.in-Some.ensures.cases.0 c.in_ok-second.ensures.cases.0 c.in_ok-bits.ensures
    ∙ c.loop-first.invariant

pub returns : goal.returns
returns g c = run-end _ _ _ c.in_default.ensures.cases ∙ c.loop-first.invariant
