use Rattle.std.proofs.Common.{◌≡◌, ◌∙◌, sym, arith, false}
use Rattle.std.specs.Prelude.{◌==◌}
use Rattle.std.specs.Char.{to_ascii_uppercase}
use Rattle.std.proofs.lemmas.Bool.Decides.{nat_tests}
use Rattle.sd_sddl_fields.proofs.laws.FlagRuns.{run-p, run-pair}
use Rattle.sd_sddl_fields.proofs.field_texts.flags_from_run.Goals as goal

pub loop-first-preserved-then-to_ascii_uppercase-eq80 :
    goal.loop-first-preserved-then-to_ascii_uppercase-eq80
loop-first-preserved-then-to_ascii_uppercase-eq80 c =
    run-p _ _ _ _ c.in-Some.ensures.cases.0 (sym c.to_ascii_uppercase.ensures.value ∙ c.if-to_ascii_uppercase-eq80.true)
    ∙ c.loop-first.invariant

pub loop-first-preserved : goal.loop-first-preserved
loop-first-preserved c =
    let other : (to_ascii_uppercase c.in-Some.first.now == 80) ≡ false = rw (← c.to_ascii_uppercase.ensures.value)
    (let n = c.if-to_ascii_uppercase-eq80.false in grind (arith, nat_tests)) in
    run-pair _ _ _ _ _ _ _ c.in-Some.ensures.cases.0 c.in_ok-second.ensures.cases.0 other c.in_ok-flags.ensures
    ∙ c.loop-first.invariant
