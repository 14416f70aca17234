use Rattle.std.proofs.Common.{refl, arith}
use Rattle.std.proofs.lemmas.Grind.{common_steps}
use Rattle.sd_answer.proofs.line.Line.feed.Goals as goal

pub returns-then-is_too_long-clause-text : goal.returns-then-is_too_long-clause-text
returns-then-is_too_long-clause-text c = grind (arith, common_steps)

pub returns-then-is_too_long-clause-nothing_past : goal.returns-then-is_too_long-clause-nothing_past
returns-then-is_too_long-clause-nothing_past c = λ _. refl

pub returns-in-Sddl-clause-text : goal.returns-in-Sddl-clause-text
returns-in-Sddl-clause-text c = grind (arith, common_steps)
