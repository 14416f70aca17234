use Rattle.std.proofs.Common.{◌≡◌, ◌==◌, ◌∷◌, ◌++◌, ℕ, [], ap, ◌∙◌, sym, false, rules}
use Rattle.sd_answer.specs.LineEnd.{without_cr}
use Rattle.sd_answer.proofs.laws.LineEnds.{with-cr, without-cr}
use Rattle.sd_run.proofs.FirstLineLemmas.{without-none}
use Rattle.sd_run.proofs.cut.without_cr.Goals as goal

pub returns-in-Some : goal.returns-in-Some
returns-in-Some c =
    let last : c.in-Some.last.now ≡ 13 = search rules in
    sym (ap without_cr c.in-Some.ensures.cases.0
    ∙ ap (λ (b : ℕ). without_cr (c.in-Some.front.now ++ b ∷ [])) last ∙ with-cr c.in-Some.front.now)

pub returns-in_default : goal.returns-in_default
returns-in_default c =
    let other : (c.in-Some.last.now == 13) ≡ false = search rules in
    let line = c.in-Some.ensures.cases.0 in
    line ∙ sym (ap without_cr line ∙ without-cr c.in-Some.front.now c.in-Some.last.now other)

pub returns-in_default-2 : goal.returns-in_default-2
returns-in_default-2 c = sym (without-none c.args.line.now (search rules))
