use Rattle.std.proofs.Common.{◌≡◌, ◌<◌, ◌-◌, ◌+◌, ◌∷◌, ℕ, List, ap, ◌∙◌, sym, arith, drop, length, take, rules}
use Rattle.std.proofs.lemmas.List.{length-take, take_rest}
use Rattle.sd_run.proofs.FirstLineLemmas.{cut-at, lines-none, lines-only}
use Rattle.sd_run.proofs.cut.first_line.Goals as goal

pub returns-then-is_empty-clause-cut : goal.returns-then-is_empty-clause-cut
returns-then-is_empty-clause-cut c = lines-none c.args.bytes.now (search rules)

pub returns-in-Some-clause-cut : goal.returns-in-Some-clause-cut
returns-in-Some-clause-cut c =
    cut-at c.args.bytes.now c.in-Some.n c.without_cr.result.now _ c.in-Some.ensures.found.0 c.in-Some.ensures.found.1
    c.in-Some.ensures.before c.without_cr.ensures (take_rest c.args.bytes.now (c.in-Some.n + 1))

pub returns-in-None-clause-cut : goal.returns-in-None-clause-cut
returns-in-None-clause-cut c =
    let bytes = c.args.bytes.now in
    let n = length bytes in
    let some : 0 < length bytes = search rules in
    let none : length (take (n - n) (drop n bytes)) ≡ 0 = omega (arith, length-take (n - n) (drop n bytes)) in
    lines-only bytes c.in-None.ensures.before some
    ∙ ap (λ (others : List (List ℕ)). bytes ∷ others) (sym (lines-none (take (n - n) (drop n bytes)) none))
