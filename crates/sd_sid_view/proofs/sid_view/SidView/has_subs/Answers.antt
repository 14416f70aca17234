use Rattle.std.proofs.Common.{◌-◌, ◌∙◌, arith, refl, sym}
use Rattle.std.proofs.lemmas.Bool.Decides.{nat_tests}
use Rattle.std.proofs.lemmas.Bool.{and_parts}
use Rattle.sd_sid_view.proofs.ViewLemmas.{block_decides, ends_decide, joined_fronts}
use Rattle.sd_sid_view.proofs.sid_view.SidView.has_subs.Goals as goal

pub returns-then-last-le4 : goal.returns-then-last-le4
returns-then-last-le4 c =
    let ends = and_parts c.has_four.result c.has_four-2.result c.if-not-has_four.false in
    sym (ends_decide 4 4 (c.count-count.result - 4) c.args.self.now.subs c.args.subs.now (sym c.requires)
    (omega (arith, c.requires, c.count-count.ensures.value, c.if-count-lt4.false)) c.if-last-le4.true
    (sym c.has_four.ensures ∙ ends.0) (sym c.has_four-2.ensures ∙ ends.1))

pub returns-then-last-le8 : goal.returns-then-last-le8
returns-then-last-le8 c =
    let ends = and_parts c.has_four.result c.has_four-2.result c.if-not-has_four.false in
    let front = joined_fronts 4 4 8 c.args.self.now.subs c.args.subs.now refl (sym c.has_four.ensures ∙ ends.0)
    (sym c.has_four-3.ensures ∙ c.if-not-has_four-2.false) in
    let all = ends_decide 8 4 (c.count-count.result - 4) c.args.self.now.subs c.args.subs.now (sym c.requires)
    (omega (arith, c.requires, c.count-count.ensures.value, c.if-count-lt4.false)) c.if-last-le8.true
    front (sym c.has_four-2.ensures ∙ ends.1) in
    grind (arith, nat_tests)

pub returns-else-last-le8 : goal.returns-else-last-le8
returns-else-last-le8 c =
    let ends = and_parts c.has_four.result c.has_four-2.result c.if-not-has_four.false in
    let front = joined_fronts 4 4 8 c.args.self.now.subs c.args.subs.now refl (sym c.has_four.ensures ∙ ends.0)
    (sym c.has_four-3.ensures ∙ c.if-not-has_four-2.false) in
    c.has_four-else-last-le8.ensures
    ∙ block_decides 8 (c.count-count.result - 4) c.args.self.now.subs c.args.subs.now (sym c.requires)
    (omega (arith, c.requires, c.count-count.ensures.value, c.if-count-lt4.false))
    (omega (arith, c.count-count.ensures)) front (sym c.has_four-2.ensures ∙ ends.1)
