use Rattle.std.proofs.Common.{arith, ◌∙◌}
use Rattle.sd_sid_view.proofs.ViewLemmas.{sub-at}
use Rattle.sd_sid.proofs.laws.SidLaws.{subs-count}
use Rattle.sd_sid_view.proofs.sid_view.SidView.sub.Goals as goal

pub overflow_mul-at : goal.overflow_mul-at
overflow_mul-at c =
    let count = subs-count c.self.inside.bytes.now c.args.self.now c.self.view_is in
    omega (arith, count, c.requires, c.self.invariant.0)

pub overflow_add-at : goal.overflow_add-at
overflow_add-at c =
    let count = subs-count c.self.inside.bytes.now c.args.self.now c.self.view_is in
    omega (arith, count, c.requires, c.self.invariant.0)

pub word_at-requires : goal.word_at-requires
word_at-requires c =
    let count = subs-count c.self.inside.bytes.now c.args.self.now c.self.view_is in
    omega (arith, count, c.requires, c.self.invariant.1)

pub returns : goal.returns
returns c = c.word_at.ensures ∙ sub-at c.self.inside.bytes.now c.args.self.now c.args.at c.self.view_is c.requires
