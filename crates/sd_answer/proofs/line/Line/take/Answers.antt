use Rattle.std.proofs.Common.{rules}
use Rattle.sd_answer.proofs.HoldsLemmas.{Holds-last_cr, Holds-last}
use Rattle.sd_answer.proofs.line.Line.take.Goals as goal

pub returns-then-self-clause-holds : goal.returns-then-self-clause-holds
returns-then-self-clause-holds c = λ job raw h.
    let text = c.settle.ensures.text job raw h in
    Holds-last_cr job _ raw c.args.bytes.now c.in-Some.front.now c.in-Some.last.now c.in-Some.ensures.cases.0
    (search rules) (search rules)
    (c.feed.ensures.text job raw (record { form = text.form; counted = text.counted; whole = text.whole }))

pub returns-else-self-clause-holds : goal.returns-else-self-clause-holds
returns-else-self-clause-holds c = λ job raw h.
    let text = c.settle.ensures.text job raw h in
    Holds-last job _ raw c.args.bytes.now c.in-Some.front.now c.in-Some.last.now c.in-Some.ensures.cases.0
    (search rules) (search rules)
    (c.feed-else-self.ensures.text job raw (record { form = text.form; counted = text.counted; whole = text.whole }))
