use Rattle.sd_run.proofs.engine.answer_text.Goals as goal

pub returns-clause-put : goal.returns-clause-put
returns-clause-put g c = c.put_answer.ensures.put c.args.line.now
    (c.settle.ensures.text _ _ (c.take.ensures.holds _ _ c.start.ensures.empty))

pub returns-clause-compared : goal.returns-clause-compared
returns-clause-compared g c = c.put_answer.ensures.compared c.args.line.now
    (c.settle.ensures.text _ _ (c.take.ensures.holds _ _ c.start.ensures.empty))
