use Rattle.sd_answer.proofs.ReadingLemmas.{sddl-leaves}
use Rattle.sd_answer.proofs.line.Line.finish.Goals as goal

pub returns-in-Sddl-clause-leaves : goal.returns-in-Sddl-clause-leaves
returns-in-Sddl-clause-leaves c = λ job text h within.
    sddl-leaves job c.args.self.now c.in-Sddl.reader text c.end.result _ _ h within
    c.in-Sddl.is c.end.ensures.exact c.map_err-in-Sddl.ensures.cases
