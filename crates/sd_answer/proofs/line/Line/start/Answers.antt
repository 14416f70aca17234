use Rattle.std.proofs.Common.{refl}
use Rattle.sd_answer.proofs.HoldsLemmas.{Holds-nil}
use Rattle.sd_answer.proofs.line.Line.start.Goals as goal

pub returns-clause-empty : goal.returns-clause-empty
returns-clause-empty c = Holds-nil _ _ c.restart.ensures.form refl refl (rw c.clear.ensures c.restart.ensures.read)
