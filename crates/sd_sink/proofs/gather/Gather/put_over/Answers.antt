use Rattle.sd_sink.proofs.laws.PrintLemmas.{prints_then}
use Rattle.sd_sink.proofs.gather.Gather.put_over.Goals as goal

pub returns-then-not-self : goal.returns-then-not-self
returns-then-not-self g c = prints_then c.hand_down.ensures.prints c.pass.ensures
