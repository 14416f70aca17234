use Rattle.sd_sink.proofs.laws.PrintLemmas.{prints_then}
use Rattle.sd_answer.proofs.answer.print_error.Goals as goal

pub returns : goal.returns
returns g c = (prints_then c.print_fault.ensures c.print_end.ensures.0, c.print_end.ensures.1)
