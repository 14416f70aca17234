use Rattle.sd_sink.proofs.laws.PrintLemmas.{prints_then}
use Rattle.sd_call_edit.proofs.layout.print_edited.Goals as goal

pub returns : goal.returns
returns g c = rw (← c.header_of.ensures) (search prints_then depth 10)
