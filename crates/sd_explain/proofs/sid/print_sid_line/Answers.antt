use Rattle.sd_sink.proofs.laws.PrintLemmas.{prints_then}
use Rattle.sd_explain.specs.Explain.{sid_line}
use Rattle.sd_explain.proofs.sid.print_sid_line.Goals as goal

pub returns : goal.returns
unfolding sid_line
returns g c = prints_then c.put.ensures (prints_then c.print_sid_or_none.ensures c.put-2.ensures)
