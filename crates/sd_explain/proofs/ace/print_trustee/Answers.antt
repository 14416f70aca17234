use Rattle.sd_sink.proofs.laws.PrintLemmas.{prints_then}
use Rattle.sd_explain.specs.Explain.{ace_trustee}
use Rattle.sd_explain.proofs.ace.print_trustee.Goals as goal

pub returns : goal.returns
unfolding ace_trustee
returns g c = prints_then c.put.ensures (prints_then c.print_sid.ensures c.put-2.ensures)
