use Rattle.sd_sink.proofs.laws.PrintLemmas.{prints_then}
use Rattle.sd_explain.specs.Explain.{ace_head}
use Rattle.sd_explain.proofs.ace.print_head.Goals as goal

pub returns : goal.returns
unfolding ace_head
returns g c =
    prints_then c.put.ensures (prints_then c.print_decimal.ensures c.print_kind.ensures)
