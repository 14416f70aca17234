use Rattle.sd_sink.proofs.laws.PrintLemmas.{prints_then}
use Rattle.sd_explain.specs.Explain.{rm_line}
use Rattle.sd_explain.proofs.control.print_rm.Goals as goal

pub returns : goal.returns
unfolding rm_line
returns g c =
    let byte = rw c.from.ensures at c.print_hex.ensures in
    prints_then c.put.ensures (prints_then byte c.put-2.ensures)
