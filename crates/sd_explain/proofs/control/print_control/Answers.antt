use Rattle.sd_sink.proofs.laws.PrintLemmas.{prints_then}
use Rattle.sd_explain.specs.Explain.{control_line}
use Rattle.sd_explain.proofs.control.print_control.Goals as goal

pub returns : goal.returns
unfolding control_line
returns g c =
    let word = rw c.from.ensures at c.print_hex.ensures in
    prints_then c.put.ensures (prints_then word (prints_then c.print_codes.ensures c.put-2.ensures))
