use Rattle.sd_sink.proofs.laws.PrintLemmas.{prints_then}
use Rattle.sd_explain.specs.Explain.{count_line}
use Rattle.sd_explain.proofs.acl.print_count.Goals as goal

pub returns : goal.returns
unfolding count_line
returns g c =
    let count = rw c.from.ensures at c.print_decimal.ensures in
    prints_then c.put.ensures (prints_then c.put-2.ensures (prints_then count c.put-3.ensures))
