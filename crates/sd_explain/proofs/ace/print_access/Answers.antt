use Rattle.sd_sink.proofs.laws.PrintLemmas.{prints_then}
use Rattle.sd_explain.specs.Explain.{ace_rights}
use Rattle.sd_explain.proofs.ace.print_access.Goals as goal

pub returns : goal.returns
unfolding ace_rights
returns g c =
    let mask = rw c.from.ensures at c.print_hex.ensures in
    prints_then c.put.ensures (prints_then c.print_flags_or_none.ensures
    (prints_then c.put-2.ensures (prints_then mask (prints_then c.put-3.ensures c.print_rights.ensures))))
