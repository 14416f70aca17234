use Rattle.sd_sink.proofs.laws.PrintLemmas.{prints_then}
use Rattle.sd_sddl_printer.proofs.acl.print_acl.Goals as goal

pub returns-in-Null : goal.returns-in-Null
returns-in-Null g c = rw c.in-Null.is
    (prints_then c.put.ensures (prints_then c.print_acl_flags.ensures c.put-in-Null.ensures))

pub returns-in-List : goal.returns-in-List
returns-in-List g c = rw c.in-List.is
    (prints_then c.put-in-List.ensures (prints_then c.print_acl_flags-in-List.ensures c.print_aces.ensures))
