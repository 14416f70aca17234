use Rattle.sd_sink.proofs.laws.PrintLemmas.{prints_then}
use Rattle.sd_sddl_printer.proofs.printed.print_sid.Goals as goal

pub returns-in-Some : goal.returns-in-Some
returns-in-Some g c = rw c.in-Some.is (prints_then c.put.ensures c.print_trustee.ensures)
