use Rattle.sd_sink.proofs.laws.PrintLemmas.{prints_then}
use Rattle.sd_sddl_printer.specs.Printed.{acl_flags_text}
use Rattle.sd_sddl_printer.proofs.acl.print_acl_flags.Goals as goal

pub returns : goal.returns
unfolding acl_flags_text
returns g c =
    prints_then c.print_if.ensures (prints_then c.print_if-2.ensures c.print_if-3.ensures)
