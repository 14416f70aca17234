use Rattle.std.proofs.Common.{append_assoc}
use Rattle.sd_sink.proofs.laws.PrintLemmas.{prints_then}
use Rattle.sd_sddl_printer.specs.Printed.{dacl_text, group_text, owner_text, sacl_text, sddl}
use Rattle.sd_sddl_printer.proofs.printed.print_sddl.Goals as goal

pub returns-clause-printed : goal.returns-clause-printed
unfolding sddl owner_text group_text dacl_text sacl_text
returns-clause-printed g c =
    let owner = rw c.owner_in_place.ensures at c.print_sid.ensures in
    let group = rw c.group_in_place.ensures at c.print_sid-2.ensures in
    let dacl = rw (c.of-dacl_flags.ensures, c.control-control.ensures.value, c.dacl.ensures) at c.print_acl.ensures in
    let sacl = rw (c.of-sacl_flags.ensures, c.control-control.ensures.value, c.sacl.ensures) at c.print_acl-2.ensures in
    rw (← c.copied.ensures, append_assoc) (prints_then owner (prints_then group (prints_then dacl sacl)))
