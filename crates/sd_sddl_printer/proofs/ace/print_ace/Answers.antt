use Rattle.std.proofs.Common.{append_assoc, refl}
use Rattle.sd_sink.proofs.laws.PrintLemmas.{prints_as, prints_then}
use Rattle.sd_sddl_printer.specs.Printed.{ace_text, flags_field, rights_field, trustee_field}
use Rattle.sd_sddl_printer.proofs.ace.print_ace.Goals as goal

pub returns : goal.returns
unfolding ace_text flags_field rights_field trustee_field
returns g c =
    let kind = rw c.kind-kind.ensures.value at c.print_kind.ensures in
    let flags = rw c.flags.ensures at c.print_flags.ensures in
    let rights = rw (c.kind-kind.ensures.value, c.mask.ensures) at c.print_rights.ensures in
    let trustee = rw c.sid_in_place.ensures at c.print_trustee.ensures in
    prints_as (simp append_assoc refl)
    (prints_then kind (prints_then flags (prints_then c.put.ensures (prints_then rights
    (prints_then c.print_objects.ensures (prints_then trustee c.put-2.ensures))))))
