use Rattle.sd_sink.proofs.laws.PrintLemmas.{prints_then}
use Rattle.sd_explain.specs.Explain.{explain}
use Rattle.sd_explain.proofs.explain.print_explain.Goals as goal

pub returns-clause-printed : goal.returns-clause-printed
unfolding explain
returns-clause-printed g c =
    let control = rw c.control.ensures.value at c.print_control.ensures in
    let rm = rw c.rm.ensures at c.print_rm.ensures in
    let owner = rw c.owner_in_place.ensures at c.print_sid_line.ensures in
    let group = rw c.group_in_place.ensures at c.print_sid_line-2.ensures in
    let dacl = rw c.dacl.ensures at c.print_acl.ensures in
    let sacl = rw c.sacl.ensures at c.print_acl-2.ensures in
    let acls = prints_then dacl (prints_then sacl c.put.ensures) in
    rw (← c.copied.ensures) (prints_then control (prints_then rm (prints_then owner (prints_then group acls))))
