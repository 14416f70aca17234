use Rattle.sd_sink.proofs.laws.PrintLemmas.{prints_then}
use Rattle.sd_explain.specs.Explain.{ace_line}
use Rattle.sd_explain.proofs.ace.print_ace.Goals as goal

pub returns : goal.returns
unfolding ace_line
returns g c =
    let head = rw c.kind-kind.ensures.value at c.print_head.ensures in
    let access = rw (c.kind-kind.ensures.value, c.flags.ensures, c.mask.ensures) at c.print_access.ensures in
    let object = rw c.object.ensures at c.print_object.ensures in
    let inherited = rw c.inherited.ensures at c.print_object-2.ensures in
    let trustee = rw c.sid_in_place.ensures at c.print_trustee.ensures in
    prints_then head (prints_then access (prints_then object (prints_then inherited trustee)))
