use Rattle.std.proofs.Common.{arith, rules, refl}
use Rattle.sd_sink.proofs.laws.PrintLemmas.{prints_as, prints_then}
use Rattle.sd_call_build.proofs.laws.AclHeaders.{few, header_by}
use Rattle.sd_call_edit.proofs.layout.print_list.Goals as goal

pub overflow_cast-count : goal.overflow_cast-count
overflow_cast-count g c =
    let small = few c.args.aces.now (omega (arith, c.requires, c.ranges.size)) in search (rules, small)

pub returns : goal.returns
returns g c =
    prints_then (prints_as (header_by _ _ _ _ c.args.aces.now c.acl_header.ensures c.has_object.ensures c.requires refl)
    c.put.ensures) c.print_aces.ensures
