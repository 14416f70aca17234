use Rattle.std.proofs.Common.{◌<◌, arith, length, map, rules, sym}
use Rattle.std.proofs.lemmas.List.{length-map}
use Rattle.sd_sink.proofs.laws.PrintLemmas.{prints_as, prints_then}
use Rattle.sd_call_build.specs.New.{shown_ace}
use Rattle.sd_call_build.proofs.laws.AclHeaders.{few, header_by}
use Rattle.sd_call_build.proofs.layout.print_list.Goals as goal

pub overflow_cast-count : goal.overflow_cast-count
overflow_cast-count g c =
    let aces = map shown_ace c.args.aces.now in
    let small = few aces (omega (arith, c.requires.size, c.ranges.size)) in
    let count = length-map c.args.aces.now shown_ace in
    let fits : length c.args.aces.now < 65536 = omega (arith, small, count) in search (rules, fits)

pub returns : goal.returns
returns g c =
    prints_then (prints_as (header_by _ _ _ _ (map shown_ace c.args.aces.now) c.acl_header.ensures c.has_object.ensures
    c.requires.size (sym (length-map c.args.aces.now shown_ace))) c.put.ensures) c.print_aces.ensures
