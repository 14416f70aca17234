use Rattle.std.proofs.Common.{◌<◌, List, ap, sym, ◌∙◌, length, arith, rules, length-append}
use Rattle.std.proofs.lemmas.List.{length-map}
use Rattle.sd_ace.specs.Ace.{AccessControlEntry}
use Rattle.sd_edit.specs.Order.{rank, ranks}
use Rattle.sd_edit.proofs.laws.OrderLaws.{fall_within}
use Rattle.sd_call_edit.proofs.order.first_fall.Goals as goal

pub overflow_cast-result : goal.overflow_cast-result
overflow_cast-result c =
    let l = c.loop-ace in
    let within = fall_within (ranks c.args.which l.yielded) c.in-Some-fall.place
    (sym (c.fall.ensures (ranks c.args.which l.yielded) l.invariant.seen) ∙ c.in-Some-fall.is) in
    let few : c.in-Some-fall.place < 65536 = omega (
      arith,
      within,
      length-map l.yielded (rank c.args.which),
      ap (λ (aces : List AccessControlEntry). length aces) l.invariant.parts,
      length-append l.yielded l.ace-iterator,
      c.requires,
    ) in
    search (rules, few)
