use Rattle.std.proofs.Common.{◌≡◌, codes, arith, lit≤}
use Rattle.std.proofs.lemmas.Fmt.{length-decimal-le}
use Rattle.std.specs.Fmt.{decimal}
use Rattle.sd_sink.proofs.laws.PrintLemmas.{prints_as, prints_then}
use Rattle.sd_call_convert.specs.Described.{field_text, holder_text, part_numbered}
use Rattle.sd_call_convert.proofs.DescribedLemmas.{four-short}
use Rattle.sd_call_convert.proofs.described.print_place.Goals as goal

pub returns-clause-print : goal.returns-clause-print
returns-clause-print g c =
    let at = rw c.offset_of.ensures at c.print_decimal.ensures in
    let holder = rw c.part_numbered.ensures at c.print_holder.ensures.print in
    let field : c.as_bytes.result.now ≡ field_text c.args.place.now.field = cc in
    prints_then (prints_then (prints_then c.put.ensures at) holder) (prints_as field c.put-2.ensures)

pub returns-clause-short : goal.returns-clause-short
returns-clause-short g c =
    let place = c.args.place.now in
    let n = place.place.offset in
    let digits = length-decimal-le 10 n (omega arith) (omega (arith, c.requires)) (omega (arith, c.requires)) in
    four-short (codes ", at byte ") (decimal n) (holder_text (part_numbered place.part) place.ace)
    (field_text place.field)
    10 10 29 23 (lit≤ tt) digits (rw c.part_numbered.ensures at c.print_holder.ensures.short)
    (rw c.field_text.ensures.value at c.field_text.ensures.short)
