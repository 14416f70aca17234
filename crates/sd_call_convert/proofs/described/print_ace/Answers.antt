use Rattle.std.proofs.Common.{◌≡◌, codes, arith, lit≤}
use Rattle.std.proofs.lemmas.Fmt.{length-decimal-le}
use Rattle.std.specs.Fmt.{decimal}
use Rattle.sd_sink.proofs.laws.PrintLemmas.{prints_as, prints_then}
use Rattle.sd_call_convert.specs.Described.{part_words}
use Rattle.sd_call_convert.proofs.DescribedLemmas.{four-short}
use Rattle.sd_call_convert.proofs.described.print_ace.Goals as goal

pub returns-clause-print : goal.returns-clause-print
returns-clause-print g c =
    let words : c.as_bytes.result.now ≡ part_words c.args.part = cc in
    prints_then (prints_then (prints_then c.put.ensures c.print_decimal.ensures) c.put-2.ensures)
    (prints_as words c.put-3.ensures)

pub returns-clause-short : goal.returns-clause-short
returns-clause-short g c =
    let n = c.args.number in
    let small = c.ranges.number.fits in
    let digits = length-decimal-le 10 n (omega arith) (omega (arith, small)) (omega (arith, small)) in
    four-short (codes ", ACE ") (decimal n) (codes " of ") (part_words c.args.part) 6 10 4 9 (lit≤ tt) digits (lit≤ tt)
    (rw c.part_words.ensures.value at c.part_words.ensures.short)
