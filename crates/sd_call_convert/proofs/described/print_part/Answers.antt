use Rattle.std.proofs.Common.{◌≡◌, codes, lit≤}
use Rattle.sd_sink.proofs.laws.PrintLemmas.{prints_as, prints_then}
use Rattle.sd_call_convert.specs.Described.{part_words}
use Rattle.sd_call_convert.proofs.DescribedLemmas.{two-short}
use Rattle.sd_call_convert.proofs.described.print_part.Goals as goal

pub returns-clause-print : goal.returns-clause-print
returns-clause-print g c =
    let words : c.as_bytes.result.now ≡ part_words c.args.part = cc in
    prints_then c.put.ensures (prints_as words c.put-2.ensures)

pub returns-clause-short : goal.returns-clause-short
returns-clause-short g c =
    two-short (codes ", ") (part_words c.args.part) 2 9 (lit≤ tt)
    (rw c.part_words.ensures.value at c.part_words.ensures.short)
