use Rattle.std.proofs.Common.{◌≡◌, rules}
use Rattle.sd_sink.proofs.laws.PrintLemmas.{printed, prints_as, prints_then}
use Rattle.sd_call_convert.specs.Described.{argument_text, line_text, place_text_of}
use Rattle.sd_call_convert.proofs.DescribedLemmas.{sentence-short}
use Rattle.sd_call_convert.proofs.described.put_sentence.Goals as goal

pub returns-clause-put : goal.returns-clause-put
returns-clause-put g c =
    let argument : c.as_bytes.result.now ≡ argument_text c.args.outcome.now.argument = cc in
    let line = rw c.value-fault.ensures at c.print_line.ensures.print in
    let place = rw c.value-fault.ensures at c.print_place_of.ensures.print in
    printed c.new-out.ensures.begins (search rules) c.finish.ensures
    (prints_then (prints_then (prints_as argument c.put.ensures) line) place)

pub returns-clause-short : goal.returns-clause-short
returns-clause-short g c =
    let outcome = c.args.outcome.now in
    sentence-short (argument_text outcome.argument) (line_text outcome.fault outcome.part outcome.other_part)
    (place_text_of outcome.fault c.args.place.now)
    (rw c.argument_text.ensures.value at c.argument_text.ensures.short)
    (rw c.value-fault.ensures at c.print_line.ensures.short)
    (rw c.value-fault.ensures at c.print_place_of.ensures.short)
