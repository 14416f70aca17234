use Rattle.std.proofs.Common.{ap, sym}
use Rattle.sd_answer.specs.Answer.{or_byte_fault}
use Rattle.sd_answer.proofs.ReadingLemmas.{read-mapped}
use Rattle.sd_answer.proofs.line.Line.end.Goals as goal

pub returns-in-Sddl : goal.returns-in-Sddl
returns-in-Sddl c = λ job text h within.
    rw (c.in_ok-finish.ensures.leaves job text h within, ← c.bytes.ensures.value)
    (sym (ap or_byte_fault c.view_written.ensures.exact))

pub returns : goal.returns
returns c = λ job text h within.
    rw (c.in_ok-finish.ensures.leaves job text h within, ← c.bytes-2.ensures.value, ← c.read.ensures.exact)
    (read-mapped c.read.result c.map_err.result c.map_err.ensures.cases)
