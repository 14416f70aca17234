use Rattle.sd_sink.proofs.laws.PrintLemmas.{prints_then}
use Rattle.sd_answer.proofs.answer.print_verdict.Goals as goal

pub returns-in-Granted : goal.returns-in-Granted
returns-in-Granted g c = rw (c.in-Granted.is, ← c.from.ensures) (prints_then c.put.ensures c.print_hex.ensures)

pub returns-in-Denied : goal.returns-in-Denied
returns-in-Denied g c =
    rw (c.in-Denied.is, ← c.from-in-Denied.ensures) (prints_then c.put-in-Denied.ensures c.print_hex-in-Denied.ensures)
