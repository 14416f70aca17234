use Rattle.sd_sink.proofs.laws.PrintLemmas.{prints_as}
use Rattle.sd_call_build.proofs.printing.print_guid.Goals as goal

pub returns-in-Some : goal.returns-in-Some
returns-in-Some g c = rw c.in-Some.is (prints_as c.guid_bytes.ensures.value c.put.ensures)
