use Rattle.sd_sink.proofs.laws.PrintLemmas.{prints_then}
use Rattle.sd_call_build.proofs.layout.print_new.Goals as goal

pub returns : goal.returns
returns g c =
    rw (← c.header_of.ensures, ← c.whole_sid-owner.ensures, ← c.whole_sid-group.ensures) (search prints_then depth 10)
