use Rattle.std.proofs.Common.{ap, ◌∙◌}
use Rattle.sd_sid.specs.Sid.{sid_bytes}
use Rattle.sd_sink.proofs.laws.PrintLemmas.{prints_as, prints_then}
use Rattle.sd_call_build.proofs.printing.print_ace.Goals as goal

pub returns : goal.returns
returns g c =
    prints_then (prints_as (c.as_slice.ensures ∙ c.of_ace-front.ensures) c.put.ensures)
    (prints_then c.print_guids.ensures (prints_as (ap sid_bytes c.trustee.ensures) c.print_sid.ensures))
