use Rattle.std.proofs.Common.{ap, ◌∙◌}
use Rattle.sd_ace.specs.AceLayout.{ace_front}
use Rattle.sd_sink.proofs.laws.PrintLemmas.{prints_as, prints_then}
use Rattle.sd_builder.proofs.acl_layout.print_ace.Goals as goal

pub returns : goal.returns
returns g c =
    prints_then (prints_as (c.as_slice.ensures ∙ c.of_ace-front.ensures ∙ ap ace_front c.ace.ensures) c.put.ensures)
    (prints_as c.body.ensures.value c.put-2.ensures)
