use Rattle.sd_sink.proofs.laws.PrintLoops.{Prints-item, moved}
use Rattle.sd_ace.specs.AceLayout.{ace_bytes}
use Rattle.sd_builder.proofs.acl_layout.print_aces.Goals as goal

pub loop-ace-preserved : goal.loop-ace-preserved
loop-ace-preserved g c = record {
  left = moved _ _ _ _ _ c.loop-ace.invariant.left c.in-Some.ensures.steps;
  printed = Prints-item ace_bytes _ _ _ c.loop-ace.yielded c.in-Some.ace c.loop-ace.invariant.printed
      c.print_ace.ensures;
}
