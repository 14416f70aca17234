use Rattle.sd_sink.proofs.laws.PrintLoops.{Prints-item, moved}
use Rattle.sd_sddl_printer.specs.Printed.{ace_text}
use Rattle.sd_sddl_printer.proofs.acl.print_aces.Goals as goal

pub loop-ace-preserved : goal.loop-ace-preserved
loop-ace-preserved g c = record {
  left = moved _ _ _ _ _ c.loop-ace.invariant.left c.in-Some.ensures.steps;
  printed = Prints-item (ace_text c.args.naming.now) _ _ _ c.loop-ace.yielded c.in-Some.ace
      c.loop-ace.invariant.printed c.print_ace.ensures;
}
