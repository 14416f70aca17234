use Rattle.std.proofs.Common.{take}
use Rattle.std.specs.List.{flat_map}
use Rattle.sd_ace.specs.AceLayout.{ace_bytes}
use Rattle.sd_sink.specs.Print.{Prints}
use Rattle.sd_call_edit.proofs.layout.print_aces.Given as goal

abbrev pub invariant-loop-ace : goal.invariant-loop-ace
invariant-loop-ace g l = Prints (g.P.Print.told l.fn.out) (g.P.Print.told l.out)
    (flat_map ace_bytes (take l.ace-index l.aces))
