use Rattle.std.proofs.Common.{take}
use Rattle.std.specs.List.{flat_map}
use Rattle.sd_ace.specs.AceLayout.{ace_bytes}
use Rattle.sd_sink.specs.Print.{Prints}
use Rattle.sd_call_build.specs.New.{shown_ace}
use Rattle.sd_call_build.proofs.printing.print_aces.Given as goal

abbrev pub invariant-loop-new : goal.invariant-loop-new
invariant-loop-new g l = Prints (g.P.Print.told l.fn.out) (g.P.Print.told l.out)
    (flat_map (λ new. ace_bytes (shown_ace new)) (take l.new-index l.aces))
