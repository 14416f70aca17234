use Rattle.std.proofs.Common.{take}
use Rattle.std.specs.List.{flat_map}
use Rattle.sd_sink.specs.Print.{Prints}
use Rattle.sd_sid.specs.SidText.{sub_text}
use Rattle.sd_sid.proofs.sid.Sid.print_text.Given as goal

abbrev pub invariant-loop-sub : goal.invariant-loop-sub
invariant-loop-sub g l = Prints (g.P.Print.told l.initial.out) (g.P.Print.told l.out)
    (flat_map sub_text (take l.sub-index l.sub-items))
