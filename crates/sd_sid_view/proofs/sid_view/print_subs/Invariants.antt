use Rattle.std.specs.List.{flat_map}
use Rattle.sd_sink.specs.Print.{Prints}
use Rattle.sd_sid.specs.Sid.{words}
use Rattle.sd_sid.specs.SidText.{sub_text}
use Rattle.sd_sid_view.proofs.sid_view.print_subs.Given as goal

abbrev pub invariant-loop-i : goal.invariant-loop-i
invariant-loop-i g l = Prints (g.P.Print.told l.fn.out) (g.P.Print.told l.out) (flat_map sub_text (words l.i l.bytes))
