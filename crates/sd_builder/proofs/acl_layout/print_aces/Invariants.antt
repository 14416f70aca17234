use Rattle.std.proofs.Common.{◌≡◌, ◌++◌}
use Rattle.std.specs.List.{flat_map}
use Rattle.sd_sink.specs.Print.{Prints}
use Rattle.sd_ace.specs.AceLayout.{ace_bytes}
use Rattle.sd_builder.proofs.acl_layout.print_aces.Given as goal

abbrev pub invariant-loop-ace : goal.invariant-loop-ace
invariant-loop-ace g l = record {
  left : l.yielded ++ l.ace-iterator ≡ l.acl;
  printed : Prints (g.P.Print.told l.fn.out) (g.P.Print.told l.out) (flat_map ace_bytes l.yielded);
}
