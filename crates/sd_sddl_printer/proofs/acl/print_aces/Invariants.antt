use Rattle.std.proofs.Common.{◌≡◌, ◌++◌}
use Rattle.std.specs.List.{flat_map}
use Rattle.sd_sink.specs.Print.{Prints}
use Rattle.sd_sddl_printer.specs.Printed.{ace_text}
use Rattle.sd_sddl_printer.proofs.acl.print_aces.Given as goal

abbrev pub invariant-loop-ace : goal.invariant-loop-ace
invariant-loop-ace g l = record {
  left : l.yielded ++ l.ace-iterator ≡ l.acl;
  printed : Prints (g.P.Print.told l.fn.out) (g.P.Print.told l.out) (flat_map (ace_text l.naming) l.yielded);
}
