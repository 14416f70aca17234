use Rattle.std.proofs.Common.{◌≡◌, ◌++◌, length}
use Rattle.sd_sink.specs.Print.{Prints}
use Rattle.sd_explain.specs.Explain.{ace_lines}
use Rattle.sd_explain.proofs.acl.print_aces.Given as goal

abbrev pub invariant-loop-ace : goal.invariant-loop-ace
invariant-loop-ace g l = record {
  left : l.yielded ++ l.ace-iterator ≡ l.acl;
  number : l.number ≡ length l.yielded;
  printed : Prints (g.P.Print.told l.fn.out) (g.P.Print.told l.out) (ace_lines l.naming l.part l.yielded);
}
