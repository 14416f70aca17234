use Rattle.std.proofs.Common.{take}
use Rattle.std.specs.List.{flat_map}
use Rattle.sd_sink.specs.Print.{Prints}
use Rattle.sd_parts.specs.declared.control.TheConstants.{CONTROL_BITS}
use Rattle.sd_explain.specs.Explain.{code_if}
use Rattle.sd_explain.proofs.control.print_codes.Given as goal

abbrev pub invariant-loop-bit : goal.invariant-loop-bit
invariant-loop-bit g l =
    Prints (g.P.Print.told l.fn.out) (g.P.Print.told l.out)
    (flat_map (code_if l.control) (take l.bit-index CONTROL_BITS))
