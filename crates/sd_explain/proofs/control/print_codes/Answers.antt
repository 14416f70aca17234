use Rattle.sd_parts.specs.declared.control.TheConstants.{CONTROL_BITS}
use Rattle.sd_sink.proofs.laws.PrintLoops.{Prints-next}
use Rattle.sd_explain.specs.Explain.{code_if}
use Rattle.sd_explain.proofs.control.print_codes.Goals as goal

pub loop-bit-preserved : goal.loop-bit-preserved
loop-bit-preserved g c =
    let l = c.loop-bit in
    Prints-next (code_if c.args.control) _ _ _ CONTROL_BITS l.bit-index _ c.loop-bit-test.true l.invariant
    c.print_code.ensures
