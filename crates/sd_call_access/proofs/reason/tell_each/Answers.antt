use Rattle.std.proofs.Common.{◌∙◌, arith, length-set}
use Rattle.sd_call_access.specs.Reasons.{reason_told}
use Rattle.sd_call_access.proofs.laws.Written.{written_more}
use Rattle.sd_call_access.proofs.reason.tell_each.Goals as goal

pub loop-i-preserved : goal.loop-i-preserved
loop-i-preserved c =
    let l = c.loop-i in record {
      size = length-set l.told l.i c.reason_told.result ∙ l.invariant.size;
      written = written_more reason_told c.args.reasons.now c.args.told.now l.told l.i _ c.reason_told.result
          (omega (arith, c.loop-i-test.true, c.told-reasons)) (omega (arith, c.loop-i-test.true, c.told-told))
          l.invariant.written c.reason_told.ensures;
    }
