use Rattle.std.proofs.Common.{arith}
use Rattle.sd_call_edit.proofs.EditLemmas.{counted_set, counted_skip}
use Rattle.sd_call_edit.proofs.edit.note.Goals as goal

pub returns-then-i-touched : goal.returns-then-i-touched
returns-then-i-touched c = λ counts before at is.
    counted_skip counts before c.args.touched.now c.args.i c.args.count at is (omega arith)

pub returns : goal.returns
returns c = λ counts before at is.
    counted_set counts before c.args.touched.now c.args.i c.args.count at is (omega arith)
