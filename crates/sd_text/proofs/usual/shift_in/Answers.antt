use Rattle.std.proofs.Common.{arith}
use Rattle.sd_text.proofs.laws.UsualTexts.{shift-at}
use Rattle.sd_text.proofs.usual.shift_in.Goals as goal

pub returns : goal.returns
returns c = shift-at c.args.shifts.now c.args.size c.requires.shifts (omega arith)
