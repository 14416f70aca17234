use Rattle.std.proofs.Common.{arith}
use Rattle.sd_kinds.specs.Flags.{flags_reads}
use Rattle.sd_text.proofs.laws.UsualTexts.{value-in}
use Rattle.sd_kinds.proofs.flags.flags_in.Goals as goal

pub returns : goal.returns
returns c =
    value-in flags_reads c.args.keys.now c.args.sizes.now c.args.values.now c.args.row c.requires.values (omega arith)
