use Rattle.std.proofs.Common.{arith, ap, ◌∙◌}
use Rattle.sd_sddl_builder.specs.Line.{head_of}
use Rattle.sd_sddl_reader.proofs.HeadRows.{head-at}
use Rattle.sd_sddl_reader.proofs.line.head_in.Goals as goal

pub returns : goal.returns
returns c = head-at c.args.heads.now c.from.result c.requires (omega (arith, c.from.ensures))
    ∙ ap head_of c.from.ensures
