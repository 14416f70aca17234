use Rattle.std.proofs.Common.{ap, arith, ◌∙◌}
use Rattle.sd_rights.specs.HexValues.{value_of}
use Rattle.sd_rights.proofs.FrontMasks.{value-at}
use Rattle.sd_rights.proofs.mask_fronts.value_in.Goals as goal

pub returns : goal.returns
returns c =
    value-at c.args.values.now c.from.result c.requires (omega arith) ∙ ap value_of c.from.ensures
