use Rattle.std.proofs.Common.{refl}
use Rattle.sd_text.specs.Names.{has_cells}
use Rattle.sd_rights.proofs.FrontMasks.{names-at}
use Rattle.sd_rights.proofs.mask_fronts.front_mask.Goals as goal

pub front_names-mask-requires : goal.front_names-mask-requires
unfolding has_cells
front_names-mask-requires c = refl

pub returns-clause-mask : goal.returns-clause-mask
returns-clause-mask c =
    names-at c.args.text.now c.front_names-mask.result.1 c.front_names-mask.result.0 c.front_names-mask.ensures.within
    c.if-size-eq0.false c.if-size-gt-MOST_FIELD_SIZE.false c.front_names-mask.ensures.run
