use Rattle.sd_rights.specs.Rights.{all_rights}
use Rattle.sd_rights.proofs.mask_fronts.front_mask.Given as goal

abbrev pub ghost-front_names : goal.ghost-front_names
ghost-front_names a = all_rights
