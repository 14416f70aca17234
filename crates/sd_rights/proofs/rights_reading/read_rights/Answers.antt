use Rattle.std.proofs.Common.{refl}
use Rattle.sd_text.specs.Names.{has_cells}
use Rattle.sd_rights.proofs.rights_reading.read_rights.Goals as goal

pub read_names-requires : goal.read_names-requires
unfolding has_cells
read_names-requires c = refl
