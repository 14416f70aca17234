use Rattle.sd_rights.specs.Rights.{all_rights}
use Rattle.sd_rights.proofs.rights_reading.read_rights.Given as goal

abbrev pub ghost-read_names : goal.ghost-read_names
ghost-read_names a = all_rights
