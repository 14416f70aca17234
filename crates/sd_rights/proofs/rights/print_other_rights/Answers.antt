use Rattle.sd_rights.proofs.laws.RightsLaws.{labels_named, singles_named}
use Rattle.sd_rights.proofs.rights.print_other_rights.Goals as goal

pub print_names_or_hex-requires-clause-bits : goal.print_names_or_hex-requires-clause-bits
print_names_or_hex-requires-clause-bits g c = labels_named c.args.mask

pub print_names_or_hex-requires-in-None-clause-bits : goal.print_names_or_hex-requires-in-None-clause-bits
print_names_or_hex-requires-in-None-clause-bits g c = singles_named c.args.mask
