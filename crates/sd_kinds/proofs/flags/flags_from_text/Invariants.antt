use Rattle.sd_kinds.specs.declared.flags.TheConstants.{FLAGS}
use Rattle.sd_kinds.proofs.flags.flags_from_text.Given as goal

abbrev pub ghost-read_names : goal.ghost-read_names
ghost-read_names a = FLAGS
