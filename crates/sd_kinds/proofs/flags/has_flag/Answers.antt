use Rattle.sd_kinds.proofs.laws.FlagLaws.{and-flag}
use Rattle.sd_kinds.proofs.flags.has_flag.Goals as goal

pub returns : goal.returns
returns c = and-flag c.args.flag c.args.flags c.requires
