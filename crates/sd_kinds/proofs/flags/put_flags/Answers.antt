use Rattle.std.proofs.Common.{rules, refl}
use Rattle.sd_kinds.specs.FlagValues.{FlagNames, FlagValues}
use Rattle.sd_kinds.proofs.laws.FlagLaws.{flags_text-length, flags_read_back}
use Rattle.sd_sink.proofs.laws.PrintLemmas.{printed}
use Rattle.sd_kinds.proofs.flags.put_flags.Goals as goal

pub returns-clause-put : goal.returns-clause-put
returns-clause-put g c = printed c.new-out.ensures.begins (search rules) c.finish.ensures c.print_flags.ensures

pub returns-clause-back : goal.returns-clause-back
returns-clause-back g c = flags_read_back c.args.flags c.ranges.flags.fits

pub returns-clause-short : goal.returns-clause-short
returns-clause-short g c = flags_text-length c.args.flags

pub returns-clause-names : goal.returns-clause-names
unfolding FlagNames
returns-clause-names g c = refl

pub returns-clause-values : goal.returns-clause-values
unfolding FlagValues
returns-clause-values g c = (refl, refl, refl, refl, refl, refl, refl, refl)
