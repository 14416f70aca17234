use Rattle.std.proofs.Common.{refl}
use Rattle.sd_kinds.specs.Flags.{flags_reads}
use Rattle.sd_text.specs.Names.{run_of}
use Rattle.sd_kinds.proofs.laws.FlagLaws.{reads-clear}
use Rattle.sd_kinds.proofs.flags.usual_flags.Goals as goal

pub flags_in-flags-requires-clause-values : goal.flags_in-flags-requires-clause-values
unfolding flags_reads run_of
flags_in-flags-requires-clause-values c = refl

pub returns-clause-clear : goal.returns-clause-clear
returns-clause-clear c = reads-clear _ c.flags_in-flags.result c.flags_in-flags.ensures
