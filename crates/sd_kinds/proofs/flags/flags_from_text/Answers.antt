use Rattle.std.proofs.Common.{arith, refl}
use Rattle.sd_text.specs.Names.{has_cells}
use Rattle.sd_kinds.proofs.laws.FlagLaws.{flags-clear}
use Rattle.sd_kinds.proofs.flags.flags_from_text.Goals as goal

pub overflow_cast-result : goal.overflow_cast-result
overflow_cast-result c = omega (arith, (flags-clear c.args.text.now c.in_ok-flags.flags c.in_ok-flags.ensures).0)

pub returns-clause-clear : goal.returns-clause-clear
returns-clause-clear c = (flags-clear c.args.text.now c.in_ok-flags.flags c.in_ok-flags.ensures).1

pub read_names-requires : goal.read_names-requires
unfolding has_cells
read_names-requires c = refl
