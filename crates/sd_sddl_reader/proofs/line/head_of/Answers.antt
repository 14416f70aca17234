use Rattle.std.proofs.Common.{refl}
use Rattle.sd_sddl_reader.specs.Inner.Heads.{have_heads}
use Rattle.sd_sddl_reader.proofs.line.head_of.Goals as goal

pub head_in-requires : goal.head_in-requires
unfolding have_heads
head_in-requires c = refl
