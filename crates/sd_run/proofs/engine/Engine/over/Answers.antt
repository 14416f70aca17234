use Rattle.std.proofs.Common.{refl}
use Rattle.sd_run.proofs.CreatorLemmas.{none-in-empty}
use Rattle.sd_run.proofs.engine.Engine.over.Goals as goal

pub returns : goal.returns
returns c = rw (none-in-empty _ c.clear.ensures) (record { task = refl })
