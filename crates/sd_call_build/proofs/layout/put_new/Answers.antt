use Rattle.std.proofs.Common.{arith}
use Rattle.sd_view.proofs.laws.LayoutSizes.{length-layout}
use Rattle.sd_call_build.specs.New.{new_descriptor}
use Rattle.sd_call_build.proofs.layout.put_new.Goals as goal

pub returns-clause-size : goal.returns-clause-size
returns-clause-size g c = rw c.requires.sizes (omega (arith, length-layout (new_descriptor c.args.new.now)))
