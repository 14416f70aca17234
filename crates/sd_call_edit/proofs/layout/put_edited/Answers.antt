use Rattle.std.proofs.Common.{arith}
use Rattle.sd_view.proofs.laws.LayoutSizes.{length-layout}
use Rattle.sd_edit.specs.Shown.{shown}
use Rattle.sd_call_edit.proofs.layout.put_edited.Goals as goal

pub returns-clause-size : goal.returns-clause-size
returns-clause-size g c = rw c.requires.sizes (omega (arith, length-layout (shown c.args.edited.now)))
