use Rattle.std.proofs.Common.{subst}
use Rattle.sd_view.specs.Descriptor.{IsDescriptor}
use Rattle.sd_view.proofs.view.SdView.owner_bytes.Goals as goal

pub returns-clause-limits : goal.returns-clause-limits
returns-clause-limits c = subst IsDescriptor c.self.view_is c.self.invariant.0.limits
