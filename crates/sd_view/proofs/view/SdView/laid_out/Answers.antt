use Rattle.std.proofs.Common.{subst}
use Rattle.sd_view.specs.Descriptor.{IsDescriptor}
use Rattle.sd_view.proofs.view.SdView.laid_out.Goals as goal

pub returns-then-is_laid_out-clause-limits : goal.returns-then-is_laid_out-clause-limits
returns-then-is_laid_out-clause-limits c = subst IsDescriptor c.self.view_is c.self.invariant.0.limits

pub returns-else-is_laid_out-clause-limits : goal.returns-else-is_laid_out-clause-limits
returns-else-is_laid_out-clause-limits c = subst IsDescriptor c.self.view_is c.self.invariant.0.limits
