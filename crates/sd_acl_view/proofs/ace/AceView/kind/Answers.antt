use Rattle.std.proofs.Common.{subst}
use Rattle.sd_ace.specs.Ace.{IsAce}
use Rattle.sd_acl_view.proofs.ace.AceView.kind.Goals as goal

pub returns-clause-limits : goal.returns-clause-limits
returns-clause-limits c = subst IsAce c.self.view_is c.self.invariant.limits
