use Rattle.sd_parts.proofs.laws.ControlLaws.{bits-same, flags-apart}
use Rattle.sd_parts.proofs.control.AclFlags.bits.Goals as goal

pub returns-in-Sacl-clause-apart : goal.returns-in-Sacl-clause-apart
returns-in-Sacl-clause-apart c = flags-apart c.args.which c.args.self

pub returns-in-Sacl-clause-same : goal.returns-in-Sacl-clause-same
returns-in-Sacl-clause-same c = bits-same c.args.which c.args.self

pub returns-in-Dacl-clause-apart : goal.returns-in-Dacl-clause-apart
returns-in-Dacl-clause-apart c = flags-apart c.args.which c.args.self

pub returns-in-Dacl-clause-same : goal.returns-in-Dacl-clause-same
returns-in-Dacl-clause-same c = bits-same c.args.which c.args.self
