use Rattle.sd_kinds.proofs.laws.KindLaws.{kind_of-code}
use Rattle.sd_kinds.proofs.kinds.AceKind.code.Goals as goal

pub returns-clause-back : goal.returns-clause-back
returns-clause-back c = kind_of-code c.args.self
