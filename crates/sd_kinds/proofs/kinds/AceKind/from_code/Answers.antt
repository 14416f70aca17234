use Rattle.sd_kinds.proofs.laws.KindLaws.{kind_of-some}
use Rattle.sd_kinds.proofs.kinds.AceKind.from_code.Goals as goal

pub returns-clause-back : goal.returns-clause-back
returns-clause-back c = rw c.with_code.ensures (kind_of-some c.args.code)
