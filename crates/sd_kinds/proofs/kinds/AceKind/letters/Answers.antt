use Rattle.sd_kinds.proofs.laws.KindLaws.{kind_named-letters, letters-few}
use Rattle.sd_kinds.proofs.kinds.AceKind.letters.Goals as goal

pub returns-clause-back : goal.returns-clause-back
returns-clause-back c = kind_named-letters c.args.self

pub returns-clause-some : goal.returns-clause-some
returns-clause-some c = rw c.kind_letters.ensures (letters-few c.args.self).0

pub returns-clause-short : goal.returns-clause-short
returns-clause-short c = rw c.kind_letters.ensures (letters-few c.args.self).1
