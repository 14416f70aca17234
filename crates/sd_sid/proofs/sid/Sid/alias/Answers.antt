use Rattle.std.proofs.Common.{refl}
use Rattle.sd_alias.specs.AliasValues.{KnownAliases, RelativeAliases}
use Rattle.sd_sid.proofs.laws.AliasLaws.{alias-back, alias-letters, alias-only}
use Rattle.sd_sid.proofs.sid.Sid.alias.Goals as goal

pub returns-clause-letters : goal.returns-clause-letters
returns-clause-letters c = alias-letters c.args.self.now _ _ c.alias_in.ensures

pub returns-clause-back : goal.returns-clause-back
returns-clause-back c = alias-back c.args.self.now _ _ c.alias_in.ensures

pub returns-clause-only : goal.returns-clause-only
returns-clause-only c = alias-only c.args.self.now _ _ c.alias_in.ensures

pub returns-clause-known : goal.returns-clause-known
unfolding KnownAliases
returns-clause-known c = refl

pub returns-clause-relative : goal.returns-clause-relative
unfolding RelativeAliases
returns-clause-relative c = refl
