-- The tables have the values that AliasValues writes out.
use Rattle.std.proofs.Common.{refl}
use Rattle.sd_alias.specs.AliasValues.{KnownAliases, RelativeAliases}

pub known-values : KnownAliases
unfolding KnownAliases
known-values = refl

pub relative-values : RelativeAliases
unfolding RelativeAliases
relative-values = refl
