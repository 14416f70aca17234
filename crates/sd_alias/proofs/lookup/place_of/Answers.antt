use Rattle.std.proofs.Common.{◌∙◌}
use Rattle.sd_alias.specs.Inner.Places.{place_of}
use Rattle.sd_alias.proofs.lookup.place_of.Goals as goal

pub returns : goal.returns
unfolding place_of
returns c =
    rw (c.from-row.ensures ∙ c.saturating_sub.ensures, c.from-column.ensures ∙ c.saturating_sub-2.ensures) at
    c.place_in.ensures
