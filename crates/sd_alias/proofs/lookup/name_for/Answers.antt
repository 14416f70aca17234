use Rattle.sd_alias.proofs.AliasPlaces.{known-sid-at}
use Rattle.sd_alias.proofs.lookup.name_for.Goals as goal

pub returns : goal.returns
returns c = known-sid-at _ _ _ _ c.sid_place.ensures c.entry_at.ensures
