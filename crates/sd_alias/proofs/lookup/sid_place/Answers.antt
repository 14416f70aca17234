use Rattle.sd_alias.specs.Inner.Places.{sid_place}
use Rattle.sd_alias.proofs.lookup.sid_place.Goals as goal

pub returns : goal.returns
unfolding sid_place
returns c = rw c.from.ensures at c.place_in.ensures
