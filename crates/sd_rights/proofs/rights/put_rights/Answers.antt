use Rattle.std.proofs.Common.{refl}
use Rattle.sd_rights.specs.RightValues.{CompoundRights, LabelRights, SingleRights}
use Rattle.sd_rights.proofs.laws.RightsLaws.{rights_read_back, rights_text-length}
use Rattle.sd_rights.proofs.rights.put_rights.Goals as goal

pub returns-clause-back : goal.returns-clause-back
returns-clause-back g c = rights_read_back c.args.kind c.args.mask c.ranges.mask.fits

pub returns-clause-short : goal.returns-clause-short
returns-clause-short g c = rights_text-length c.args.kind c.args.mask c.ranges.mask.fits

pub returns-clause-singles : goal.returns-clause-singles
unfolding SingleRights
returns-clause-singles g c = refl

pub returns-clause-compounds : goal.returns-clause-compounds
unfolding CompoundRights
returns-clause-compounds g c = refl

pub returns-clause-labels : goal.returns-clause-labels
unfolding LabelRights
returns-clause-labels g c = refl
