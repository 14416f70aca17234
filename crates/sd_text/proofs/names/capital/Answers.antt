use Rattle.sd_text.proofs.laws.Capitals.{without-small}
use Rattle.sd_text.proofs.names.capital.Goals as goal

pub returns : goal.returns
returns c = without-small c.args.byte c.ranges.byte.fits
