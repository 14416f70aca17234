use Rattle.sd_buffer.proofs.Base64Values.{joined-block}
use Rattle.sd_buffer.proofs.base64_digits.join.Goals as goal

pub returns : goal.returns
returns c = joined-block c.args.values c.fits-values.0 c.requires
