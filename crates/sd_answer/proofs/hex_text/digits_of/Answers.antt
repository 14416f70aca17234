use Rattle.sd_answer.proofs.HexLanes.{digits-of}
use Rattle.sd_answer.proofs.hex_text.digits_of.Goals as goal

pub returns : goal.returns
returns c = digits-of 16 c.args.values c.fits-values.0 c.requires
