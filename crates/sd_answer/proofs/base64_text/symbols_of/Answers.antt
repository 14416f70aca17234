use Rattle.sd_answer.proofs.Base64Lanes.{symbols-of}
use Rattle.sd_answer.proofs.base64_text.symbols_of.Goals as goal

pub returns : goal.returns
returns c = symbols-of 16 c.args.values c.fits-values.0 c.requires
