use Rattle.sd_buffer.proofs.Base64Values.{shifts-at}
use Rattle.sd_buffer.proofs.base64_digits.shifts_at.Goals as goal

pub returns : goal.returns
returns c = shifts-at c.args.symbol c.args.shift 16 c.args.symbols c.fits-symbols.0
