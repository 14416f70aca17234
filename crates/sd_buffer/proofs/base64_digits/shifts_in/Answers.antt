use Rattle.sd_buffer.proofs.Base64Values.{shifts-in}
use Rattle.sd_buffer.proofs.base64_digits.shifts_in.Goals as goal

pub returns : goal.returns
returns c = shifts-in c.args.first c.args.count c.args.shift 16 c.args.symbols c.fits-symbols.0
