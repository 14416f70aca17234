use Rattle.std.proofs.Common.{rules}
use Rattle.sd_text.proofs.HexNumber.{without-zeros}
use Rattle.sd_text.proofs.digits.leading_hex_zeros.Goals as goal

pub returns-clause-few : goal.returns-clause-few
returns-clause-few c = (without-zeros c.args.number (search rules)).0

pub returns-clause-digits : goal.returns-clause-digits
returns-clause-digits c = (without-zeros c.args.number (search rules)).1
