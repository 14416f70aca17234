use Rattle.std.proofs.Common.{arith, slice_set}
use Rattle.sd_text.proofs.HexNumber.{hex-number, hex-prefix}
use Rattle.sd_text.proofs.digits.write_hex_number.Goals as goal

pub returns-clause-written : goal.returns-clause-written
returns-clause-written c =
    hex-number c.leading_hex_zeros-zeros.result c.from.result _
    (slice_set (slice_set c.args.cells.now 0 48) 1 120) c.write_hex_eight.new.cells
    c.leading_hex_zeros-zeros.ensures.few (omega (arith, c.from.ensures))
    (hex-prefix c.args.cells.now (omega (arith, c.told-cells))) c.write_hex_eight.ensures
    (rw c.from.ensures c.leading_hex_zeros-zeros.ensures.digits)
