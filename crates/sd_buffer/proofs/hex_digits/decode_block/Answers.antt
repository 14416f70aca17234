use Rattle.std.proofs.Common.{arith}
use Rattle.sd_buffer.proofs.HexBlocks.{spells-joined, spells-other}
use Rattle.sd_buffer.proofs.hex_digits.decode_block.Goals as goal

pub returns-then-are_digits : goal.returns-then-are_digits
returns-then-are_digits c =
    rw c.join.ensures
    (spells-joined c.args.digits.now _ (omega (arith, c.requires))
    (c.values_of-are_digits.ensures.digits c.if-are_digits.true))

pub returns-else-are_digits : goal.returns-else-are_digits
returns-else-are_digits c =
    spells-other c.args.digits.now (omega (arith, c.requires))
    (c.values_of-are_digits.ensures.other c.if-are_digits.false)
