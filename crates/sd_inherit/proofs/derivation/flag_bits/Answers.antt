use Rattle.std.proofs.Common.{arith}
use Rattle.sd_inherit.proofs.laws.LimitLaws.{flags-lt}
use Rattle.sd_inherit.proofs.derivation.flag_bits.Goals as goal

pub overflow_add-result : goal.overflow_add-result
overflow_add-result c = rw (c.bits.ensures.value, c.bits-2.ensures.value)
    (omega (arith, flags-lt c.new_flags-sacl.result c.new_flags-dacl.result))
