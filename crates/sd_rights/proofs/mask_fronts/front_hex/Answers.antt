use Rattle.std.proofs.Common.{get_or, arith, ◌∙◌, refl, sym}
use Rattle.sd_rights.specs.HexValues.{has_values}
use Rattle.sd_rights.proofs.FrontMasks.{below-16, below-more, below-word, hex-more}
use Rattle.sd_rights.proofs.mask_fronts.front_hex.Goals as goal

pub value_in-value-requires : goal.value_in-value-requires
unfolding has_values
value_in-value-requires c = refl

pub overflow_mul-number : goal.overflow_mul-number
overflow_mul-number c =
    let small = below-word c.loop-i.i c.loop-i.number 0 (omega arith) c.loop-i.invariant.small (omega arith) in
    omega (arith, small)

pub overflow_add-number : goal.overflow_add-number
overflow_add-number c =
    let few = below-16 (get_or c.args.text.now c.loop-i.i 0) c.value_in-value.result c.value_in-value.ensures
    c.if-value-eq-NO_DIGIT.false in
    let small =
    below-word c.loop-i.i c.loop-i.number c.value_in-value.result (omega arith) c.loop-i.invariant.small few in
    omega (arith, small, c.from.ensures)

pub loop-i-preserved : goal.loop-i-preserved
loop-i-preserved c =
    let few = below-16 (get_or c.args.text.now c.loop-i.i 0) c.value_in-value.result c.value_in-value.ensures
    c.if-value-eq-NO_DIGIT.false in
    let same = c.from.ensures in
    record {
      small =
          below-more c.loop-i.i c.loop-i.number c.from.result c.loop-i.invariant.small (omega (arith, few, same));
      digits =
          hex-more c.args.text.now c.loop-i.i c.loop-i.number c.from.result (omega arith) c.loop-i.invariant.digits
          (same ∙ c.value_in-value.ensures) (λ is. c.if-value-eq-NO_DIGIT.false (sym same ∙ is));
    }
