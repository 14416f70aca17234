use Rattle.std.proofs.Common.{rules, ◌<◌, arith, length, slice_index, inl, inr}
use Rattle.std.proofs.lemmas.Bool.{cases_lt}
use Rattle.sd_buffer.proofs.HexBlocks.{no-digit, read-more}
use Rattle.sd_buffer.proofs.hex_digits.values_of.Goals as goal

pub loop-i-preserved : goal.loop-i-preserved
loop-i-preserved c =
    let digits = c.args.digits.now in
    let before = c.loop-i.invariant in
    let value = c.digit_value-value.result in
    let within : c.loop-i.i < length digits = omega (arith, c.requires, c.loop-i-test.true) in
    record {
      full = search rules;
      read = λ small.
          read-more digits c.loop-i.values c.loop-i.i value within (omega (arith, before.full, c.loop-i-test.true))
          c.digit_value-value.ensures.value (omega (arith, c.max-most.ensures, small))
          (before.read (omega (arith, c.max-most.ensures, small)));
      other = λ most. elim (cases_lt value 16) [
        | inl digit ↦ before.other (omega (arith, c.max-most.ensures, most, digit))
        | inr other ↦
            (c.loop-i.i, within, no-digit (slice_index digits c.loop-i.i) value c.digit_value-value.ensures.value other)
      ];
    }
