use Rattle.std.proofs.Common.{◌≤◌, ◌-◌, get_or, subst, arith, ap, ◌∙◌, inl, inr}
use Rattle.sd_text.proofs.FrontDigits.{below_more_behind, digit_more, fits-behind, no_digit, plain_digit}
use Rattle.sd_text.proofs.numbers.few_digits.Goals as goal

pub loop-i-preserved : goal.loop-i-preserved
loop-i-preserved c =
    let text = c.args.text.now in
    let i = c.loop-i.i in
    let byte = c.from-byte.result in
    let low : 48 ≤ get_or text i 0 = subst (λ b. 48 ≤ b) c.from-byte.ensures c.if-byte-lt-ZERO.false in
    let high : get_or text i 0 ≤ 57 = subst (λ b. b ≤ 57) c.from-byte.ensures c.if-byte-gt-NINE.false in
    let digit = plain_digit (get_or text i 0) low high in
    record {
      small =
          below_more_behind i c.loop-i.number (byte - 48) c.loop-i.invariant.small
          (omega (arith, c.if-byte-gt-NINE.false));
      digits =
          digit_more c.args.before text i c.loop-i.number (byte - 48) (omega arith) c.loop-i.invariant.digits digit.0
          (ap (λ b. b - 48) c.from-byte.ensures ∙ digit.1);
    }

pub overflow_mul-number : goal.overflow_mul-number
overflow_mul-number c =
    let fits = fits-behind c.loop-i.i c.loop-i.number 0 c.loop-i.invariant.small (omega arith) (omega arith) in
    omega (arith, fits)

pub overflow_add-number : goal.overflow_add-number
overflow_add-number c =
    let byte = c.from-byte.result in
    let fits = fits-behind c.loop-i.i c.loop-i.number (byte - 48) c.loop-i.invariant.small (omega arith)
    (omega (arith, c.if-byte-gt-NINE.false)) in
    omega (arith, fits)

pub returns-then-byte-lt-ZERO-clause-ends : goal.returns-then-byte-lt-ZERO-clause-ends
returns-then-byte-lt-ZERO-clause-ends c =
    λ within.
    no_digit (get_or c.args.text.now c.loop-i.i 0)
    (λ low high.
    elim c.then-byte-lt-ZERO.either [
      | inl small ↦ omega (arith, c.from-byte.ensures, small)
      | inr large ↦ omega (arith, c.from-byte.ensures, large.1)
    ])
