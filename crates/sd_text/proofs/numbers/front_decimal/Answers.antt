use Rattle.std.proofs.Common.{sym, ap, ◌∙◌, arith}
use Rattle.sd_text.specs.Numbers.{number_after}
use Rattle.sd_text.proofs.FrontDigits.{behind_block, ends-behind, ends-in-block, taken-again}
use Rattle.sd_text.proofs.numbers.front_decimal.Goals as goal

pub returns-then-not-are_digits-clause-number : goal.returns-then-not-are_digits-clause-number
returns-then-not-are_digits-clause-number c =
    let read = c.short_decimal in
    ap (number_after 10 0) (sym (taken-again read.result.1 8 c.args.text.now read.ensures.within)) ∙ read.ensures.number

pub returns-clause-number : goal.returns-clause-number
returns-clause-number c =
    let read = c.few_digits-number in
    behind_block c.args.text.now read.result.1 c.block_number.result read.result.0 read.ensures.within
    c.block_number.ensures.number read.ensures.number

pub returns-then-not-are_digits-clause-ends : goal.returns-then-not-are_digits-clause-ends
returns-then-not-are_digits-clause-ends c =
    let read = c.short_decimal in
    λ few within.
    ends-in-block c.args.text.now read.result.1 read.result.0 (omega arith) read.ensures.within
    (sym c.are_digits.ensures ∙ c.if-not-are_digits.true) read.ensures.number read.ensures.ends

pub returns-clause-ends : goal.returns-clause-ends
returns-clause-ends c =
    let read = c.few_digits-number in
    λ few within. ends-behind c.args.text.now read.result.1 (omega arith) within read.ensures.ends
