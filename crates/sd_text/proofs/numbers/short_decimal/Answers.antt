use Rattle.std.proofs.Common.{ap, ◌∙◌, arith, get_or, inl, inr, rules}
use Rattle.std.specs.Int.{to_le_bytes, w64}
use Rattle.sd_text.proofs.FrontDigits.{no_digit}
use Rattle.sd_text.proofs.MovedDigits.{filled_word, moved-number}
use Rattle.sd_text.proofs.numbers.short_decimal.Goals as goal

pub returns-clause-number : goal.returns-clause-number
returns-clause-number c =
    moved-number c.args.block.now c.to_le_bytes-filled.result c.block_word-word.result c.digits_in-count.result
    c.block_number.result c.requires (search rules) c.block_word-word.ensures c.digits_in-count.ensures
    (c.to_le_bytes-filled.ensures
    ∙ ap (λ n. to_le_bytes w64 (filled_word c.block_word-word.result n)) c.shift_of.ensures)
    c.block_number.ensures.number

pub returns-clause-ends : goal.returns-clause-ends
returns-clause-ends c =
    λ few.
    no_digit (get_or c.args.block.now c.digits_in-count.result 0)
    (λ low high.
    elim c.if-next-le-NINE.either [
      | inl large ↦ omega (arith, c.from-next.ensures, large.1, high)
      | inr small ↦ omega (arith, c.from-next.ensures, small, low)
    ])
