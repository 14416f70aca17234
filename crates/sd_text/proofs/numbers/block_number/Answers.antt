use Rattle.std.proofs.Common.{arith}
use Rattle.sd_text.proofs.EightDigits.{reads}
use Rattle.sd_text.proofs.numbers.block_number.Goals as goal

pub overflow_sub-digits : goal.overflow_sub-digits
overflow_sub-digits c =
    (reads c.args.block.now c.block_word-digits.result c.requires.size c.requires.digits
    c.block_word-digits.ensures).zeros

pub overflow_mul-pairs : goal.overflow_mul-pairs
overflow_mul-pairs c =
    omega (
      arith,
      (reads c.args.block.now c.block_word-digits.result c.requires.size c.requires.digits
          c.block_word-digits.ensures).tens,
    )

pub overflow_add-pairs : goal.overflow_add-pairs
overflow_add-pairs c =
    omega (
      arith,
      (reads c.args.block.now c.block_word-digits.result c.requires.size c.requires.digits
          c.block_word-digits.ensures).sums,
    )

pub returns-clause-number : goal.returns-clause-number
returns-clause-number c =
    rw (c.outer_bytes.ensures, c.outer_bytes-2.ensures)
    (reads c.args.block.now c.block_word-digits.result c.requires.size c.requires.digits
    c.block_word-digits.ensures).number

pub returns-clause-small : goal.returns-clause-small
returns-clause-small c =
    rw (c.outer_bytes.ensures, c.outer_bytes-2.ensures)
    (reads c.args.block.now c.block_word-digits.result c.requires.size c.requires.digits
    c.block_word-digits.ensures).small
