use Rattle.std.proofs.Common.{rules}
use Rattle.sd_text.proofs.BlockDigits.{are-digits}
use Rattle.sd_text.proofs.numbers.are_digits.Goals as goal

pub returns : goal.returns
returns c =
    are-digits c.args.block.now c.block_word-word.result c.requires (search rules) c.block_word-word.ensures
