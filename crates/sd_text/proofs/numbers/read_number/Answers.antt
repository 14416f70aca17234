use Rattle.std.proofs.Common.{◌≡◌, ◌+◌, ◌*◌, drop, None, Some, arith}
use Rattle.std.specs.Prelude.{nat_lt, if◌then◌else◌}
use Rattle.std.specs.Option.{option_and_then}
use Rattle.std.proofs.lemmas.Grind.{common_steps}
use Rattle.sd_text.specs.Numbers.{number_after}
use Rattle.sd_text.proofs.NumberLemmas.{too_big}
use Rattle.sd_text.proofs.numbers.read_number.Goals as goal

pub returns-then-number-limit-clause-value : goal.returns-then-number-limit-clause-value
returns-then-number-limit-clause-value c =
    let base = c.args.base in
    let n = c.loop-byte.number * c.from-in-loop-byte.result + c.from-in-loop-byte-2.result in
    let left = drop (c.loop-byte.byte-index + 1) c.args.text.now in
    let none : option_and_then (λ m. if nat_lt m c.args.limit then Some m else None)
    (number_after base n left) ≡ None = too_big base c.args.limit n left (omega arith) (omega arith) in
    grind (arith, common_steps)
