use Rattle.std.proofs.Common.{◌≡◌, ◌+◌, ◌/◌, arith, sym}
use Rattle.sd_text.proofs.DigitLemmas.{decimal-eight, decimal-four, decimal-two, written_as, written_then, written_to}
use Rattle.sd_text.proofs.digits.write_decimal.Goals as goal

pub returns-then-number-lt100000000-clause-written : goal.returns-then-number-lt100000000-clause-written
returns-then-number-lt100000000-clause-written c =
    written_as (sym (decimal-four c.args.number c.if-number-lt10000.false (omega arith)))
    (written_then c.write_first_four-end.ensures.written c.write_four.ensures)

pub returns-then-first-lt10-clause-written : goal.returns-then-first-lt10-clause-written
returns-then-first-lt10-clause-written c =
    let last : c.args.at + 1 + 8 ≡ c.args.at + 9 = omega arith in
    written_as (sym (decimal-eight c.args.number c.if-number-lt100000000.false (omega arith)))
    (written_then c.write_digit.ensures
    (written_to last (written_as c.digits_word-last.ensures c.write_word.ensures)))

pub returns-clause-written : goal.returns-clause-written
returns-clause-written c =
    let first = c.args.number / 100000000 in
    let last : c.args.at + 2 + 8 ≡ c.args.at + 10 = omega arith in
    written_as (sym (decimal-eight c.args.number c.if-number-lt100000000.false (omega arith)))
    (written_then (written_as (sym (decimal-two first (omega arith) (omega arith))) c.write_pair.ensures)
    (written_to last (written_as c.digits_word-last.ensures c.write_word-2.ensures)))
