use Rattle.std.proofs.Common.{◌≡◌, [], length, take, drop, arith}
use Rattle.std.proofs.lemmas.List.{take_rest, length-take-le}
use Rattle.sd_sid.specs.SidText.{cut_at_dashes, sid_front}
use Rattle.sd_sid.proofs.SidFronts.{number-cut, number-size}
use Rattle.sd_sid.proofs.UsualNumbers.{decimal_is, reads_is}
use Rattle.sd_sid.proofs.usual_sid.front_number.Goals as goal

pub returns-clause-number : goal.returns-clause-number
returns-clause-number c =
    let text = c.args.text.now in
    let n = c.front_decimal-number.result.0 in
    let count = c.front_decimal-number.result.1 in
    let digits = c.front_decimal-number.ensures.number in
    let size : length (take count text) ≡ count = length-take-le count text c.front_decimal-number.ensures.within in
    let ends : (cut_at_dashes (sid_front (drop count text))).first ≡ [] =
    rw (take_rest text count) at (c.ends_number.ensures.ends c.if-not-ends_number.false) in (
      take count text,
      decimal_is n (take count text) (omega arith) digits,
      reads_is n (take count text) (omega (arith, c.front_decimal-number.ensures.few))
          (omega (arith, c.if-number.false)) digits,
      rw (take_rest text count) (number-cut text count n digits ends),
    )

pub returns-clause-size : goal.returns-clause-size
returns-clause-size c =
    let text = c.args.text.now in
    let count = c.front_decimal-number.result.1 in
    rw (take_rest text count)
    (number-size text count c.front_decimal-number.result.0 c.front_decimal-number.ensures.number)
