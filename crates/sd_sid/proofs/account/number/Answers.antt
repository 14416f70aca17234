use Rattle.std.proofs.Common.{◌≡◌, ◌++◌, length, take, sym, ◌∙◌, ap, arith, take-append-drop}
use Rattle.std.proofs.lemmas.List.{take_rest, length-take-le}
use Rattle.sd_sid.proofs.UsualNumbers.{decimal_is, reads_is}
use Rattle.sd_sid.proofs.account.number.Goals as goal

pub returns : goal.returns
returns c =
    let text = c.args.text.now in
    let n = c.front_decimal-number.result.0 in
    let count = c.front_decimal-number.result.1 in
    let digits = c.front_decimal-number.ensures.number in
    let size : length (take count text) ≡ count = length-take-le count text c.front_decimal-number.ensures.within in
    let few = c.front_decimal-number.ensures.few in
    record {
      digits = take count text;
      stands = sym (ap (λ t. take count text ++ t) (take_rest text count) ∙ take-append-drop count text);
      form = decimal_is n (take count text) (omega (arith, size, c.if-count-eq0.false)) digits;
      reads = reads_is n (take count text) (omega (arith, size, few)) (omega (arith, c.if-number.false)) digits;
      few = omega (arith, size, few);
    }
