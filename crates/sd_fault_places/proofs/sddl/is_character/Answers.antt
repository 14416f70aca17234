use Rattle.std.proofs.Common.{take, length, ap, arith}
use Rattle.std.specs.Str.Lossy.{utf8_valid_len}
use Rattle.std.proofs.lemmas.Bool.Decides.{nat_tests}
use Rattle.std.proofs.lemmas.List.{length-take, length-take-le}
use Rattle.std.proofs.lemmas.Str.{utf8_valid_len-IsUtf8, utf8_valid_len_le}
use Rattle.sd_fault_places.proofs.sddl.is_character.Goals as goal

pub returns-then-size-text : goal.returns-then-size-text
returns-then-size-text c =
    let low = utf8_valid_len_le (take c.args.size c.args.text.now) in
    let size = length-take c.args.size c.args.text.now in
    grind (arith, nat_tests, low, size, c.if-size-text.true)

pub returns-in-Ok : goal.returns-in-Ok
returns-in-Ok c =
    let whole = utf8_valid_len-IsUtf8 c.until.result.now c.in-Ok.ensures.cases.1 in
    let size = length-take-le c.args.size c.args.text.now (omega arith) in
    let same = ap utf8_valid_len c.until.ensures.value in
    let sizes = ap length c.until.ensures.value in
    grind (arith, nat_tests, whole, size, same, sizes)
