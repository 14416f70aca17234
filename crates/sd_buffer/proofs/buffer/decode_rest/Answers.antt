use Rattle.std.proofs.Common.{◌≤◌, arith, length, refl}
use Rattle.std.proofs.lemmas.List.{length-take-le}
use Rattle.sd_buffer.proofs.laws.SpelledBase64.{base64-err, base64-ok}
use Rattle.sd_buffer.proofs.buffer.decode_rest.Goals as goal

pub returns-in-Ok-clause-value : goal.returns-in-Ok-clause-value
returns-in-Ok-clause-value c =
    let cells = c.decode_slice_unchecked.new.output in
    let room : c.in-Ok.count ≤ length
    cells = omega (arith, c.in-Ok.ensures.ok.2, c.decode_slice_unchecked.auto.output) in
    rw (base64-ok c.args.text.now _ c.in-Ok.ensures.ok.0, length-take-le c.in-Ok.count cells room) (refl, refl)

pub returns-in-Err-clause-value : goal.returns-in-Err-clause-value
returns-in-Err-clause-value c = rw (base64-err c.args.text.now _ c.in-Err.ensures.err) refl
