use Rattle.std.proofs.Common.{refl}
use Rattle.sd_buffer.proofs.HexReadingLaws.{hex-odd, hex-whole}
use Rattle.sd_buffer.proofs.hex_reader.HexReader.finish.Goals as goal
use Rattle.sd_buffer.proofs.hex_reader.HexReader.finish.Goals.{in-None-true, in-Some-default}

pub returns-in-None-false : goal.returns-in-None-false
returns-in-None-false c =
    λ text h.
    let whole = hex-whole c.args.self c.args.buf.now text h c.in-None-false.is-0 in
    rw (whole.1, c.in-None-false.is-1) (refl, refl)

pub returns : goal.returns
returns c =
    λ text h.
    elim c.match-self.branch [
      | in-None-true w ↦
          let whole = hex-whole c.args.self c.args.buf.now text h w.in-None-true.is-0 in
          rw (whole.1, w.in-None-true.is-1) (rw w.fault-is refl, c.clear.ensures)
      | in-Some-default w ↦
          let odd = hex-odd c.args.self c.args.buf.now text w.in-Some-default.field-0-0 h w.in-Some-default.is-0 in
          rw odd (rw w.fault-is refl, c.clear.ensures)
    ]
