use Rattle.std.proofs.Common.{◌∷◌, [], Some, append_assoc, ap, arith, length, length-append, refl, sym, ◌∙◌}
use Rattle.sd_buffer.proofs.HexReadingLaws.{hex-before, hex-waits}
use Rattle.sd_buffer.proofs.hex_reader.HexReader.feed.Goals as goal

pub returns-in-None : goal.returns-in-None
returns-in-None c =
    λ text h room.
    let next = Some c.args.byte in
    hex-waits c.args.self.now _ c.args.buf.now text next h (sym c.in-None.ensures.value) refl refl

pub returns-in-Some : goal.returns-in-Some
returns-in-Some c =
    λ text h room.
    let was = c.in-Some.ensures in
    let before = hex-before c.args.self.now _ c.args.buf.now text c.in-Some.first h (sym was.value) was.after refl in
    let long = ap length before.1 ∙ length-append before.0 (c.in-Some.first ∷ []) in
    rw (before.1, append_assoc) (c.feed_pairs.ensures.value before.0 before.2 (omega arith))
