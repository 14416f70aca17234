use Rattle.std.proofs.Common.{[], ◌∷◌, ◌++◌, length, refl, sym, ap, ◌∙◌, append_assoc, arith, length-append}
use Rattle.sd_buffer.proofs.HexReadingLaws.{hex-before}
use Rattle.sd_buffer.proofs.hex_reader.HexReader.feed_all.Goals as goal

pub returns-in-Some-take : goal.returns-in-Some-take
returns-in-Some-take c =
    λ text h room.
    let first = c.in-Some-take.first in
    let second = c.in-Some.second.now in
    let rest = c.in-Some.rest.now in
    let was = c.in-Some-take.ensures in
    let before = hex-before c.args.self.now _ c.args.buf.now text first h (sym was.value) was.after refl in
    let long = ap length before.1 ∙ length-append before.0 (first ∷ []) in
    let paired = c.feed_pairs.ensures.value before.0 before.2 (omega (arith, c.in-Some.ensures.cases.1)) in
    let read =
    c.feed_aligned-in-Some-take.ensures (before.0 ++ first ∷ second ∷ []) paired
    (omega (arith, length-append before.0 (first ∷ second ∷ []), c.in-Some.ensures.cases.1)) in
    rw (before.1, c.in-Some.ensures.cases.0, append_assoc)
    (rw append_assoc at read)
