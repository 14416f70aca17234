use Rattle.std.proofs.Common.{◌∙◌}
use Rattle.sd_buffer.proofs.HexReadingLaws.{hex-appends, hex-stays}
use Rattle.sd_buffer.proofs.hex_reader.HexReader.feed_pairs.Goals as goal
use Rattle.sd_buffer.proofs.hex_reader.HexReader.feed_pairs.Goals.{then-self, else-self}

pub returns-clause-value : goal.returns-clause-value
returns-clause-value c =
    λ text h room.
    let reader = c.args.self.now in
    let bytes = c.args.buf.now in
    let pairs = c.args.pairs.now in
    let none = c.requires.none_waits in
    let even = c.requires.even in
    elim c.if-self.branch [
      | then-self w ↦
          let wrong = w.if-self.true in
          hex-stays reader _ bytes _ text pairs h none none even wrong (w.self-is ∙ wrong)
      | else-self w ↦
          let right = w.if-self.false in
          let is = w.self-is ∙ w.is_err-self.ensures.value in
          let call = w.append_hex.ensures in
          rw w.buf-is (hex-appends reader _ bytes _ text pairs w.append_hex.result h none none even right is room call)
    ]
