use Rattle.std.proofs.Common.{refl}
use Rattle.sd_buffer.proofs.HexReadingLaws.{hex-begun}
use Rattle.sd_buffer.proofs.hex_reader.HexReader.new.Goals as goal

pub returns : goal.returns
returns c = rw c.clear.ensures (hex-begun _ refl refl)
