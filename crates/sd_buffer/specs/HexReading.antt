-- What a hex reader has read between its calls. Callers never look inside `ReadsHex`.
use Rattle.std.specs.Prelude.{ℕ, List}
use Rattle.sd_buffer.specs.Inner.HexPairs.{ReadingHex}
use Rattle.sd_buffer.specs.declared.hex_reader.HexReader.{HexReader}

-- the buffer is as the reader's last call left it, and the reader was fed this text
unfoldable pub ReadsHex : HexReader → List ℕ → List ℕ → Type 0
ReadsHex r bytes text = ReadingHex r bytes text
