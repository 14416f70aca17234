-- What a reader of SDDL has read between its calls. Callers never look inside these words.
use Rattle.std.specs.Prelude.{ℕ, List, Option}
use Rattle.sd_sid.specs.Sid.{SecurityId}
use Rattle.sd_sddl_reader.specs.Inner.Reads.{IsReader, Reads}
use Rattle.sd_sddl_reader.specs.declared.reader.SddlReader.{SddlReader}

-- the buffer is as the reader's last call left it
abbrev pub IsReading : SddlReader → List ℕ → Type 0
IsReading reader buf = IsReader reader buf

-- and the reader was fed this text, under this domain
abbrev pub ReadsSddl : SddlReader → List ℕ → Option SecurityId → List ℕ → Type 0
ReadsSddl reader buf domain text = Reads reader buf domain text
