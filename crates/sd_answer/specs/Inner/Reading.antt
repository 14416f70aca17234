-- The reader of a line, by its form.
use Rattle.std.specs.Prelude.{◌≡◌, ℕ, List, Option, Result, Ok, Err}
use Rattle.sd_sid.specs.Sid.{SecurityId}
use Rattle.sd_buffer.specs.HexReading.{ReadsHex}
use Rattle.sd_view.specs.Descriptor.{Descriptor}
use Rattle.sd_view.specs.Reading.{reading}
use Rattle.sd_view.specs.WrittenForm.{IsWrittenForm}
use Rattle.sd_sddl_reader.specs.SddlReading.{IsReading, ReadsSddl}
use Rattle.sd_answer.specs.Answer.{or_byte_fault}
use Rattle.sd_faults.specs.declared.line_fault.LineFault.{LineFault}
use Rattle.sd_answer.specs.declared.job.Form.{Form}
use Rattle.sd_answer.specs.declared.job.Form.TheVariants as form
use Rattle.sd_answer.specs.declared.line.LineReader.{LineReader}
use Rattle.sd_answer.specs.declared.line.LineReader.TheVariants as reader

-- the form of the lines that a reader reads
abbrev pub form_of : LineReader → Form
form_of (reader.Hex r) = form.Hex
form_of reader.Base64 = form.Base64
form_of (reader.Sddl r) = form.Sddl

-- a reader may go on with the buffer beside it
abbrev pub CanRead : LineReader → List ℕ → Type 0
CanRead (reader.Hex r) read = Unit {0}
CanRead reader.Base64 read = Unit {0}
CanRead (reader.Sddl r) read = IsReading r read

-- a reader and what stands beside it, the buffer and what is held, have read this text
abbrev pub HasRead : LineReader → List ℕ → List ℕ → Option SecurityId → List ℕ → Type 0
HasRead (reader.Hex r) read held domain text = ReadsHex r read text
HasRead reader.Base64 read held domain text = held ≡ text
HasRead (reader.Sddl r) read held domain text = ReadsSddl r read domain text

-- a reader of SDDL leaves bytes in their written form
abbrev pub IsWrittenBy : LineReader → List ℕ → Type 0
IsWrittenBy (reader.Hex r) read = Unit {0}
IsWrittenBy reader.Base64 read = Unit {0}
IsWrittenBy (reader.Sddl r) read = IsWrittenForm read

-- the end of a line leaves the bytes of what it means, or there is none
abbrev pub Leaves : Result Descriptor LineFault → Result (Unit {0}) LineFault → List ℕ → Type 0
Leaves wanted (Ok x) bytes = wanted ≡ or_byte_fault (reading bytes)
Leaves wanted (Err fault) bytes = wanted ≡ Err fault
