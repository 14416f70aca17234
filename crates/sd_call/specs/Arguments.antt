-- Arguments as the values that they spell.
use Rattle.std.specs.Prelude.{ℕ, List, if◌then◌else◌, nat_eq, nat_lt, length, Option, Some, None, Result, Ok, Err}
use Rattle.sd_text.specs.Chains.{fault_as}
use Rattle.sd_parts.specs.declared.limits.TheConstants.{CAPACITY}
use Rattle.sd_rights.specs.Mapping.{GenericMapping, directory_mapping, file_mapping, key_mapping}
use Rattle.sd_sid.specs.Sid.{SecurityId, sid_at}
use Rattle.sd_view.specs.Descriptor.{Descriptor}
use Rattle.sd_view.specs.Reading.{reading}
use Rattle.sd_faults.specs.declared.line_fault.LineFault.TheVariants as line
use Rattle.sd_call.specs.declared.argument.Argument.{Argument}
use Rattle.sd_call.specs.declared.argument.Argument.TheVariants as which
use Rattle.sd_call.specs.declared.outcome.CallFault.{CallFault}
use Rattle.sd_call.specs.declared.outcome.CallFault.TheVariants.{Line}
use Rattle.sd_call.specs.declared.outcome.CallFault.TheVariants as call

-- a SID that takes all of the bytes
abbrev pub whole_sid : Argument → ℕ → Option (SecurityId × ℕ) → Result SecurityId CallFault
whole_sid argument n None = Err (call.Argument argument 0)
whole_sid argument n (Some found) = if nat_eq found.1 n then Ok found.0 else Err (call.Argument argument 0)

-- the SID that an argument is
abbrev pub sid_in : Argument → List ℕ → Result SecurityId CallFault
sid_in argument bytes = whole_sid argument (length bytes) (sid_at bytes)

abbrev pub some_sid : Result SecurityId CallFault → Result (Option SecurityId) CallFault
some_sid (Ok sid) = Ok (Some sid)
some_sid (Err fault) = Err fault

-- the same, and none where the argument is empty
unfoldable pub optional_sid_in : Argument → List ℕ → Result (Option SecurityId) CallFault
optional_sid_in argument bytes = if nat_eq (length bytes) 0 then Ok None else some_sid (sid_in argument bytes)

abbrev pub domain_in : List ℕ → Result (Option SecurityId) CallFault
domain_in bytes = optional_sid_in which.Domain bytes

-- the kind of object whose generic rights are meant, by its number
abbrev pub mapping_in : ℕ → Result GenericMapping CallFault
mapping_in number =
    if nat_eq number 0 then Ok file_mapping
    else if nat_eq number 1 then Ok key_mapping
    else if nat_eq number 2 then Ok directory_mapping
    else Err (call.Argument which.Mapping 0)

-- what some bytes show; as in the program, more bytes than a descriptor ever has are too long
unfoldable pub descriptor_in : List ℕ → Result Descriptor CallFault
descriptor_in bytes =
    if nat_lt CAPACITY (length bytes) then Err (Line line.TooLong)
    else fault_as (λ fault. Line (line.Sd fault)) (reading bytes)
