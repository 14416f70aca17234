-- The texts of a GUID, and of the rights and the flags of an ACE.
use Rattle.std.specs.Prelude.{ℕ, ◌/◌, ◌%◌, ◌&&◌, Bool, nat_eq, nat_lt, if◌then◌else◌, List, length, Result, Ok, Err}
use Rattle.std.specs.Option.{ok_or}
use Rattle.uuid.specs.Parts.{swap_fields}
use Rattle.sd_text.specs.Chains.{◌>>=◌}
use Rattle.sd_ace.specs.GuidText.{guid_reads, guid_text}
use Rattle.sd_kinds.specs.Flags.{flags_reads, flags_text}
use Rattle.sd_kinds.specs.declared.kinds.AceKind.{AceKind}
use Rattle.sd_kinds.specs.declared.kinds.AceKind.TheVariants as kinds
use Rattle.sd_rights.specs.Rights.{rights_reads, rights_text}
use Rattle.sd_sddl_builder.specs.declared.fault.SddlFault.{SddlFault}
use Rattle.sd_sddl_builder.specs.declared.fault.SddlFault.TheVariants as sddl
use Rattle.sd_faults.specs.declared.line_fault.LineFault.TheVariants as line
use Rattle.sd_call.specs.Outcomes.{done, failed}
use Rattle.sd_call.specs.declared.argument.Argument.TheVariants as which
use Rattle.sd_call.specs.declared.outcome.CallFault.{CallFault}
use Rattle.sd_call.specs.declared.outcome.CallFault.TheVariants as call
use Rattle.sd_call_convert.specs.declared.field_texts.NumberTold.{NumberTold}

-- a fault of a text, as one of a call
abbrev pub of_text : SddlFault → CallFault
of_text fault = call.Line (line.Sddl fault)

-- 1. Rights and flags.

abbrev pub told : Result ℕ CallFault → NumberTold
told (Ok n) = record { outcome = done 0; number = n }
told (Err fault) = record { outcome = failed fault; number = 0 }

abbrev pub rights_in : List ℕ → Result ℕ CallFault
rights_in text = ok_or (rights_reads text) (of_text sddl.Rights)

abbrev pub flags_in : List ℕ → Result ℕ CallFault
flags_in text = ok_or (flags_reads text) (of_text sddl.Flags)

-- the rights of a label have names of their own, and those of each other kind the same names
abbrev pub kind_if : Bool → AceKind
kind_if label = if label then kinds.Label else kinds.Allow

abbrev pub rights_to_text : ℕ → Bool → List ℕ
rights_to_text mask label = rights_text (kind_if label) mask

-- a byte without 0x20
abbrev pub are_flags : ℕ → Bool
are_flags flags = nat_lt flags 256 && nat_eq (flags / 0x20 % 2) 0

abbrev pub flags_to_text : ℕ → Result (List ℕ) CallFault
flags_to_text flags = if are_flags flags then Ok (flags_text flags) else Err (call.Argument which.Flags 0)

-- 2. GUIDs, whose bytes are as in an ACE.

abbrev pub guid_from_text : List ℕ → Result (List ℕ) CallFault
guid_from_text text = do
  guid ← ok_or (guid_reads text) (of_text sddl.Guid)
  Ok (swap_fields guid)

abbrev pub guid_in : List ℕ → Result (List ℕ) CallFault
guid_in bytes = if nat_eq (length bytes) 16 then Ok (swap_fields bytes) else Err (call.Argument which.Guid 0)

abbrev pub guid_to_text : List ℕ → Result (List ℕ) CallFault
guid_to_text bytes = do
  guid ← guid_in bytes
  Ok (guid_text guid)
