-- What is told of the place of a fault.
use Rattle.std.specs.Prelude.{ℕ, nat_lt, if◌then◌else◌, List, length, Option, Some, None, Result, Ok, Err}
use Rattle.sd_text.specs.Limits.{most_sddl_text}
use Rattle.sd_sid.specs.Sid.{SecurityId}
use Rattle.sd_parts.specs.declared.limits.TheConstants.{CAPACITY}
use Rattle.sd_faults.specs.Faults.{number, part_number}
use Rattle.sd_faults.specs.declared.line_fault.LineFault.{LineFault}
use Rattle.sd_faults.specs.declared.line_fault.LineFault.TheVariants as line
use Rattle.sd_call.specs.Arguments.{domain_in}
use Rattle.sd_call.specs.declared.outcome.CallFault.{CallFault}
use Rattle.sd_call.specs.Places.{nowhere}
use Rattle.sd_fault_places.specs.Places.{place_of_fault}
use Rattle.sd_fault_places.specs.declared.place.FaultPlace.{FaultPlace}
use Rattle.sd_fault_places.specs.declared.place.Field.{Field}
use Rattle.sd_fault_places.specs.declared.place.Field.TheVariants as field
use Rattle.sd_fault_places.specs.SddlPlaces.{place_of_sddl_fault}
use Rattle.sd_call_convert.specs.declared.told.PlaceTold.{PlaceTold}

-- a field as a number; 0 where there is none
abbrev pub field_number : Option Field → ℕ
field_number None = 0
field_number (Some field.Kind) = 1
field_number (Some field.Flags) = 2
field_number (Some field.Rights) = 3
field_number (Some field.ObjectType) = 4
field_number (Some field.InheritedObjectType) = 5
field_number (Some field.Sid) = 6
field_number (Some field.Size) = 7

-- the number of an ACE, from 0; the largest of 32 bits where there is none
abbrev pub ace_number : Option ℕ → ℕ
ace_number None = 0xffff_ffff
ace_number (Some ace) = ace

abbrev pub no_place : PlaceTold
no_place = record { fault = 0; part = 0; ace = ace_number None; field = 0; place = nowhere }

abbrev pub told_at : LineFault → FaultPlace → PlaceTold
told_at fault place = record {
  fault = number fault;
  part = part_number place.part;
  ace = ace_number place.ace;
  field = field_number place.field;
  place = record { offset = place.range.offset; size = place.range.size };
}

-- a fault of bytes or of a text, as a fault of a line
abbrev pub told : {Fault : Type 0} → (Fault → LineFault) → Option (Fault × FaultPlace) → PlaceTold
told of_line None = no_place
told of_line (Some found) = told_at (of_line found.0) found.1

-- the place of the fault of some bytes; bytes that are too many have none
abbrev pub place_told : List ℕ → PlaceTold
place_told bytes = if nat_lt CAPACITY (length bytes) then no_place else told line.Sd (place_of_fault bytes)

-- the place of the fault of a text of SDDL under a domain; bytes that are no domain have none
abbrev pub told_under : List ℕ → Result (Option SecurityId) CallFault → PlaceTold
told_under text (Err fault) = no_place
told_under text (Ok domain) = told line.Sddl (place_of_sddl_fault text domain)

-- the same of the bytes of a domain; a text that is too long has none
abbrev pub sddl_place_told : List ℕ → List ℕ → PlaceTold
sddl_place_told text domain =
    if nat_lt most_sddl_text (length text) then no_place else told_under text (domain_in domain)
