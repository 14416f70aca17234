-- What a fault and its place are in a sentence.
use Rattle.std.specs.Fmt.{decimal}
use Rattle.std.specs.Prelude.{ℕ, ◌+◌, nat_eq, nat_lt, if◌then◌else◌, List, [], ◌++◌, length, codes, Option, Some, None}
use Rattle.std.specs.Prelude.{Result, Ok, Err}
use Rattle.sd_text.specs.Limits.{most_sddl_text}
use Rattle.sd_parts.specs.declared.part.Part.{Part}
use Rattle.sd_parts.specs.declared.part.Part.TheVariants as part
use Rattle.sd_faults.specs.FaultNames.{fault_name}
use Rattle.sd_faults.specs.Faults.{part_text}
use Rattle.sd_call.specs.declared.argument.Argument.TheVariants as which
use Rattle.sd_call.specs.declared.outcome.CallFault.{CallFault}
use Rattle.sd_call.specs.declared.outcome.CallFault.TheVariants as call
use Rattle.sd_call.specs.declared.outcome.Outcome.{Outcome}
use Rattle.sd_faults.specs.Meanings.{meaning}
use Rattle.sd_call_convert.specs.PlaceTold.{ace_number}
use Rattle.sd_call_convert.specs.declared.told.PlaceTold.{PlaceTold}

-- 1. The argument that is wrong, by its number and with the header's name; empty where no argument has the number.

abbrev pub argument_text : ℕ → List ℕ
argument_text number =
    if nat_eq number 1 then codes "domain: "
    else if nat_eq number 2 then codes "sids: "
    else if nat_eq number 3 then codes "entries: "
    else if nat_eq number 4 then codes "object: "
    else if nat_eq number 5 then codes "principal_self: "
    else if nat_eq number 6 then codes "mapping: "
    else if nat_eq number 7 then codes "creator: "
    else if nat_eq number 8 then codes "owner: "
    else if nat_eq number 9 then codes "group: "
    else if nat_eq number 10 then codes "kind: "
    else if nat_eq number 11 then codes "fault: "
    else if nat_eq number 12 then codes "sid: "
    else if nat_eq number 13 then codes "sacl: "
    else if nat_eq number 14 then codes "dacl: "
    else if nat_eq number 15 then codes "token: "
    else if nat_eq number 16 then codes "changes: "
    else if nat_eq number 17 then codes "options: "
    else if nat_eq number 18 then codes "ace: "
    else if nat_eq number 19 then codes "flags: "
    else if nat_eq number 20 then codes "guid: "
    else if nat_eq number 21 then codes "offsets: "
    else if nat_eq number 22 then codes "conversion: "
    else []

-- 2. The fault, as in the program's `error` line, and what it means.

abbrev pub part_numbered : ℕ → Option Part
part_numbered number =
    if nat_eq number 1 then Some part.Owner
    else if nat_eq number 2 then Some part.Group
    else if nat_eq number 3 then Some part.Sacl
    else if nat_eq number 4 then Some part.Dacl
    else None

abbrev pub line_text : ℕ → ℕ → ℕ → List ℕ
line_text number first second =
    codes "error " ++ decimal number ++ codes " " ++ fault_name number ++ part_text (part_numbered first)
    ++ part_text (part_numbered second) ++ codes ": " ++ meaning number

-- 3. The place: the first byte from 0, the ACE from 1.

abbrev pub part_words : Part → List ℕ
part_words part.Owner = codes "the owner"
part_words part.Group = codes "the group"
part_words part.Sacl = codes "the SACL"
part_words part.Dacl = codes "the DACL"

abbrev pub holder_text : Option Part → ℕ → List ℕ
holder_text None ace = []
holder_text (Some p) ace =
    if nat_eq ace (ace_number None) then codes ", " ++ part_words p
    else codes ", ACE " ++ decimal (ace + 1) ++ codes " of " ++ part_words p

-- a field by its number; empty where no field has the number
abbrev pub field_text : ℕ → List ℕ
field_text number =
    if nat_eq number 1 then codes ", kind"
    else if nat_eq number 2 then codes ", flags"
    else if nat_eq number 3 then codes ", rights"
    else if nat_eq number 4 then codes ", object type"
    else if nat_eq number 5 then codes ", inherited object type"
    else if nat_eq number 6 then codes ", SID"
    else if nat_eq number 7 then codes ", size"
    else []

abbrev pub place_text : PlaceTold → List ℕ
place_text place =
    codes ", at byte " ++ decimal place.place.offset ++ holder_text (part_numbered place.part) place.ace
    ++ field_text place.field

-- the place of this fault; one of another fault, or behind the longest text that there is, does not count
abbrev pub place_text_of : ℕ → PlaceTold → List ℕ
place_text_of number place =
    if nat_eq place.fault number
    then (if nat_lt most_sddl_text place.place.offset then [] else place_text place) else []

-- 4. The sentence.

abbrev pub sentence : Outcome → PlaceTold → List ℕ
sentence outcome place =
    argument_text outcome.argument ++ line_text outcome.fault outcome.part outcome.other_part
    ++ place_text_of outcome.fault place

-- for each fault that has a name
abbrev pub described : Outcome → PlaceTold → Result (List ℕ) CallFault
described outcome place =
    if nat_eq (length (fault_name outcome.fault)) 0 then Err (call.Argument which.Fault 0)
    else Ok (sentence outcome place)
