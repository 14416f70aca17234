-- What a call hands back: the number of its fault, the parts that the fault names, and how many bytes there are.
use Rattle.std.specs.Prelude.{◌≡◌, ◌≤◌, ◌<◌, ◌⊎◌, ℕ, List, length, take, Option, Some, None, Result, Ok, Err}
use Rattle.sd_faults.specs.Faults as line
use Rattle.sd_faults.specs.Faults.{part_number}
use Rattle.sd_check.specs.declared.ask.AskFault.TheVariants as ask
use Rattle.sd_edit.specs.declared.edited.ChangeFault.TheVariants as changes
use Rattle.sd_parts.specs.Parts.{part_of}
use Rattle.sd_parts.specs.declared.part.Part.{Part}
use Rattle.sd_call.specs.declared.argument.Argument.{Argument}
use Rattle.sd_call.specs.declared.argument.Argument.TheVariants as which
use Rattle.sd_call.specs.declared.outcome.Outcome.{Outcome}
use Rattle.sd_call.specs.declared.outcome.CallFault.{CallFault}
use Rattle.sd_call.specs.declared.outcome.CallFault.TheVariants.{Ask, Line}
use Rattle.sd_call.specs.declared.outcome.CallFault.TheVariants as call

-- the number of a fault, as in the program's `error` lines; 70 where an argument is none that the call takes
abbrev pub number : CallFault → ℕ
number (Line fault) = line.number fault
number (Ask ask.EmptyRequest) = 50
number (Ask ask.ReservedBits) = 51
number (call.Argument argument entry) = 70
number (call.Change (changes.Impossible acl) entry) = 73
number (call.Change (changes.TooLarge acl) entry) = 30

-- the parts that a fault names
abbrev pub named_parts : CallFault → Option Part × Option Part
named_parts (Line fault) = line.named_parts fault
named_parts (Ask fault) = (None, None)
named_parts (call.Argument argument entry) = (None, None)
named_parts (call.Change (changes.Impossible acl) entry) = (Some (part_of acl), None)
named_parts (call.Change (changes.TooLarge acl) entry) = (Some (part_of acl), None)

abbrev pub argument_number : Argument → ℕ
argument_number which.Domain = 1
argument_number which.Sids = 2
argument_number which.Entries = 3
argument_number which.Object = 4
argument_number which.PrincipalSelf = 5
argument_number which.Mapping = 6
argument_number which.Creator = 7
argument_number which.Owner = 8
argument_number which.Group = 9
argument_number which.Kind = 10
argument_number which.Fault = 11
argument_number which.Sid = 12
argument_number which.Sacl = 13
argument_number which.Dacl = 14
argument_number which.Token = 15
argument_number which.Changes = 16
argument_number which.Options = 17
argument_number which.Ace = 18
argument_number which.Flags = 19
argument_number which.Guid = 20
argument_number which.Offsets = 21
argument_number which.Conversion = 22

-- the argument that a fault is about, as a number; 0 where it is about none
abbrev pub argument_of : CallFault → ℕ
argument_of (Line fault) = 0
argument_of (Ask fault) = 0
argument_of (call.Argument argument entry) = argument_number argument
argument_of (call.Change fault entry) = argument_number which.Changes

-- which entry of that argument, from 0 on
abbrev pub entry_of : CallFault → ℕ
entry_of (Line fault) = 0
entry_of (Ask fault) = 0
entry_of (call.Argument argument entry) = entry
entry_of (call.Change fault entry) = entry

abbrev pub failed : CallFault → Outcome
failed fault = record {
  fault = number fault;
  part = part_number (named_parts fault).0;
  other_part = part_number (named_parts fault).1;
  argument = argument_of fault;
  entry = entry_of fault;
  length = 0;
}

abbrev pub done : ℕ → Outcome
done n = record { fault = 0; part = 0; other_part = 0; argument = 0; entry = 0; length = n }

-- the output has no room for so many bytes
abbrev pub too_small : ℕ → Outcome
too_small n = record { fault = 71; part = 0; other_part = 0; argument = 0; entry = 0; length = n }

abbrev pub no_memory : Outcome
no_memory = record { fault = 72; part = 0; other_part = 0; argument = 0; entry = 0; length = 0 }

-- The bytes are at the front of the output if there is room for them; if not, the call says how many there are.
pub record Gives (bytes old new : List ℕ) (outcome : Outcome) : Type 0 where
  pub fits : length bytes ≤ length old → (outcome ≡ done (length bytes)) × (take (length bytes) new ≡ bytes)
  pub short : length old < length bytes → outcome ≡ too_small (length bytes)

-- After a fault the output is unchanged.
abbrev pub Answers : Result (List ℕ) CallFault → List ℕ → List ℕ → Outcome → Type 0
Answers (Ok bytes) old new outcome = Gives bytes old new outcome
Answers (Err fault) old new outcome = (outcome ≡ failed fault) × (new ≡ old)

-- the bytes are at the front of the cells, and so many
pub record Fills (n : ℕ) (bytes old new : List ℕ) : Type 0 where
  pub count : n ≡ length bytes
  pub within : n ≤ length old
  pub front : take n new ≡ bytes

-- memory was refused, and the output is unchanged
abbrev pub Refused : List ℕ → List ℕ → Outcome → Type 0
Refused old new outcome = (outcome ≡ no_memory) × (new ≡ old)

-- The answer that is made of what some arguments were read as. A fault of theirs is told whether there is memory or
-- not; behind it memory may be refused for the answer.
abbrev pub AnswersWithin : {A : Type 0} → Result A CallFault → Result (List ℕ) CallFault → List ℕ → List ℕ → Outcome
    → Type 0
AnswersWithin (Ok value) answer old new outcome = Answers answer old new outcome ⊎ Refused old new outcome
AnswersWithin (Err fault) answer old new outcome = (outcome ≡ failed fault) × (new ≡ old)
