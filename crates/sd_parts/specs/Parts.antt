-- The parts of a descriptor (MS-DTYP 2.4.6), and a value for each of them.
use Rattle.std.specs.Prelude.{Bool, true, false}
use Rattle.sd_parts.specs.declared.part.Part.{Part}
use Rattle.sd_parts.specs.declared.part.Part.TheVariants.{Owner, Group, Sacl, Dacl}
use Rattle.sd_parts.specs.declared.part.Parts.{Parts}
use Rattle.sd_parts.specs.declared.part.SidPart.{SidPart}
use Rattle.sd_parts.specs.declared.part.SidPart.TheVariants as sid
use Rattle.sd_parts.specs.declared.part.Which.{Which}
use Rattle.sd_parts.specs.declared.part.Which.TheVariants as which

-- the part that a SID or an ACL is
abbrev pub sid_part_of : SidPart → Part
sid_part_of sid.Owner = Owner
sid_part_of sid.Group = Group

abbrev pub part_of : Which → Part
part_of which.Sacl = Sacl
part_of which.Dacl = Dacl

abbrev pub same_part : Part → Part → Bool
same_part Owner Owner = true
same_part Group Group = true
same_part Sacl Sacl = true
same_part Dacl Dacl = true
same_part _ _ = false

-- the same value for each part
abbrev pub each_part : {A : Type 0} → A → Parts A
each_part x = record { owner = x; group = x; sacl = x; dacl = x }

-- the value for a part
abbrev pub get_part : {A : Type 0} → Part → Parts A → A
get_part Owner xs = xs.owner
get_part Group xs = xs.group
get_part Sacl xs = xs.sacl
get_part Dacl xs = xs.dacl

-- the values with another one for a part
abbrev pub set_part : {A : Type 0} → Part → A → Parts A → Parts A
set_part Owner x xs = record xs { owner = x }
set_part Group x xs = record xs { group = x }
set_part Sacl x xs = record xs { sacl = x }
set_part Dacl x xs = record xs { dacl = x }
