-- What a change makes of a descriptor, and what changes make of it one after the other.
use Rattle.std.specs.Prelude.{◌≡◌, ℕ, nat_lt, if◌then◌else◌, List, [], ◌∷◌, ◌++◌, Option, Some, None, Result, Ok, Err}
use Rattle.sd_ace.specs.Ace.{AccessControlEntry}
use Rattle.sd_acl_view.specs.Acl.{acl_size}
use Rattle.sd_builder.specs.Draft.{is_present}
use Rattle.sd_parts.specs.Control.{control_of}
use Rattle.sd_parts.specs.declared.part.Which.{Which}
use Rattle.sd_parts.specs.declared.part.Which.TheVariants as which
use Rattle.sd_view.specs.Descriptor.{Descriptor}
use Rattle.sd_view.specs.declared.acl_part.AclPart.{AclPart}
use Rattle.sd_view.specs.declared.acl_part.AclPart.TheVariants as acl
use Rattle.sd_edit.specs.Lists.{list_edited}
use Rattle.sd_edit.specs.Order.{ordered}
use Rattle.sd_edit.specs.Setting.{with_bits}
use Rattle.sd_edit.specs.declared.change.AclChange.{AclChange}
use Rattle.sd_edit.specs.declared.change.AclChange.TheVariants as changes
use Rattle.sd_edit.specs.declared.change.AclState.{AclState}
use Rattle.sd_edit.specs.declared.change.AclState.TheVariants as state
use Rattle.sd_edit.specs.declared.change.Change.{Change}
use Rattle.sd_edit.specs.declared.change.Change.TheVariants as change
use Rattle.sd_edit.specs.declared.change.ListChange.{ListChange}
use Rattle.sd_edit.specs.declared.edited.ChangeFault.{ChangeFault}
use Rattle.sd_edit.specs.declared.edited.ChangeFault.TheVariants as fault

-- 1. An ACL.

abbrev pub acl_state : AclState → AclPart
acl_state state.Absent = acl.Absent
acl_state state.Null = acl.Null
acl_state state.List = acl.List []

-- a list that an ACL can hold (2.4.5)
abbrev pub sized : Which → List AccessControlEntry × ℕ → Result (AclPart × ℕ) ChangeFault
sized w made = if nat_lt 65535 (acl_size made.0) then Err (fault.TooLarge w) else Ok (acl.List made.0, made.1)

abbrev pub sized_if : Which → Option (List AccessControlEntry × ℕ) → Result (AclPart × ℕ) ChangeFault
sized_if w None = Err (fault.Impossible w)
sized_if w (Some made) = sized w made

-- the ACEs of an absent or a null ACL can't be changed
unfoldable pub aces_edited : Which → ListChange → AclPart → Result (AclPart × ℕ) ChangeFault
aces_edited w c acl.Absent = Err (fault.Impossible w)
aces_edited w c acl.Null = Err (fault.Impossible w)
aces_edited w c (acl.List aces) = sized_if w (list_edited w c aces)

abbrev pub acl_ordered : Which → AclPart → AclPart
acl_ordered w acl.Absent = acl.Absent
acl_ordered w acl.Null = acl.Null
acl_ordered w (acl.List aces) = acl.List (ordered w aces)

-- the ACL, and how many ACEs were put, taken or set
unfoldable pub acl_edited : Which → AclChange → AclPart → Result (AclPart × ℕ) ChangeFault
acl_edited w (changes.List c) part = aces_edited w c part
acl_edited w changes.Order part = Ok (acl_ordered w part, 0)
acl_edited w (changes.State s) part = Ok (acl_state s, 0)

-- 2. A descriptor (2.4.6).

abbrev pub acl_of : Which → Descriptor → AclPart
acl_of which.Sacl d = d.sacl
acl_of which.Dacl d = d.dacl

-- the present bits follow the ACLs
abbrev pub with_control : ℕ → Descriptor → Descriptor
with_control control d = record d { control = control_of control (is_present d.sacl) (is_present d.dacl) }

abbrev pub with_acl : Which → AclPart → Descriptor → Descriptor
with_acl which.Sacl part d = with_control d.control (record d { sacl = part })
with_acl which.Dacl part d = with_control d.control (record d { dacl = part })

abbrev pub acl_made : Which → Result (AclPart × ℕ) ChangeFault → Descriptor → Result (Descriptor × ℕ) ChangeFault
acl_made w (Ok made) d = Ok (with_acl w made.0 d, made.1)
acl_made w (Err fault) d = Err fault

-- the descriptor, and how many ACEs were put, taken or set
unfoldable pub edited : Change → Descriptor → Result (Descriptor × ℕ) ChangeFault
edited (change.Acl w c) d = acl_made w (acl_edited w c (acl_of w d)) d
edited (change.Owner sid) d = Ok (record d { owner = sid }, 0)
edited (change.Group sid) d = Ok (record d { group = sid }, 0)
edited (change.Control set clear) d = Ok (with_control (with_bits set clear d.control) d, 0)

-- 3. Changes one after the other, each of what those before left.

-- how many ACEs each change put, took or set, up to the first that can't be made; and what is left, or why that one
-- can't be made
abbrev pub Outcome : Type 0
Outcome = List ℕ × Result Descriptor ChangeFault

-- the first change has made this, and the others follow
abbrev pub followed : Result (Descriptor × ℕ) ChangeFault → (Descriptor → Outcome) → Outcome
followed (Ok made) others = (made.1 ∷ (others made.0).0, (others made.0).1)
followed (Err fault) others = ([], Err fault)

abbrev pub edit : List Change → Descriptor → Outcome
edit [] d = ([], Ok d)
edit (c ∷ others) d = followed (edited c d) (edit others)

abbrev pub then_edit_of : List Change → List ℕ → Result Descriptor ChangeFault → Outcome
then_edit_of b counts (Ok d) = (counts ++ (edit b d).0, (edit b d).1)
then_edit_of b counts (Err fault) = (counts, Err fault)

-- edit(d, a + b) = edit(edit(d, a), b), faults included
abbrev pub then_edit : List Change → Outcome → Outcome
then_edit b made = then_edit_of b made.0 made.1

abbrev pub EditsSplit : Type 0
EditsSplit = (a b : List Change) (d : Descriptor) → edit (a ++ b) d ≡ then_edit b (edit a d)
