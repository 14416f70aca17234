-- What a line of SDDL means (MS-DTYP 2.5.1): the descriptor that its parts give, or the first fault.
use Rattle.std.specs.Prelude.{ℕ, ◌+◌, ◌||◌, not, Bool, true, false, nat_lt, if◌then◌else◌, List, [], ◌∷◌, length}
use Rattle.std.specs.Prelude.{Option, Some, None, Result, Ok, Err}
use Rattle.std.specs.List.{list_any}
use Rattle.std.specs.Option.{ok_or, option_map}
use Rattle.sd_text.specs.Chains.{◌>>=◌, unless, fault_as}
use Rattle.sd_ace.specs.Ace.{AccessControlEntry}
use Rattle.sd_kinds.specs.Flags.{flags_reads}
use Rattle.sd_text.specs.Limits.{most_acl, most_field}
use Rattle.sd_rights.specs.Rights.{rights_reads}
use Rattle.sd_sid.specs.Sid.{SecurityId}
use Rattle.sd_sid.specs.SidText.{sid_reads}
use Rattle.sd_sid.specs.declared.sid_text.SidFault.{SidFault}
use Rattle.sd_sid.specs.declared.sid_text.SidFault.TheVariants.{SidForm}
use Rattle.sd_view.specs.Descriptor.{Descriptor}
use Rattle.sd_parts.specs.Control.{bit_if, flag_bits, no_flags}
use Rattle.sd_builder.specs.Draft.{is_present}
use Rattle.sd_view.specs.Layout.{acl_part_size}
use Rattle.sd_view.specs.declared.acl_part.AclPart.{AclPart}
use Rattle.sd_view.specs.declared.acl_part.AclPart.TheVariants as acl
use Rattle.sd_parts.specs.declared.part.Which.{Which}
use Rattle.sd_parts.specs.declared.part.Which.TheVariants as which
use Rattle.sd_parts.specs.declared.control.AclFlags.{AclFlags}
use Rattle.sd_parts.specs.declared.control.TheConstants.{DACL_PRESENT, SACL_PRESENT, SELF_RELATIVE}
use Rattle.sd_sddl_fields.specs.FieldTexts.{front_reads, kind_reads, object_reads, is_blank}
use Rattle.sd_sddl_builder.specs.Line.{Piece, Section, ace_cuts, aces, front, has_aces, has_twice, is_shaped}
use Rattle.sd_sddl_builder.specs.Line.{sections_of, same_head, trim}
use Rattle.sd_sddl_builder.specs.declared.fault.SddlFault.{SddlFault}
use Rattle.sd_sddl_builder.specs.declared.fault.SddlFault.TheVariants as fault
use Rattle.sd_sddl_builder.specs.declared.slot.Head.{Head}
use Rattle.sd_sddl_builder.specs.declared.slot.Head.TheVariants as head
use Rattle.sd_parts.specs.declared.part.SidPart.{SidPart}
use Rattle.sd_parts.specs.declared.part.SidPart.TheVariants as sid_part

-- each one of a list, from the left: the first fault is the answer
abbrev pub each : {A B : Type 0} → (A → Result B SddlFault) → List A → Result (List B) SddlFault
each reads [] = Ok []
each reads (x ∷ others) = do
  y ← reads x
  ys ← each reads others
  Ok (y ∷ ys)

-- 1. Fields.

-- no field with a blank in it reads, which the readers of each field say too, and none that is too long
abbrev pub is_unreadable : List ℕ → Bool
is_unreadable text = list_any is_blank text || nat_lt most_field (length text)

-- what a field reads as, or the fault of one that does not read
abbrev pub field_reads : {A : Type 0} → SddlFault → (List ℕ → Option A) → List ℕ → Result A SddlFault
field_reads unread reads text = if is_unreadable text then Err unread else ok_or (reads text) unread

abbrev pub sid_or_fault : Result SecurityId SidFault → Result SecurityId SddlFault
sid_or_fault read = fault_as fault.Sid read

abbrev pub sid_field_reads : Option SecurityId → List ℕ → Result SecurityId SddlFault
sid_field_reads domain text =
    if is_unreadable text then Err (fault.Sid SidForm) else sid_or_fault (sid_reads text domain)

-- 2. An ACE (MS-DTYP 2.5.1.1): six fields, read from the left. Any other number of them is no shape.

unfoldable pub ace_reads : Option SecurityId → List (List ℕ) → Result AccessControlEntry SddlFault
ace_reads domain (kind ∷ flags ∷ rights ∷ object ∷ inherited ∷ sid ∷ []) = do
  k ← field_reads fault.Kind kind_reads kind
  f ← field_reads fault.Flags flags_reads flags
  m ← field_reads fault.Rights rights_reads rights
  o ← field_reads fault.Guid (object_reads k) object
  i ← field_reads fault.Guid (object_reads k) inherited
  s ← sid_field_reads domain sid
  Ok (record { kind = k; flags = f; mask = m; object = o; inherited = i; sid = s })
ace_reads domain others = Err fault.Shape

-- 3. A section: a SID, or the flags of an ACL, and then null or its ACEs.

pub data Said : Type 0 where
  sid_said : SidPart → SecurityId → Said
  acl_said : Which → AclFlags → AclPart → Said

-- no ACE stands in a null ACL
unfoldable pub acl_part_reads : Option SecurityId → Bool → List Piece → Result AclPart SddlFault
acl_part_reads domain true body = if has_aces body then Err fault.Flags else Ok acl.Null
acl_part_reads domain false body = do
  list ← each (λ a. ace_reads domain (ace_cuts a)) (aces body)
  Ok (acl.List list)

-- blanks at the ends of the SID, and of what stands before the first ACE, do not count
unfoldable pub body_reads : Option SecurityId → Head → List Piece → Result Said SddlFault
body_reads domain (head.Sid p) body = do
  s ← sid_field_reads domain (trim (front body))
  Ok (sid_said p s)
body_reads domain (head.Acl w) body = do
  f ← field_reads fault.Flags front_reads (trim (front body))
  part ← acl_part_reads domain f.null body
  Ok (acl_said w f.flags part)

abbrev pub section_reads : Option SecurityId → Section → Result Said SddlFault
section_reads domain s = body_reads domain s.head s.body

-- 4. The descriptor that sections give, of which no two have one head.

-- the owner or the group, if a section gives it
abbrev pub picked_sid : SidPart → List Said → Option SecurityId
picked_sid p [] = None
picked_sid p (sid_said q s ∷ others) = if same_head (head.Sid p) (head.Sid q) then Some s else picked_sid p others
picked_sid p (acl_said w f a ∷ others) = picked_sid p others

-- an ACL, which is absent where no section gives it
abbrev pub picked_acl : Which → List Said → AclPart
picked_acl w [] = acl.Absent
picked_acl w (sid_said p s ∷ others) = picked_acl w others
picked_acl w (acl_said v f a ∷ others) = if same_head (head.Acl w) (head.Acl v) then a else picked_acl w others

-- its flags
abbrev pub picked_flags : Which → List Said → AclFlags
picked_flags w [] = no_flags
picked_flags w (sid_said p s ∷ others) = picked_flags w others
picked_flags w (acl_said v f a ∷ others) = if same_head (head.Acl w) (head.Acl v) then f else picked_flags w others

-- the flags of both ACLs in the control word
abbrev pub control_flags : AclFlags → AclFlags → ℕ
control_flags sacl dacl = flag_bits which.Sacl sacl + flag_bits which.Dacl dacl

-- the flags that are written, SR, and SP and DP of the ACLs that stand
abbrev pub picked_control : List Said → ℕ
picked_control said =
    control_flags (picked_flags which.Sacl said) (picked_flags which.Dacl said) + SELF_RELATIVE
    + bit_if (is_present (picked_acl which.Sacl said)) SACL_PRESENT
    + bit_if (is_present (picked_acl which.Dacl said)) DACL_PRESENT

abbrev pub descriptor_of : List Said → Descriptor
descriptor_of said = record {
  control = picked_control said;
  rm = 0;
  owner = picked_sid sid_part.Owner said;
  group = picked_sid sid_part.Group said;
  sacl = picked_acl which.Sacl said;
  dacl = picked_acl which.Dacl said;
}

-- 5. The line.

-- the first ACL from the left that is too large
abbrev pub first_large : List Said → Option Which
first_large [] = None
first_large (sid_said p s ∷ others) = first_large others
first_large (acl_said w f a ∷ others) = if nat_lt most_acl (acl_part_size a) then Some w else first_large others

abbrev pub unless_large : Option Which → Descriptor → Result Descriptor SddlFault
unless_large large d = unless (option_map fault.AclTooLarge large) d

abbrev pub sections_mean : Option SecurityId → List Section → Result Descriptor SddlFault
sections_mean domain sections = do
  said ← each (section_reads domain) sections
  unless_large (first_large said) (descriptor_of said)

-- The descriptor that a line means under a domain, or its fault: its shape, then two sections with one letter, then the
-- first field from the left that does not read, then an ACL that is too large.
unfoldable pub means : List ℕ → Option SecurityId → Result Descriptor SddlFault
means text domain =
    if not (is_shaped text) then Err fault.Shape
    else (if has_twice (sections_of text).parts then Err fault.PartTwice
    else sections_mean domain (sections_of text).parts)
