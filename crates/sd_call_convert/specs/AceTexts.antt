-- An ACE by itself: its text in SDDL, and its bytes.
use Rattle.std.specs.Prelude.{ℕ, ◌++◌, ◌==◌, ◌&&◌, ◌||◌, not, Bool, true, false, nat_eq, if◌then◌else◌, List, [], ◌∷◌}
use Rattle.std.specs.Prelude.{length, take, codes, Option, Some, None, is_some, Result, Ok, Err}
use Rattle.std.specs.Option.{ok_or}
use Rattle.std.specs.Str.{byte as char}
use Rattle.sd_text.specs.Chains.{◌>>=◌}
use Rattle.sd_ace.specs.Ace.{AccessControlEntry}
use Rattle.sd_ace.specs.AceLayout.{ace_bytes}
use Rattle.sd_acl_view.specs.AclReading.{ace_fault, ace_of}
use Rattle.sd_acl_view.specs.Bytes.{u16_at}
use Rattle.sd_sid.specs.Naming.{naming_by}
use Rattle.sd_sid.specs.Sid.{SecurityId}
use Rattle.sd_view.specs.Descriptor.{Descriptor}
use Rattle.sd_view.specs.declared.acl_part.AclPart.{AclPart}
use Rattle.sd_view.specs.declared.acl_part.AclPart.TheVariants as acl
use Rattle.sd_sddl_builder.specs.declared.fault.SddlFault.TheVariants as sddl
use Rattle.sd_sddl_printer.specs.Printed.{ace_text}
use Rattle.sd_call.specs.Arguments.{domain_in}
use Rattle.sd_call.specs.declared.argument.Argument.TheVariants as which
use Rattle.sd_call.specs.declared.outcome.CallFault.{CallFault}
use Rattle.sd_call.specs.declared.outcome.CallFault.TheVariants as call
use Rattle.sd_call_convert.specs.Conversions.{domain_for, text_in}
use Rattle.sd_call_convert.specs.FieldTexts.{of_text}
use Rattle.sd_call_convert.specs.declared.part_text.NamedAce.{NamedAce}

-- 1. What a text means: the one ACE of a DACL, and nothing else.

-- the text of a descriptor with this DACL
abbrev pub as_dacl : List ℕ → List ℕ
as_dacl text = codes "D:" ++ text

abbrev pub begins_ace : List ℕ → Bool
begins_ace [] = false
begins_ace (b ∷ bs) = b == char "("

-- the domain under which a text is read that begins as an ACE
abbrev pub domain_if : Bool → Option SecurityId → Result (Option SecurityId) CallFault
domain_if begins domain = if begins then Ok domain else Err (of_text sddl.Shape)

unfoldable pub domain_of_ace : List ℕ → List ℕ → Result (Option SecurityId) CallFault
domain_of_ace text domain = do
  named ← domain_for (as_dacl text) domain
  domain_if (begins_ace text) named

abbrev pub one_of : List AccessControlEntry → Option AccessControlEntry
one_of [] = None
one_of (a ∷ []) = Some a
one_of (a ∷ b ∷ others) = None

abbrev pub one_in : AclPart → Option AccessControlEntry
one_in acl.Absent = None
one_in acl.Null = None
one_in (acl.List aces) = one_of aces

abbrev pub is_absent : AclPart → Bool
is_absent acl.Absent = true
is_absent acl.Null = false
is_absent (acl.List aces) = false

abbrev pub has_others : Descriptor → Bool
has_others d = is_some d.owner || is_some d.group || not (is_absent d.sacl)

-- the ACE of a descriptor that has nothing else
abbrev pub ace_alone : Descriptor → Option AccessControlEntry
ace_alone d = if has_others d then None else one_in d.dacl

abbrev pub alone : Result Descriptor CallFault → Result AccessControlEntry CallFault
alone meant = do
  d ← meant
  ok_or (ace_alone d) (of_text sddl.Shape)

unfoldable pub bytes_of : AccessControlEntry → List ℕ
bytes_of a = ace_bytes a

abbrev pub bytes_alone : Result Descriptor CallFault → Result (List ℕ) CallFault
bytes_alone meant = do
  a ← alone meant
  Ok (bytes_of a)

abbrev pub ace_from_text : List ℕ → List ℕ → Result (List ℕ) CallFault
ace_from_text text domain = do
  named ← domain_of_ace text domain
  bytes_alone (text_in named (as_dacl text))

-- 2. The text of bytes that are one ACE and nothing else.

abbrev pub is_ace : List ℕ → Bool
is_ace bytes = not (is_some (ace_fault bytes)) && nat_eq (u16_at 2 bytes) (length bytes)

abbrev pub ace_in : List ℕ → Result AccessControlEntry CallFault
ace_in bytes = if is_ace bytes then Ok (ace_of (take (u16_at 2 bytes) bytes)) else Err (call.Argument which.Ace 0)

-- an ACE, and how its SID is named
unfoldable pub named_ace : List ℕ → List ℕ → Bool → Result NamedAce CallFault
named_ace bytes domain numeric = do
  a ← ace_in bytes
  named ← domain_in domain
  Ok (record { ace = a; naming = naming_by named numeric })

abbrev pub ace_to_text : List ℕ → List ℕ → Bool → Result (List ℕ) CallFault
ace_to_text bytes domain numeric = do
  named ← named_ace bytes domain numeric
  Ok (ace_text named.naming named.ace)
