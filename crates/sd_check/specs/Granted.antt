-- Whether a right is granted: one right by itself (MS-DTYP 2.5.3.2).
use Rattle.std.specs.Prelude.{ℕ, ◌==◌, Bool, true, false, not, ◌&&◌, ◌||◌, if◌then◌else◌, List, Option, Some, None}
use Rattle.std.specs.List.{find, list_any}
use Rattle.sd_ace.specs.Ace.{AccessControlEntry}
use Rattle.sd_rights.specs.Mapping.{carries, mapped}
use Rattle.sd_sid.specs.SidText.{same_sid}
use Rattle.sd_token.specs.Token.{Entry, Holder}
use Rattle.sd_view.specs.Descriptor.{Descriptor}
use Rattle.sd_view.specs.declared.acl_part.AclPart.{AclPart}
use Rattle.sd_view.specs.declared.acl_part.AclPart.TheVariants as acl
use Rattle.sd_rights.specs.AccessRights.{read_control, system_security, write_dac, write_owner}
use Rattle.sd_check.specs.Acl.{listed_aces}
use Rattle.sd_check.specs.Ask.{Asked}
use Rattle.sd_check.specs.Applies.{applies, is_allow, is_effective, owner_rights, some_meets}
use Rattle.sd_check.specs.Label.{label_allows}

-- 1. Without an ACE.

-- the DACL is null or absent
abbrev pub is_open : AclPart → Bool
is_open acl.Absent = true
is_open acl.Null = true
is_open (acl.List aces) = false

-- an ACE whose own SID, before any replacement, is OWNER RIGHTS; its object type is not looked at
abbrev pub is_for_owner_rights : AccessControlEntry → Bool
is_for_owner_rights a = is_effective a && same_sid a.sid owner_rights

abbrev pub names_owner_rights : List AccessControlEntry → Bool
names_owner_rights aces = list_any is_for_owner_rights aces

-- the owner equals an enabled entry, and no ACE says what an owner may do
abbrev pub is_owned : Descriptor → List Entry → Bool
is_owned d token = some_meets d.owner false token && not (names_owner_rights (listed_aces d.dacl))

-- the right is granted whatever the ACEs say: by a DACL that is null or absent, to the owner, or by the privilege to
-- take ownership
abbrev pub needs_no_ace : ℕ → Descriptor → List Entry → Asked → Bool
needs_no_ace right d token ask =
    is_open d.dacl
    || ((right == read_control || right == write_dac) && is_owned d token)
    || (right == write_owner && ask.take_ownership)

-- 2. By the ACEs.

-- the ACE applies, and its mapped mask has the right
abbrev pub decides : ℕ → Descriptor → List Entry → Asked → AccessControlEntry → Bool
decides right d token ask a = applies a d token ask && carries (mapped ask.mapping a.mask) right

-- where no ACE decides, the right is denied
abbrev pub allows : Option AccessControlEntry → Bool
allows None = false
allows (Some a) = is_allow a.kind

-- the first ACE that decides the right allows it
abbrev pub is_allowed : ℕ → Descriptor → List Entry → Asked → Bool
is_allowed right d token ask = allows (find (decides right d token ask) (listed_aces d.dacl))

-- 3. The right is granted. ACCESS_SYSTEM_SECURITY is by the privilege, and by nothing else. Any other right must be one
-- that the mandatory label allows, whatever else grants it.

unfoldable pub granted : ℕ → Descriptor → Holder → Asked → Bool
granted right d holder ask =
    if right == system_security then ask.security
    else label_allows right d holder ask
    && (needs_no_ace right d holder.entries ask || is_allowed right d holder.entries ask)
