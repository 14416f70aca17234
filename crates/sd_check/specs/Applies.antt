-- Which ACEs speak of a token (MS-DTYP 2.5.3.2).
use Rattle.std.specs.Prelude.{ℕ, Bool, true, false, not, ◌&&◌, if◌then◌else◌, List, [], ◌∷◌, Option, Some, None}
use Rattle.std.specs.Prelude.{unwrap_or}
use Rattle.std.specs.Str.{bytes_eq}
use Rattle.sd_ace.specs.Ace.{AccessControlEntry}
use Rattle.sd_text.specs.Bits.{has_bit}
use Rattle.sd_sid.specs.Sid.{SecurityId}
use Rattle.sd_sid.specs.SidText.{same_sid}
use Rattle.sd_token.specs.Token.{Entry, meets}
use Rattle.sd_kinds.specs.declared.flags.TheConstants.{INHERIT_ONLY}
use Rattle.sd_kinds.specs.declared.kinds.AceKind.{AceKind}
use Rattle.sd_kinds.specs.declared.kinds.AceKind.TheVariants as kinds
use Rattle.sd_view.specs.Descriptor.{Descriptor}
use Rattle.sd_check.specs.Ask.{Asked}

-- 1. The kinds that grant and deny: A, D, OA and OD.

abbrev pub is_allow : AceKind → Bool
is_allow kinds.Allow = true
is_allow kinds.ObjectAllow = true
is_allow other = false

abbrev pub is_deny : AceKind → Bool
is_deny kinds.Deny = true
is_deny kinds.ObjectDeny = true
is_deny other = false

abbrev pub is_access : AceKind → Bool
is_access kinds.Allow = true
is_access kinds.Deny = true
is_access kinds.ObjectAllow = true
is_access kinds.ObjectDeny = true
is_access other = false

-- 2.4.4.1: INHERIT_ONLY_ACE
abbrev pub is_inherit_only : ℕ → Bool
is_inherit_only flags = has_bit INHERIT_ONLY flags

-- the ACE grants or denies on the object itself
abbrev pub is_effective : AccessControlEntry → Bool
is_effective a = is_access a.kind && not (is_inherit_only a.flags)

-- 2. Whom an ACE speaks of.

-- 2.4.2.4: PRINCIPAL_SELF, S-1-5-10
abbrev pub principal_self : SecurityId
principal_self = record { authority = 5; subs = 10 ∷ [] }

-- 2.4.2.4: OWNER_RIGHTS, S-1-3-4
abbrev pub owner_rights : SecurityId
owner_rights = record { authority = 3; subs = 4 ∷ [] }

-- PRINCIPAL SELF stands for the SID that is given, and for itself without one; OWNER RIGHTS stands for the owner,
-- and for nobody where there is none. One replacement is made, and any other SID stands for itself.
abbrev pub subject : Option SecurityId → Option SecurityId → SecurityId → Option SecurityId
subject owner itself s =
    if same_sid s principal_self then Some (unwrap_or itself s)
    else if same_sid s owner_rights then owner else Some s

-- the token has the SID, if there is one (2.5.3.1.1, SidInToken); a deny-only entry counts where it may deny
abbrev pub some_meets : Option SecurityId → Bool → List Entry → Bool
some_meets None deny token = false
some_meets (Some s) deny token = meets s deny token

-- 3. The object type is absent or the one that is asked for. The inherited one is not looked at.

abbrev pub is_for : Option (List ℕ) → Option (List ℕ) → Bool
is_for None asked = true
is_for (Some type) None = false
is_for (Some type) (Some asked) = bytes_eq type asked

-- 4. The ACE applies.

unfoldable pub applies : AccessControlEntry → Descriptor → List Entry → Asked → Bool
applies a d token ask =
    is_effective a && is_for a.object ask.object
    && some_meets (subject d.owner ask.principal_self a.sid) (is_deny a.kind) token
