-- What a new object gets from one ACE of its container (MS-DTYP 2.5.3.4), by the flags of 2.4.4.1.
use Rattle.std.specs.Prelude.{ℕ, ◌+◌, Bool, not, ◌&&◌, ◌||◌, if◌then◌else◌, List, [], ◌∷◌}
use Rattle.sd_ace.specs.Ace.{AccessControlEntry}
use Rattle.sd_text.specs.Bits.{bit_of, has_bit}
use Rattle.sd_rights.specs.AccessRights.{generic_all, generic_execute, generic_read, generic_write}
use Rattle.sd_rights.specs.Mapping.{carries, mapped}
use Rattle.sd_rights.specs.Rights.{is_label}
use Rattle.sd_sid.specs.Sid.{SecurityId}
use Rattle.sd_sid.specs.SidText.{same_sid}
use Rattle.sd_kinds.specs.declared.flags.TheConstants.{CONTAINER_INHERIT, FAILED_ACCESS, INHERITED, INHERIT_ONLY}
use Rattle.sd_kinds.specs.declared.flags.TheConstants.{NO_PROPAGATE, OBJECT_INHERIT, SUCCESSFUL_ACCESS}
use Rattle.sd_inherit.specs.declared.plan.Plan.{Plan}
use Rattle.sd_inherit.specs.declared.plan.Target.{Target}
use Rattle.sd_inherit.specs.declared.plan.Target.TheVariants.{File, Container}

-- 1. Where an ACE goes.

abbrev pub is_for_files : AccessControlEntry → Bool
is_for_files a = has_bit OBJECT_INHERIT a.flags

abbrev pub is_for_containers : AccessControlEntry → Bool
is_for_containers a = has_bit CONTAINER_INHERIT a.flags

-- not further than the new object
abbrev pub is_for_one_level : AccessControlEntry → Bool
is_for_one_level a = has_bit NO_PROPAGATE a.flags

-- 2. Who and what stands for the creator and for generic rights.

-- 2.4.2.4: CREATOR_OWNER, S-1-3-0
abbrev pub creator_owner : SecurityId
creator_owner = record { authority = 3; subs = 0 ∷ [] }

-- 2.4.2.4: CREATOR_GROUP, S-1-3-1
abbrev pub creator_group : SecurityId
creator_group = record { authority = 3; subs = 1 ∷ [] }

abbrev pub heir : Plan → SecurityId → SecurityId
heir plan s =
    if same_sid s creator_owner then plan.owner
    else if same_sid s creator_group then plan.group else s

-- the mask has a generic right (2.4.3)
abbrev pub has_generic : ℕ → Bool
has_generic mask =
    carries mask generic_all || carries mask generic_execute || carries mask generic_write || carries mask generic_read

-- the mask of a label has no rights of an object, and is left alone
abbrev pub heir_mask : Plan → AccessControlEntry → ℕ
heir_mask plan a = if is_label a.kind then a.mask else mapped plan.mapping a.mask

-- what the new object has for itself differs from what goes on
abbrev pub differs : AccessControlEntry → Bool
differs a =
    same_sid a.sid creator_owner || same_sid a.sid creator_group || (not (is_label a.kind) && has_generic a.mask)

-- 3. The two kinds of copies. Kind and GUIDs stay; no object class is compared.

-- the flags that go on from a container
abbrev pub onward_flags : ℕ → ℕ
onward_flags flags = bit_of OBJECT_INHERIT flags + bit_of CONTAINER_INHERIT flags

abbrev pub audit_flags : ℕ → ℕ
audit_flags flags = bit_of SUCCESSFUL_ACCESS flags + bit_of FAILED_ACCESS flags

-- a copy keeps the audit flags, and says that it was inherited
abbrev pub copied_flags : ℕ → ℕ → ℕ
copied_flags flags added = audit_flags flags + INHERITED + added

-- for the new object itself: the rights and the SID are what they mean there
abbrev pub for_itself : Plan → AccessControlEntry → ℕ → AccessControlEntry
for_itself plan a flags = record a { flags = flags; mask = heir_mask plan a; sid = heir plan a.sid }

-- with the flags that go on, if any do
abbrev pub effective_copy : Plan → AccessControlEntry → ℕ → AccessControlEntry
effective_copy plan a onward = for_itself plan a (copied_flags a.flags onward)

-- to hand on, as it was
abbrev pub inherit_only_copy : AccessControlEntry → AccessControlEntry
inherit_only_copy a = record a { flags = copied_flags a.flags (INHERIT_ONLY + onward_flags a.flags) }

-- 4. The copies, in order. Whether the ACE itself is inherit-only is not looked at.

abbrev pub copies_for : Target → Plan → AccessControlEntry → List AccessControlEntry
copies_for File plan a = if is_for_files a then effective_copy plan a 0 ∷ [] else []
copies_for Container plan a =
    if is_for_containers a && is_for_one_level a then effective_copy plan a 0 ∷ []
    else if is_for_containers a && differs a then effective_copy plan a 0 ∷ inherit_only_copy a ∷ []
    else if is_for_containers a then effective_copy plan a (onward_flags a.flags) ∷ []
    else if is_for_files a && not (is_for_one_level a) then inherit_only_copy a ∷ []
    else []

unfoldable pub copies : Plan → AccessControlEntry → List AccessControlEntry
copies plan a = copies_for plan.target plan a
