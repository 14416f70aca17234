-- What a new object takes from one ACE of its creator's descriptor (MS-DTYP 2.5.3.4), by the flags of 2.4.4.1.
use Rattle.std.specs.Prelude.{◌+◌, Bool, not, ◌&&◌, if◌then◌else◌, List, [], ◌∷◌}
use Rattle.sd_ace.specs.Ace.{AccessControlEntry}
use Rattle.sd_text.specs.Bits.{has_bit}
use Rattle.sd_kinds.specs.declared.flags.TheConstants.{INHERITED, INHERIT_ONLY}
use Rattle.sd_inherit.specs.Copies.{audit_flags, differs, for_itself, is_for_containers, is_for_files}
use Rattle.sd_inherit.specs.declared.plan.Plan.{Plan}
use Rattle.sd_inherit.specs.declared.plan.Target.{Target}
use Rattle.sd_inherit.specs.declared.plan.Target.TheVariants.{File, Container}

abbrev pub is_inherited : AccessControlEntry → Bool
is_inherited a = has_bit INHERITED a.flags

abbrev pub is_inherit_only : AccessControlEntry → Bool
is_inherit_only a = has_bit INHERIT_ONLY a.flags

-- for the new object itself: OI, CI and NP are cleared; IO and ID are not set in such an ACE, so the audit flags stay
abbrev pub own_ace : Plan → AccessControlEntry → AccessControlEntry
own_ace plan a = for_itself plan a (audit_flags a.flags)

-- to hand on: the ACE as it was, and IO
abbrev pub handed_on : AccessControlEntry → AccessControlEntry
handed_on a = record a { flags = a.flags + INHERIT_ONLY }

abbrev pub taken_for : Target → Plan → AccessControlEntry → List AccessControlEntry
taken_for File plan a = if is_inherit_only a then [] else own_ace plan a ∷ []
taken_for Container plan a =
    if is_inherit_only a then a ∷ []
    else if not (is_for_files a) && not (is_for_containers a) then own_ace plan a ∷ []
    else if differs a then own_ace plan a ∷ handed_on a ∷ []
    else a ∷ []

-- an ACE that the creator's object had inherited is not taken
unfoldable pub taken : Plan → AccessControlEntry → List AccessControlEntry
taken plan a = if is_inherited a then [] else taken_for plan.target plan a
