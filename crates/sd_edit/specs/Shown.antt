-- The descriptor that an edited one is.
use Rattle.std.specs.Prelude.{◌≡◌, ◌<◌, ℕ, ◌^◌, Result, Ok, Err}
use Rattle.sd_view.specs.Descriptor.{Descriptor}
use Rattle.sd_view.specs.Layout.{acl_part_size}
use Rattle.sd_view.specs.declared.acl_part.AclPart.{AclPart}
use Rattle.sd_view.specs.declared.acl_part.AclPart.TheVariants as acl
use Rattle.sd_edit.specs.declared.edited.ChangeFault.{ChangeFault}
use Rattle.sd_edit.specs.declared.edited.Edited.{Edited}
use Rattle.sd_edit.specs.declared.edited.EditedAcl.{EditedAcl}
use Rattle.sd_edit.specs.declared.edited.EditedAcl.TheVariants as edited

abbrev pub acl_shown : EditedAcl → AclPart
acl_shown edited.Absent = acl.Absent
acl_shown edited.Null = acl.Null
acl_shown (edited.List aces) = acl.List aces.items

abbrev pub shown : Edited → Descriptor
shown e = record {
  control = e.control;
  rm = e.rm;
  owner = e.owner;
  group = e.group;
  sacl = acl_shown e.sacl;
  dacl = acl_shown e.dacl;
}

-- no ACL passes 65,535 bytes
pub record AclsFit (e : Edited) : Type 0 where
  pub sacl : acl_part_size (acl_shown e.sacl) < 2 ^ 16
  pub dacl : acl_part_size (acl_shown e.dacl) < 2 ^ 16

-- a change has made this, and has told the count or the fault
abbrev pub Gives : {A : Type 0} → Result (A × ℕ) ChangeFault → A → Result ℕ ChangeFault → Type 0
Gives expected new (Ok count) = expected ≡ Ok (new, count)
Gives expected new (Err fault) = expected ≡ Err fault

-- changes have left this, or one can't be made
abbrev pub EndsAs : Result Descriptor ChangeFault → Descriptor → Result (Unit {0}) ChangeFault → Type 0
EndsAs expected new (Ok done) = expected ≡ Ok new
EndsAs expected new (Err fault) = expected ≡ Err fault
