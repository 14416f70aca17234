-- The fault of what stands in an ACL before its ACEs.
use Rattle.std.specs.Prelude.{◌&&◌, Bool, if◌then◌else◌, Option, Some, None}
use Rattle.sd_sddl_fields.specs.declared.field_texts.AclFront.{AclFront}
use Rattle.sd_sddl_builder.specs.declared.fault.SddlFault.{SddlFault}
use Rattle.sd_sddl_builder.specs.declared.fault.SddlFault.TheVariants as fault

abbrev pub flags_fault : Bool → Option AclFront → Option SddlFault
flags_fault has_aces None = Some fault.Flags
flags_fault has_aces (Some f) = if f.null && has_aces then Some fault.Flags else None
