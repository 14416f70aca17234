-- What is told of the order of the two ACLs.
use Rattle.std.specs.Prelude.{ℕ, List, Option, unwrap_or, Result, Ok, Err}
use Rattle.sd_parts.specs.declared.part.Which.{Which}
use Rattle.sd_parts.specs.declared.part.Which.TheVariants as which
use Rattle.sd_view.specs.Descriptor.{Descriptor}
use Rattle.sd_view.specs.declared.acl_part.AclPart.{AclPart}
use Rattle.sd_view.specs.declared.acl_part.AclPart.TheVariants as acl
use Rattle.sd_call.specs.Arguments.{descriptor_in}
use Rattle.sd_call.specs.Outcomes.{done, failed}
use Rattle.sd_call.specs.declared.outcome.CallFault.{CallFault}
use Rattle.sd_edit.specs.Order.{first_fall, ranks}
use Rattle.sd_call_edit.specs.declared.order.OrderTold.{OrderTold}

abbrev pub place_or_none : Option ℕ → ℕ
place_or_none place = unwrap_or place 0xFFFFFFFF

-- the place of the first ACE whose rank is below that of the one before
abbrev pub fall_in : Which → AclPart → ℕ
fall_in w acl.Absent = 0xFFFFFFFF
fall_in w acl.Null = 0xFFFFFFFF
fall_in w (acl.List aces) = place_or_none (first_fall (ranks w aces))

abbrev pub told : Result Descriptor CallFault → OrderTold
told (Ok d) = record { outcome = done 0; sacl = fall_in which.Sacl d.sacl; dacl = fall_in which.Dacl d.dacl }
told (Err fault) = record { outcome = failed fault; sacl = 0; dacl = 0 }

abbrev pub order_told : List ℕ → OrderTold
order_told bytes = told (descriptor_in bytes)
