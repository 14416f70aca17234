-- What a task asks of its job, and the limits of what it has.
use Rattle.std.specs.Prelude.{IfSome}
use Rattle.sd_sid.specs.Sid.{IsSid}
use Rattle.sd_view.specs.Descriptor.{IsDescriptor}
use Rattle.sd_inherit.specs.PlanLimits.{IsPlan}
use Rattle.sd_answer.specs.declared.job.Act.{Act}
use Rattle.sd_answer.specs.declared.job.Act.TheVariants.{Check, Convert, Derive, Explain}
use Rattle.sd_answer.specs.declared.job.Task.{Task}

-- only a derivation looks at a creator's descriptor
abbrev pub IsDerivation : Act → Type 0
IsDerivation (Convert form) = ⊥
IsDerivation Explain = ⊥
IsDerivation (Check ask) = ⊥
IsDerivation (Derive plan form) = Unit {0}

-- those of a plan, where an act has one
abbrev pub ActLimits : Act → Type 0
ActLimits (Convert form) = Unit {0}
ActLimits Explain = Unit {0}
ActLimits (Check ask) = Unit {0}
ActLimits (Derive plan form) = IsPlan plan

pub record TaskLimits (task : Task) : Type 0 where
  pub domain : IfSome task.job.domain IsSid
  pub act : ActLimits task.job.act
  pub creator : IfSome task.creator IsDescriptor
