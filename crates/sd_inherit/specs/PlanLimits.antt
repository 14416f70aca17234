-- The limits of a plan: those of its SIDs and of its mapping.
use Rattle.sd_rights.specs.Mapping.{IsMapping}
use Rattle.sd_sid.specs.Sid.{IsSid}
use Rattle.sd_inherit.specs.declared.plan.Plan.{Plan}

pub record IsPlan (plan : Plan) : Type 0 where
  pub owner : IsSid plan.owner
  pub group : IsSid plan.group
  pub mapping : IsMapping plan.mapping
