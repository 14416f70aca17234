use Rattle.std.proofs.Common.{◌≡◌}
use Rattle.sd_check.specs.Granted.{names_owner_rights}
use Rattle.sd_check.proofs.grants.names_owner_rights.Given as goal

abbrev pub invariant-loop-ace : goal.invariant-loop-ace
invariant-loop-ace l = names_owner_rights l.ace-iterator ≡ names_owner_rights l.acl
