use Rattle.std.proofs.Common.{◌≡◌}
use Rattle.std.specs.List.{find}
use Rattle.sd_check.specs.Label.{is_mandatory_label}
use Rattle.sd_check.proofs.label.first_label.Given as goal

abbrev pub invariant-loop-ace : goal.invariant-loop-ace
invariant-loop-ace l = find is_mandatory_label l.ace-iterator ≡ find is_mandatory_label l.acl
