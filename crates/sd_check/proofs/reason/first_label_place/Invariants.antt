use Rattle.std.proofs.Common.{◌≡◌, ◌+◌, length}
use Rattle.std.specs.List.{position, position_from}
use Rattle.sd_check.specs.Label.{is_mandatory_label}
use Rattle.sd_check.proofs.reason.first_label_place.Given as goal

abbrev pub invariant-loop-ace : goal.invariant-loop-ace
invariant-loop-ace l = record {
  place : l.place + length l.ace-iterator ≡ length l.acl;
  rest : position_from is_mandatory_label l.place l.ace-iterator ≡ position is_mandatory_label l.acl;
}
