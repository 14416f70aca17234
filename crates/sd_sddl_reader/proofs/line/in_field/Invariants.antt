use Rattle.std.proofs.Common.{◌≡◌, take, true}
use Rattle.std.specs.List.{list_all}
use Rattle.sd_sddl_reader.specs.Inner.Progress.{is_in_field}
use Rattle.sd_sddl_reader.proofs.line.in_field.Given as goal

abbrev pub invariant-loop-i : goal.invariant-loop-i
invariant-loop-i l = list_all is_in_field (take l.i l.text) ≡ true
