use Rattle.std.proofs.Common.{◌≡◌, take, true}
use Rattle.std.specs.List.{list_all}
use Rattle.sd_sddl_reader.specs.Inner.Progress.{is_plain_outside}
use Rattle.sd_sddl_reader.proofs.line.plain_outside.Given as goal

abbrev pub invariant-loop-i : goal.invariant-loop-i
invariant-loop-i l = list_all is_plain_outside (take l.i l.text) ≡ true
