use Rattle.std.proofs.Common.{◌≡◌, take, true}
use Rattle.std.specs.List.{list_all}
use Rattle.sd_sddl_fields.specs.Held.{is_plain_inside}
use Rattle.sd_sddl_fields.proofs.plain.plain_inside.Given as goal

abbrev pub invariant-loop-i : goal.invariant-loop-i
invariant-loop-i l = list_all is_plain_inside (take l.i l.text) ≡ true
