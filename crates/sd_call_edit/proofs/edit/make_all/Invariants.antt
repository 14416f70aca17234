use Rattle.std.proofs.Common.{◌≡◌, Ok, take}
use Rattle.sd_edit.specs.Edits.{edit}
use Rattle.sd_edit.specs.Shown.{AclsFit, shown}
use Rattle.sd_call_edit.specs.Edit.{changes_of, counted}
use Rattle.sd_call_edit.proofs.edit.make_all.Given as goal

-- the changes so far are made, and their counts noted
abbrev pub invariant-loop-i : goal.invariant-loop-i
invariant-loop-i l = record {
  left : (edit (changes_of (take l.i l.changes)) (shown l.fn.edited)).1 ≡ Ok (shown l.edited);
  touched : l.touched ≡ counted (edit (changes_of (take l.i l.changes)) (shown l.fn.edited)).0 l.fn.touched;
  fits : AclsFit l.edited;
}
