use Rattle.std.proofs.Common.{◌≡◌, ◌++◌, Ok, take}
use Rattle.sd_edit.specs.Edits.{edit}
use Rattle.sd_edit.specs.Shown.{AclsFit, shown}
use Rattle.sd_edit.proofs.making.edit.Given as goal

-- the changes so far are made, and their counts appended
abbrev pub invariant-loop-change : goal.invariant-loop-change
invariant-loop-change l = record {
  left : (edit (take l.change-index l.changes) (shown l.fn.edited)).1 ≡ Ok (shown l.edited);
  counts : l.counts.items ≡ l.fn.counts.items ++ (edit (take l.change-index l.changes) (shown l.fn.edited)).0;
  fits : AclsFit l.edited;
}
