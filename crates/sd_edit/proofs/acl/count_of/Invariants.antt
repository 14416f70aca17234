use Rattle.std.proofs.Common.{◌≡◌, ◌≤◌, take}
use Rattle.std.specs.List.{count_by}
use Rattle.sd_edit.specs.Matching.{matches}
use Rattle.sd_edit.proofs.acl.count_of.Given as goal

abbrev pub invariant-loop-ace : goal.invariant-loop-ace
invariant-loop-ace l = record {
  value : l.count ≡ count_by (matches l.matching) (take l.ace-index l.aces);
  within : l.count ≤ l.ace-index;
}
