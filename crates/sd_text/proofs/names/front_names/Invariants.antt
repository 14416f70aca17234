use Rattle.std.proofs.Common.{◌≤◌, ◌-◌, length, take}
use Rattle.sd_text.proofs.laws.NameLaws.{HasRun}
use Rattle.sd_text.proofs.names.front_names.Given as goal

abbrev pub invariant-loop-size : goal.invariant-loop-size
invariant-loop-size g l = record {
  within : l.size ≤ length l.text;
  run : HasRun g.table (take l.size l.text) l.bits;
}

abbrev pub decreases-loop-size : goal.decreases-loop-size
decreases-loop-size g l = length l.text - l.size

abbrev pub ghost-bits_named : goal.ghost-bits_named
ghost-bits_named g a = g.table
