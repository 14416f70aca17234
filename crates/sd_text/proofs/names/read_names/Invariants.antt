use Rattle.std.proofs.Common.{◌≡◌, length, Some}
use Rattle.sd_text.specs.Names.{joined, run_of}
use Rattle.sd_text.proofs.names.read_names.Given as goal

abbrev pub invariant-loop-first : goal.invariant-loop-first
invariant-loop-first g l = joined (Some l.bits) (run_of g.table l.rest) ≡ run_of g.table l.text

abbrev pub decreases-loop-first : goal.decreases-loop-first
decreases-loop-first g l = length l.rest

abbrev pub ghost-bits_named : goal.ghost-bits_named
ghost-bits_named g a = g.table
