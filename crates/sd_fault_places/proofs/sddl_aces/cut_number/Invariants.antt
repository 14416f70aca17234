use Rattle.std.proofs.Common.{◌≡◌, ◌-◌, []}
use Rattle.std.specs.Prelude.{slice_index_or}
use Rattle.sd_sddl_builder.specs.Line.{ace_cuts}
use Rattle.sd_fault_places.proofs.sddl_aces.cut_number.Given as goal

abbrev pub invariant-loop : goal.invariant-loop
invariant-loop l = slice_index_or (ace_cuts l.text) l.number [] ≡ slice_index_or (ace_cuts l.rest)
    (l.number - l.counter) []
