use Rattle.std.proofs.Common.{◌≡◌, ◌≤◌, length}
use Rattle.std.specs.Option.{option_copied}
use Rattle.sd_fault_places.specs.SddlPlaces.{passing}
use Rattle.sd_fault_places.specs.Inner.Cutting.{aces_at}
use Rattle.sd_fault_places.proofs.sddl_aces.passing.Given as goal

abbrev pub invariant-loop-ace : goal.invariant-loop-ace
invariant-loop-ace l = record {
  same : passing (option_copied l.domain) l.total (aces_at l.left.number l.left.at l.left.text.now)
      ≡ passing (option_copied l.domain) 8 (aces_at l.aces.number l.aces.at l.aces.text.now);
  total : l.total ≤ 65535;
}

abbrev pub decreases-loop-ace : goal.decreases-loop-ace
decreases-loop-ace l = length l.left.text.now
