use Rattle.std.proofs.Common.{◌≡◌, ◌≤◌, length}
use Rattle.sd_text.specs.Cuts.{all_cuts}
use Rattle.sd_sid.specs.SidText.{are_subs, cut_at_dashes}
use Rattle.sd_sid.proofs.sid_text.are_subs.Given as goal

abbrev pub invariant-loop-count : goal.invariant-loop-count
invariant-loop-count l = record {
  count : l.count ≤ 15;
  rest : are_subs l.count (all_cuts (cut_at_dashes l.rest)) ≡ are_subs 0 (all_cuts (cut_at_dashes l.text));
}

abbrev pub decreases-loop-count : goal.decreases-loop-count
decreases-loop-count l = length l.rest
