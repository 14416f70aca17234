use Rattle.std.proofs.Common.{◌≡◌, ◌≤◌, ◌+◌, ◌++◌, length, take}
use Rattle.std.specs.Option.{option_map}
use Rattle.sd_text.specs.Cuts.{all_cuts}
use Rattle.sd_sid.specs.SidText.{decimals_read, cut_at_dashes}
use Rattle.sd_sid.proofs.sid_text.read_subs.Given as goal

abbrev pub invariant-loop-subs : goal.invariant-loop-subs
invariant-loop-subs l = record {
  full : length l.subs ≡ 15;
  count : l.count + length (all_cuts (cut_at_dashes l.rest)) ≤ 15;
  rest : option_map (λ ns. take l.count l.subs ++ ns) (decimals_read (all_cuts (cut_at_dashes l.rest)))
      ≡ decimals_read (all_cuts (cut_at_dashes l.text));
}

abbrev pub decreases-loop-subs : goal.decreases-loop-subs
decreases-loop-subs l = length l.rest
