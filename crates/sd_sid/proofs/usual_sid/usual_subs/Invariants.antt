use Rattle.std.proofs.Common.{◌≡◌, ◌≤◌, ◌+◌, ◌++◌, [], length, ◌-◌}
use Rattle.std.specs.Option.{option_map}
use Rattle.sd_sid.specs.SidText.{decimals_read, are_subs, cut_at_dashes, sid_front}
use Rattle.sd_sid.proofs.usual_sid.usual_subs.Given as goal

abbrev pub invariant-loop-next : goal.invariant-loop-next
invariant-loop-next l = record {
  count : length l.sid.subs ≤ 15;
  authority : l.sid.authority ≡ l.initial.sid.authority;
  ends : (cut_at_dashes (sid_front l.rest)).first ≡ [];
  form : are_subs (length l.sid.subs) (cut_at_dashes (sid_front l.rest)).others
      ≡ are_subs (length l.initial.sid.subs) (cut_at_dashes (sid_front l.text)).others;
  numbers : option_map (λ ns. l.sid.subs ++ ns) (decimals_read (cut_at_dashes (sid_front l.rest)).others)
      ≡ option_map (λ ns. l.initial.sid.subs ++ ns) (decimals_read (cut_at_dashes (sid_front l.text)).others);
  size : length (sid_front l.text) + length l.rest ≡ length (sid_front l.rest) + length l.text;
}

abbrev pub decreases-loop-next : goal.decreases-loop-next
decreases-loop-next l = 15 - length l.sid.subs
