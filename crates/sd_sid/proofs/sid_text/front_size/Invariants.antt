use Rattle.std.proofs.Common.{◌≡◌, ◌+◌, drop}
use Rattle.std.specs.List.{prefix_len}
use Rattle.sd_sid.specs.SidText.{is_sid_byte}
use Rattle.sd_sid.proofs.sid_text.front_size.Given as goal

abbrev pub invariant-loop-i : goal.invariant-loop-i
invariant-loop-i l = l.i + prefix_len is_sid_byte (drop l.i l.text) ≡ prefix_len is_sid_byte l.text
