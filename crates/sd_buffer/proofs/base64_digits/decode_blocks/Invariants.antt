use Rattle.std.proofs.Common.{◌≡◌, ◌≤◌, ◌*◌, ◌-◌, length, take}
use Rattle.base64.specs.Engines.{standard}
use Rattle.base64.specs.GeneralPurpose.{encode_of}
use Rattle.sd_buffer.proofs.base64_digits.decode_blocks.Given as goal

abbrev pub invariant-loop-groups : goal.invariant-loop-groups
invariant-loop-groups l = record {
  within : 4 * l.groups ≤ length l.text;
  cells : length l.cells ≡ length l.fn.cells;
  spelled : take (4 * l.groups) l.text ≡ encode_of standard (take (3 * l.groups) l.cells);
}

abbrev pub decreases-loop-groups : goal.decreases-loop-groups
decreases-loop-groups l = length l.text - 4 * l.groups
