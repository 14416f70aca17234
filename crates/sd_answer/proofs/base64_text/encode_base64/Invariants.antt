use Rattle.std.proofs.Common.{◌≡◌, ◌≤◌, ◌*◌, ◌-◌, length, take}
use Rattle.base64.specs.Engines.{standard}
use Rattle.base64.specs.GeneralPurpose.{encode_of}
use Rattle.sd_answer.proofs.base64_text.encode_base64.Given as goal

abbrev pub invariant-loop-groups : goal.invariant-loop-groups
invariant-loop-groups l = record {
  within : 3 * l.groups ≤ length l.bytes;
  cells : length l.cells ≡ length l.fn.cells;
  encoded : take (4 * l.groups) l.cells ≡ encode_of standard (take (3 * l.groups) l.bytes);
}

abbrev pub decreases-loop-groups : goal.decreases-loop-groups
decreases-loop-groups l = length l.bytes - 3 * l.groups
