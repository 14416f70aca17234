use Rattle.std.proofs.Common.{◌≡◌, ◌≤◌, ◌++◌, length, drop}
use Rattle.sd_text.specs.Numbers.{hex_digits}
use Rattle.sd_text.proofs.digits.write_hex.Given as goal

abbrev pub invariant-loop-at : goal.invariant-loop-at
invariant-loop-at l = record {
  full : length l.cells ≡ 16;
  within : l.at ≤ l.digits;
  written : hex_digits l.at l.left ++ drop l.at l.cells ≡ hex_digits l.digits l.number ++ drop l.digits l.fn.cells;
}

abbrev pub decreases-loop-at : goal.decreases-loop-at
decreases-loop-at l = l.at
