use Rattle.std.proofs.Common.{◌≡◌, ◌<◌, ◌≤◌, length, take}
use Rattle.sd_buffer.specs.Inner.HexBlocks.{AreValues, HasOther}
use Rattle.sd_buffer.proofs.hex_digits.values_of.Given as goal

abbrev pub invariant-loop-i : goal.invariant-loop-i
invariant-loop-i l = record {
  full : length l.values ≡ 32;
  read : l.most < 16 → AreValues (take l.i l.digits) (take l.i l.values);
  other : 16 ≤ l.most → HasOther l.digits;
}
