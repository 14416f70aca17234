use Rattle.std.proofs.Common.{◌≡◌, ◌≤◌, ◌*◌, ◌-◌, length, take}
use Rattle.hex.specs.Hex.{encode_lower}
use Rattle.sd_answer.proofs.hex_text.encode_hex.Given as goal

abbrev pub invariant-loop-done : goal.invariant-loop-done
invariant-loop-done l = record {
  within : l.done ≤ length l.bytes;
  cells : length l.cells ≡ length l.fn.cells;
  encoded : take (2 * l.done) l.cells ≡ encode_lower (take l.done l.bytes);
}

abbrev pub decreases-loop-done : goal.decreases-loop-done
decreases-loop-done l = length l.bytes - l.done
