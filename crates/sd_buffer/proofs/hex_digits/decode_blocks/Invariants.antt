use Rattle.std.proofs.Common.{◌≡◌, ◌≤◌, ◌*◌, ◌-◌, length, take, Ok}
use Rattle.sd_buffer.specs.Text.{hex_spells}
use Rattle.sd_buffer.proofs.hex_digits.decode_blocks.Given as goal

abbrev pub invariant-loop-done : goal.invariant-loop-done
invariant-loop-done l = record {
  within : 2 * l.done ≤ length l.pairs;
  cells : length l.cells ≡ length l.fn.cells;
  spelled : hex_spells (take (2 * l.done) l.pairs) ≡ Ok (take l.done l.cells);
}

abbrev pub decreases-loop-done : goal.decreases-loop-done
decreases-loop-done l = length l.pairs - 2 * l.done
