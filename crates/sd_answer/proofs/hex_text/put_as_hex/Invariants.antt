use Rattle.std.proofs.Common.{◌≡◌, ◌≤◌, ◌-◌, length, take}
use Rattle.hex.specs.Hex.{encode_lower}
use Rattle.sd_sink.specs.Sink.{PutAll}
use Rattle.sd_answer.proofs.hex_text.put_as_hex.Given as goal

abbrev pub invariant-loop-at : goal.invariant-loop-at
invariant-loop-at g l = record {
  within : l.at ≤ length l.bytes;
  cells : length l.cells ≡ 1024;
  put : PutAll (g.S.Sink.told l.fn.sink) (g.S.Sink.told l.sink) (encode_lower (take l.at l.bytes));
}

abbrev pub decreases-loop-at : goal.decreases-loop-at
decreases-loop-at g l = length l.bytes - l.at
