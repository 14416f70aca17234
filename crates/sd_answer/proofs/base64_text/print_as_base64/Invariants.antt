use Rattle.std.proofs.Common.{◌≡◌, ◌<◌, ◌≤◌, ◌-◌, ◌%◌, length, take}
use Rattle.base64.specs.Engines.{standard}
use Rattle.base64.specs.GeneralPurpose.{encode_of}
use Rattle.sd_sink.specs.Print.{Prints}
use Rattle.sd_answer.proofs.base64_text.print_as_base64.Given as goal

abbrev pub invariant-loop-at : goal.invariant-loop-at
invariant-loop-at g l = record {
  within : l.at ≤ length l.bytes;
  whole : l.at < length l.bytes → l.at % 3 ≡ 0;
  cells : length l.cells ≡ 1024;
  printed : Prints (g.P.Print.told l.fn.out) (g.P.Print.told l.out) (encode_of standard (take l.at l.bytes));
}

abbrev pub decreases-loop-at : goal.decreases-loop-at
decreases-loop-at g l = length l.bytes - l.at
