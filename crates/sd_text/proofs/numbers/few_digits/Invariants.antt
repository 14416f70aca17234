use Rattle.std.proofs.Common.{◌≡◌, ◌<◌, ◌^◌, ◌+◌, take, Some}
use Rattle.sd_text.specs.Numbers.{number_after}
use Rattle.sd_text.proofs.numbers.few_digits.Given as goal

abbrev pub invariant-loop-i : goal.invariant-loop-i
invariant-loop-i l = record {
  small : l.number < 10 ^ (8 + l.i);
  digits : number_after 10 l.fn.before (take l.i l.text) ≡ Some l.number;
}
