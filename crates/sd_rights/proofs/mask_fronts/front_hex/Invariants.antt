use Rattle.std.proofs.Common.{◌≡◌, ◌<◌, ◌^◌, take, Some}
use Rattle.sd_text.specs.Numbers.{number_after}
use Rattle.sd_rights.proofs.mask_fronts.front_hex.Given as goal

abbrev pub invariant-loop-i : goal.invariant-loop-i
invariant-loop-i l = record {
  small : l.number < 16 ^ l.i;
  digits : number_after 16 0 (take l.i l.text) ≡ Some l.number;
}
