use Rattle.std.proofs.Common.{◌≡◌, ◌<◌, drop, Some, None}
use Rattle.std.specs.Prelude.{nat_lt, if◌then◌else◌}
use Rattle.std.specs.Option.{option_and_then}
use Rattle.sd_text.specs.Numbers.{number, number_after}
use Rattle.sd_text.proofs.numbers.read_number.Given as goal

abbrev pub invariant-loop-byte : goal.invariant-loop-byte
invariant-loop-byte l = record {
  fits : l.number < l.limit;
  rest : option_and_then (λ n. if nat_lt n l.limit then Some n else None)
      (number_after l.base l.number (drop l.byte-index l.text)) ≡ number l.base l.limit l.text;
}
