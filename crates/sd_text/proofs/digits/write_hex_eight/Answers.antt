use Rattle.std.proofs.Common.{◌≡◌, ◌+◌, arith}
use Rattle.sd_text.proofs.DigitLemmas.{hex-eight, written_as, written_then, written_to}
use Rattle.sd_text.proofs.digits.write_hex_eight.Goals as goal

pub returns : goal.returns
returns c =
    let at = c.args.at in
    let second : at + 2 + 2 ≡ at + 4 = omega arith in
    let third : at + 4 + 2 ≡ at + 6 = omega arith in
    let last : at + 6 + 2 ≡ at + 8 = omega arith in
    written_as (hex-eight c.args.number)
    (written_then c.write_hex_pair.ensures
    (written_then (written_to second c.write_hex_pair-2.ensures)
    (written_then (written_to third c.write_hex_pair-3.ensures) (written_to last c.write_hex_pair-4.ensures))))
