use Rattle.std.proofs.Common.{◌^◌, ◌++◌, codes, if◌then◌else◌, ap, sym}
use Rattle.std.specs.Fmt.{decimal}
use Rattle.std.proofs.lemmas.Bool.{le-ltb}
use Rattle.sd_sink.proofs.laws.PrintLemmas.{prints_as, prints_then}
use Rattle.sd_text.specs.Numbers.{hex_digits}
use Rattle.sd_sid.proofs.sid_text.print_authority.Goals as goal

pub returns : goal.returns
returns g c =
    let a = c.args.authority in
    prints_as (ap (λ b. if b then decimal a else codes "0x" ++ hex_digits 12 a)
    (sym (le-ltb a (2 ^ 32) c.if-authority.false)))
    (prints_then c.put.ensures c.print_hex.ensures)
