use Rattle.std.proofs.Common.{◌∙◌, ap, arith, drop}
use Rattle.std.proofs.lemmas.List.{take_rest}
use Rattle.byteorder.specs.Endian.{big_number}
use Rattle.byteorder.specs.Numbers.{big_from-lt}
use Rattle.sd_sid.proofs.laws.Numbers.{AreBytes-drop}
use Rattle.sd_sid_view.proofs.sid_view.authority_at_front.Goals as goal

pub returns-clause-limit : goal.returns-clause-limit
returns-clause-limit c =
    let bytes = c.args.bytes.now in
    let number = c.read_u48.ensures ∙ ap (big_number 6) (take_rest bytes 2) in
    rw number (big_from-lt 0 6 (drop 2 bytes) (AreBytes-drop 2 bytes (λ i. omega (arith, c.type_inv.bytes i))))
