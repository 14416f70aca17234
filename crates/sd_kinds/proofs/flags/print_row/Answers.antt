use Rattle.std.proofs.Common.{ap, arith, get_or, take, [], ◌∙◌}
use Rattle.sd_kinds.specs.Flags.{flags_text}
use Rattle.sd_sink.proofs.laws.PrintLemmas.{prints_as}
use Rattle.sd_text.proofs.laws.UsualTexts.{text-in}
use Rattle.sd_kinds.proofs.flags.print_row.Goals as goal

pub put_front-requires-clause-few : goal.put_front-requires-clause-few
put_front-requires-clause-few g c =
    let at = c.from-row.result in
    rw c.from.ensures
    (text-in flags_text c.args.texts.now c.args.sizes.now at c.requires.texts (omega (arith, c.told-texts))).0

pub returns : goal.returns
returns g c =
    let at = c.from-row.result in
    let row = text-in flags_text c.args.texts.now c.args.sizes.now at c.requires.texts (omega (arith, c.told-texts)) in
    prints_as
    (ap (λ n. take n (get_or c.args.texts.now at [])) c.from.ensures ∙ row.1 ∙ ap flags_text c.from-row.ensures)
    c.put_front.ensures
