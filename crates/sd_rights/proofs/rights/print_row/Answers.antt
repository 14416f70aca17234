use Rattle.std.proofs.Common.{ap, arith, get_or, take, [], ◌∙◌}
use Rattle.sd_kinds.specs.declared.kinds.AceKind.TheVariants as kinds
use Rattle.sd_rights.specs.Rights.{rights_text}
use Rattle.sd_sink.proofs.laws.PrintLemmas.{prints_as}
use Rattle.sd_text.proofs.laws.UsualTexts.{text-in}
use Rattle.sd_rights.proofs.rights.print_row.Goals as goal

pub put_front-requires-clause-few : goal.put_front-requires-clause-few
put_front-requires-clause-few g c =
    rw c.from.ensures
    (text-in (λ i. rights_text kinds.Allow (get_or c.args.masks.now i 0)) c.args.texts.now c.args.sizes.now c.args.row
    c.requires.texts (omega (arith, c.told-texts))).0

pub returns : goal.returns
returns g c =
    let row = text-in (λ i. rights_text kinds.Allow (get_or c.args.masks.now i 0)) c.args.texts.now c.args.sizes.now
    c.args.row c.requires.texts (omega (arith, c.told-texts)) in
    prints_as (ap (λ n. take n (get_or c.args.texts.now c.args.row [])) c.from.ensures ∙ row.1) c.put_front.ensures
