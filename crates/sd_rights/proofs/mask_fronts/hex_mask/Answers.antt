use Rattle.std.proofs.Common.{◌≡◌, ◌≤◌, length, take, Some, subst, arith}
use Rattle.std.proofs.lemmas.List.{take_rest}
use Rattle.sd_text.specs.Numbers.{number_after}
use Rattle.sd_rights.proofs.FrontMasks.{mask-at}
use Rattle.sd_rights.proofs.mask_fronts.hex_mask.Goals as goal

pub returns-clause-mask : goal.returns-clause-mask
returns-clause-mask c =
    let count = c.front_hex-mask.result.1 in
    let mask = c.front_hex-mask.result.0 in
    let behind = take_rest c.args.text.now 2 in
    mask-at c.args.text.now count mask c.if-text-lt3.false c.if-text-ne48.false c.if-text-ne120.false
    c.front_hex-mask.ensures.few (subst (λ t. count ≤ length t) behind c.front_hex-mask.ensures.within)
    c.if-count-eq0.false
    (subst (λ t. number_after 16 0 (take count t) ≡ Some mask) behind c.front_hex-mask.ensures.number) (omega arith)
