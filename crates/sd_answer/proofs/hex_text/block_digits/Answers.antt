use Rattle.std.proofs.Common.{◌≡◌, ◌∙◌, length, take, arith, ap}
use Rattle.std.proofs.lemmas.List.{take_all}
use Rattle.std.proofs.lemmas.Simd.{length-chunk}
use Rattle.hex.specs.Hex.{encode_lower}
use Rattle.sd_answer.proofs.HexLanes.{block-digits}
use Rattle.sd_answer.proofs.hex_text.block_digits.Goals as goal

pub returns : goal.returns
returns c =
    let bytes = c.args.bytes.now in
    let lanes = take 16 bytes in
    let same : lanes ≡ bytes = take_all 16 bytes (omega (arith, c.requires)) in
    let long : length lanes ≡ 16 = length-chunk 0 16 bytes (omega (arith, c.requires)) in
    block-digits lanes _ _ long c.digits_of-high.ensures c.digits_of-low.ensures ∙ ap encode_lower same
