use Rattle.std.proofs.Common.{◌≡◌, ◌<◌, ◌∙◌, ℕ, List, length, take, w8, arith, ap}
use Rattle.std.proofs.lemmas.List.{take_all}
use Rattle.std.proofs.lemmas.Simd.{below_from_Fits, chunk-fits, length-chunk}
use Rattle.std.specs.Simd.Lanes.{Each1}
use Rattle.base64.specs.Engines.{standard}
use Rattle.base64.specs.GeneralPurpose.{encode_of}
use Rattle.sd_answer.proofs.Base64Lanes.{block-encoded, values-small}
use Rattle.sd_answer.proofs.base64_text.block_symbols.Goals as goal

pub symbols_of-requires : goal.symbols_of-requires
symbols_of-requires c =
    let bytes = c.args.bytes.now in
    values-small (take 16 bytes) (length-chunk 0 16 bytes (omega (arith, c.requires)))
    (below_from_Fits w8 _ (chunk-fits w8 0 16 bytes c.type_inv.bytes))

pub returns : goal.returns
returns c =
    let bytes = c.args.bytes.now in
    let lanes = take 16 bytes in
    let same : lanes ≡ bytes = take_all 16 bytes (omega (arith, c.requires)) in
    let long : length lanes ≡ 16 = length-chunk 0 16 bytes (omega (arith, c.requires)) in
    let small : Each1 (λ (x : ℕ). x < 256) lanes = below_from_Fits w8 lanes
    (chunk-fits w8 0 16 bytes c.type_inv.bytes) in
    block-encoded lanes _ long small c.symbols_of.ensures
    ∙ ap (λ (xs : List ℕ). encode_of standard (take 12 xs)) same
