use Rattle.std.proofs.Common.{◌≡◌, ◌<◌, ℕ, length, take, w8, arith}
use Rattle.std.proofs.lemmas.List.{take_all}
use Rattle.std.proofs.lemmas.Simd.{below_from_Fits, chunk-fits, length-chunk}
use Rattle.std.specs.Simd.Lanes.{Each1}
use Rattle.sd_buffer.proofs.Base64Values.{other-read, values-read}
use Rattle.sd_buffer.proofs.base64_digits.values_of.Goals as goal

pub returns : goal.returns
returns c =
    let text = c.args.text.now in
    let lanes = take 16 text in
    let same : lanes ≡ text = take_all 16 text (omega (arith, c.requires)) in
    let long : length lanes ≡ 16 = length-chunk 0 16 text (omega (arith, c.requires)) in
    let bytes : Each1 (λ (x : ℕ). x < 256) lanes = below_from_Fits w8 lanes (chunk-fits w8 0 16 text c.type_inv.text) in
    record {
      symbols = values-read lanes text _ _ _ _ _ same long bytes c.shifts_in.ensures c.shifts_in-2.ensures
          c.shifts_in-3.ensures c.shifts_at.ensures c.shifts_at-2.ensures;
      other = λ is. rw same at (other-read lanes _ _ _ _ _ long bytes c.shifts_in.ensures c.shifts_in-2.ensures
          c.shifts_in-3.ensures c.shifts_at.ensures c.shifts_at-2.ensures is);
    }
