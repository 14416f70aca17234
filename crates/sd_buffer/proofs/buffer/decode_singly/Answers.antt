use Rattle.std.proofs.Common.{◌≡◌, ◌≤◌, ◌∙◌, ◌+◌, ◌-◌, ◌/◌, ℕ, List, arith, drop, length, length-drop, refl, take}
use Rattle.std.proofs.lemmas.List.{length-take-le}
use Rattle.std.proofs.lemmas.Slice.{take-put_mid}
use Rattle.sd_buffer.proofs.Decoded.{decoded-err, decoded-ok}
use Rattle.sd_buffer.proofs.buffer.decode_singly.Goals as goal

-- the part that is decoded into has a cell for each pair
part-size : (at n : ℕ) (cells : List ℕ) → at + n ≤ length cells → length (take ((at + n) - at) (drop at cells)) ≡ n
part-size at n cells room =
    let left = length-drop at cells in
    length-take-le ((at + n) - at) (drop at cells) (omega arith) ∙ omega arith

pub returns-in-Ok-clause-value : goal.returns-in-Ok-clause-value
returns-in-Ok-clause-value c =
    let text = c.args.pairs.now in
    let n = length text / 2 in
    let out = c.decode_to_slice.new.out in
    let size = part-size c.args.at n c.args.cells.now c.requires.room in
    let done = decoded-ok text out _ c.in-Ok.field-0 c.requires.even size c.in-Ok.ensures.value in
    let long = c.decode_to_slice.auto.out in
    rw done
    (refl, take-put_mid c.args.at _ c.args.cells.now out (c.args.at + n) (omega (arith, size, long)) (omega arith))

pub returns-in-Err-clause-value : goal.returns-in-Err-clause-value
returns-in-Err-clause-value c =
    let text = c.args.pairs.now in
    let out = c.decode_to_slice.new.out in
    let size = part-size c.args.at (length text / 2) c.args.cells.now c.requires.room in
    rw (decoded-err text out _ c.in-Err.field-0 c.requires.even size c.in-Err.ensures.value) refl
