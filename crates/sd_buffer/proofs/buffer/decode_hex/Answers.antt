use Rattle.std.proofs.Common.{◌≡◌, ◌≤◌, ◌+◌, ◌-◌, ◌*◌, ◌/◌, arith, ◌∙◌, ap, sym, ℕ, List, take, drop, length}
use Rattle.std.proofs.Common.{length-drop}
use Rattle.std.proofs.lemmas.List.{length-take-le, take-take, take_rest}
use Rattle.std.proofs.lemmas.Slice.{take-put_mid_below}
use Rattle.sd_buffer.proofs.laws.Slices.{front-of-part}
use Rattle.sd_buffer.proofs.HexBlocks.{decoded-both}
use Rattle.sd_buffer.proofs.buffer.decode_hex.Goals as goal

pub returns-clause-value : goal.returns-clause-value
returns-clause-value c =
    let pairs = c.args.pairs.now in
    let at = c.args.at in
    let n = length pairs / 2 in
    let done = c.decode_blocks-done.result in
    let blocks = c.decode_blocks-done.ensures in
    let part = c.decode_blocks-done.new.cells in
    let left = length-drop (2 * done) pairs in
    let size = length-take-le (at + n - at) (drop at c.args.cells.now)
    (omega (arith, c.requires.room, length-drop at c.args.cells.now)) in
    let few : done ≤ length part = omega (arith, c.decode_blocks-done.auto.cells, size, blocks.within) in
    let middle = front-of-part at (at + n - at) done c.args.cells.now part (omega (arith, c.requires.room)) few in
    let rest = take_rest pairs (2 * done) in
    let end : at + done + length (drop (2 * done) pairs) / 2 ≡ at + n =
    omega (arith, left, c.requires.even, blocks.within) in
    decoded-both pairs (take done part) (take at c.args.cells.now) _ _ done _ c.requires.even blocks.within
    blocks.spelled middle (rw (rest, end) at c.decode_singly.ensures.value)

pub returns-clause-before : goal.returns-clause-before
returns-clause-before c =
    let at = c.args.at in
    let done = c.decode_blocks-done.result in
    let below : at ≤ at + done = omega arith in
    sym (take-take at (at + done) c.decode_singly.new.cells below)
    ∙ ap (λ (xs : List ℕ). take at xs) c.decode_singly.ensures.before
    ∙ take-take at (at + done) _ below
    ∙ take-put_mid_below at _ c.args.cells.now _ at (omega arith) (omega (arith, c.requires.room))
