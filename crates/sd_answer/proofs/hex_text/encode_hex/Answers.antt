use Rattle.std.proofs.Common.{rules, ◌≡◌, ◌≤◌, ◌+◌, ◌-◌, ◌*◌, arith, ◌∙◌, refl, length, length-drop, drop}
use Rattle.std.proofs.Math.Seq.{take-length}
use Rattle.std.proofs.lemmas.List.{length-take-le, take_at}
use Rattle.std.proofs.lemmas.Slice.{take-put_mid}
use Rattle.hex.specs.Hex.{encode_with}
use Rattle.sd_answer.proofs.HexTextLemmas.{encode-block, encode-front, on-value}
use Rattle.sd_answer.proofs.hex_text.encode_hex.Goals as goal

pub returns-then-count-lt-BLOCK-clause-digits : goal.returns-then-count-lt-BLOCK-clause-digits
returns-then-count-lt-BLOCK-clause-digits c =
    let n = 2 * length c.args.bytes.now in
    let fits = length-take-le n c.args.cells.now c.requires in
    let size = c.encode_to_slice.auto.output ∙ fits in
    let written = on-value _ _ (c.encode_to_slice.ensures.fits.1 fits) c.encode_to_slice.ensures.written in
    take_at c.encode_to_slice.new.output (drop n c.args.cells.now) n size ∙ written

pub loop-done-init : goal.loop-done-init
unfolding encode_with
loop-done-init c = record { within = omega arith; cells = refl; encoded = refl }

pub loop-done-preserved : goal.loop-done-preserved
loop-done-preserved c =
    let at = c.min-at.result in
    let before = c.loop-done.invariant in
    let bytes = c.args.bytes.now in
    let cells = c.loop-done.cells in
    let new = c.copy_from_slice.new.self in
    let most : at ≤ c.loop-done.done = omega (arith, c.min-at.ensures) in
    let whole : at + 16 ≤ length bytes = omega (arith, c.min-at.ensures, c.if-count-lt-BLOCK.false) in
    let room : 2 * at + 32 ≤ length cells = omega (arith, whole, c.requires, before.cells) in
    let size : length new ≡ 32 =
    c.copy_from_slice.auto.self
    ∙ length-take-le (2 * at + 32 - 2 * at) (drop (2 * at) cells) (omega (arith, room, length-drop (2 * at) cells))
    ∙ omega arith in
    let n : at + 16 - at ≡ 16 = omega arith in
    let end : 2 * (at + 16) ≡ 2 * at + length new = omega (arith, size) in
    let taken = take-put_mid (2 * at) (2 * at + 32 - 2 * at) cells new (2 * (at + 16)) end (omega (arith, room)) in
    let block = rw n at c.block_digits-digits.ensures in
    let front = encode-front bytes cells at c.loop-done.done most before.within before.encoded in
    record {
      within = omega (arith, whole);
      cells = search rules;
      encoded = taken ∙ encode-block bytes _ new at 16 front (c.copy_from_slice.ensures.after ∙ block);
    }

pub returns-clause-digits : goal.returns-clause-digits
returns-clause-digits c =
    let last : c.loop-done.done ≡ length c.args.bytes.now =
    omega (arith, c.loop-done.invariant.within, c.loop-done-test.false) in
    rw (last, take-length) at c.loop-done.invariant.encoded
