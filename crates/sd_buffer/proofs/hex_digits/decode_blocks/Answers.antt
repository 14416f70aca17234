use Rattle.std.proofs.Common.{ℕ, sym, ◌≡◌, ◌≤◌, ◌+◌, ◌-◌, ◌*◌, length, refl, arith, ap, ◌∙◌, Ok, drop, take}
use Rattle.std.proofs.Common.{rules, length-drop}
use Rattle.std.proofs.lemmas.List.{length-take-le, take-take}
use Rattle.std.proofs.lemmas.Slice.{take-put_mid}
use Rattle.sd_buffer.specs.Text.{hex_spells}
use Rattle.sd_buffer.proofs.HexBlocks.{spells-block, spells-front}
use Rattle.sd_buffer.proofs.laws.HexPairs.{spells-nil}
use Rattle.sd_buffer.proofs.hex_digits.decode_blocks.Goals as goal

pub loop-done-init : goal.loop-done-init
loop-done-init c = record { within = omega arith; cells = refl; spelled = spells-nil }

pub returns-then-count-lt-PAIRS-clause-spelled : goal.returns-then-count-lt-PAIRS-clause-spelled
returns-then-count-lt-PAIRS-clause-spelled c = spells-nil

pub loop-done-preserved : goal.loop-done-preserved
loop-done-preserved c =
    let at = c.min-at.result in
    let before = c.loop-done.invariant in
    let pairs = c.args.pairs.now in
    let cells = c.loop-done.cells in
    let bytes = c.in-Some.bytes in
    let new = c.copy_from_slice.new.self in
    let most : at ≤ c.loop-done.done = omega (arith, c.min-at.ensures) in
    let whole : 2 * at + 32 ≤ length pairs = omega (arith, c.min-at.ensures, c.if-count-lt-PAIRS.false) in
    let room : at + 16 ≤ length cells = omega (arith, whole, c.requires, before.cells) in
    let copied = c.copy_from_slice.ensures.after in
    let long = c.copy_from_slice.auto.self in
    let n : 2 * at + 32 - 2 * at ≡ 32 = omega arith in
    let block : hex_spells (take 32 (drop (2 * at) pairs)) ≡ Ok bytes =
    ap (λ (n : ℕ). hex_spells (take n (drop (2 * at) pairs))) (sym n) ∙ c.in-Some.ensures in
    let front =
    spells-front pairs (take c.loop-done.done cells) at c.loop-done.done most before.within before.spelled in
    let shorter = take-take at c.loop-done.done cells most in
    let more =
    spells-block pairs (take at cells) bytes (2 * at) 32 (omega arith) refl whole (rw shorter at front) block in
    let twice : 2 * (at + 16) ≡ 2 * at + 32 = omega arith in
    let size-new : at + 16 ≡ at + length new =
    omega (arith, long, room, length-take-le (at + 16 - at) (drop at cells), length-drop at cells) in
    let taken = take-put_mid at (at + 16 - at) cells new (at + 16) size-new (omega (arith, room)) in
    record {
      within = omega (arith, whole);
      cells = search rules;
      spelled = rw (twice, taken, copied) more;
    }

pub returns-in_default-clause-ended : goal.returns-in_default-clause-ended
returns-in_default-clause-ended c =
    λ long more.
    let n : 2 * c.min-at.result + 32 - 2 * c.min-at.result ≡ 32 = omega arith in
    rw c.min-at.ensures at (rw n at c.in_default.ensures)
