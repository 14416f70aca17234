use Rattle.std.proofs.Common.{ℕ, sym, ◌≡◌, ◌≤◌, ◌+◌, ◌-◌, ◌*◌, length, refl, arith, ap, ◌∙◌, drop, take}
use Rattle.std.proofs.Common.{rules, length-drop}
use Rattle.std.proofs.lemmas.List.{length-take-le}
use Rattle.base64.proofs.EngineFacts.{encode_of-nil}
use Rattle.base64.specs.Engines.{standard}
use Rattle.base64.specs.GeneralPurpose.{IsBytes, encode_of}
use Rattle.sd_buffer.proofs.Base64Blocks.{encoded-block, encoded-more, values-small}
use Rattle.sd_buffer.proofs.laws.Slices.{front-of-part}
use Rattle.sd_buffer.proofs.laws.Base64Bytes.{IsBytes-drop, IsBytes-take}
use Rattle.sd_buffer.proofs.base64_digits.decode_blocks.Goals as goal

pub loop-groups-init : goal.loop-groups-init
loop-groups-init c = record { within = omega arith; cells = refl; spelled = sym (encode_of-nil standard) }

pub loop-groups-preserved : goal.loop-groups-preserved
loop-groups-preserved c =
    let from = 4 * c.loop-groups.groups in
    let to = 3 * c.loop-groups.groups in
    let before = c.loop-groups.invariant in
    let text = c.args.text.now in
    let cells = c.loop-groups.cells in
    let bytes = take 12 c.join-bytes.result in
    let new = c.copy_from_slice.new.self in
    let whole : from + 16 ≤ length text = omega (arith, c.loop-groups-test.true) in
    let room : to + 16 ≤ length cells = omega (arith, c.loop-groups-test.true) in
    let n : from + 16 - from ≡ 16 = omega arith in
    let part = take (from + 16 - from) (drop from text) in
    let long = length-take-le (from + 16 - from) (drop from text) (omega (arith, whole, length-drop from text)) in
    let are : IsBytes part = IsBytes-take (from + 16 - from) (drop from text)
    (IsBytes-drop from text (λ i. let fits = c.type_inv.text i in omega arith)) in
    let joined = encoded-block part c.values_of-are_symbols.result.0 are (omega (arith, long))
    (c.values_of-are_symbols.ensures.symbols c.if-not-are_symbols.false) in
    let block : take 16 (drop from text) ≡ encode_of standard bytes =
    ap (λ (n : ℕ). take n (drop from text)) (sym n) ∙ rw c.join-bytes.ensures joined in
    let front = length-take-le to cells (omega (arith, room)) in
    let more = encoded-more text (take to cells) bytes from 16 (omega (arith, front)) before.spelled block in
    let next : 4 * (c.loop-groups.groups + 4) ≡ from + 16 = omega arith in
    let end : 3 * (c.loop-groups.groups + 4) ≡ to + 12 = omega arith in
    let size : length new ≡ 16 =
    c.copy_from_slice.auto.self
    ∙ length-take-le (to + 16 - to) (drop to cells) (omega (arith, room, length-drop to cells))
    ∙ omega arith in
    let taken = front-of-part to (to + 16 - to) 12 cells new (omega (arith, room)) (omega (arith, size)) in
    record {
      within = omega (arith, whole);
      cells = search rules;
      spelled = rw (next, end, taken, c.copy_from_slice.ensures.after) more;
    }

pub join-bytes-requires : goal.join-bytes-requires
join-bytes-requires c =
    let from = 4 * c.loop-groups.groups in
    let text = c.args.text.now in
    values-small (take (from + 16 - from) (drop from text)) _
    (IsBytes-take (from + 16 - from) (drop from text)
    (IsBytes-drop from text (λ i. let fits = c.type_inv.text i in omega arith)))
    (c.values_of-are_symbols.ensures.symbols c.if-not-are_symbols.false)

pub returns-then-not-are_symbols-clause-ended : goal.returns-then-not-are_symbols-clause-ended
returns-then-not-are_symbols-clause-ended c =
    λ more room.
    let n : 4 * c.loop-groups.groups + 16 - 4 * c.loop-groups.groups ≡ 16 = omega arith in
    rw n at (c.values_of-are_symbols.ensures.other c.if-not-are_symbols.true)
