use Rattle.std.proofs.Common.{rules, ◌≡◌, ◌≤◌, ◌+◌, ◌-◌, ◌*◌, arith, ◌∙◌, refl, length, length-drop, drop}
use Rattle.std.proofs.lemmas.List.{length-take-le, take-take, take_rest}
use Rattle.std.proofs.lemmas.Slice.{take-put_mid}
use Rattle.base64.specs.Rfc4648.{encode_symbols}
use Rattle.sd_buffer.proofs.laws.Slices.{front-of-part}
use Rattle.sd_answer.proofs.Base64Blocks.{encode-block, encode-left}
use Rattle.sd_answer.proofs.base64_text.encode_base64.Goals as goal

pub loop-groups-init : goal.loop-groups-init
unfolding encode_symbols
loop-groups-init c = record { within = omega arith; cells = refl; encoded = refl }

pub loop-groups-preserved : goal.loop-groups-preserved
loop-groups-preserved c =
    let at = 3 * c.loop-groups.groups in
    let to = 4 * c.loop-groups.groups in
    let before = c.loop-groups.invariant in
    let bytes = c.args.bytes.now in
    let cells = c.loop-groups.cells in
    let new = c.copy_from_slice.new.self in
    let room : to + 16 ≤ length cells = omega (arith, c.requires, before.cells, c.loop-groups-test.true) in
    let size : length new ≡ 16 =
    c.copy_from_slice.auto.self
    ∙ length-take-le (to + 16 - to) (drop to cells) (omega (arith, room, length-drop to cells))
    ∙ omega arith in
    let n : at + 16 - at ≡ 16 = omega arith in
    let end : 4 * (c.loop-groups.groups + 4) ≡ to + length new = omega (arith, size) in
    let next : 3 * (c.loop-groups.groups + 4) ≡ at + 12 = omega arith in
    let taken = take-put_mid to (to + 16 - to) cells new (4 * (c.loop-groups.groups + 4)) end (omega (arith, room)) in
    let part = take-take 12 16 (drop at bytes) (omega arith) in
    let block = rw part at (rw n at c.block_symbols-symbols.ensures) in
    record {
      within = omega (arith, c.loop-groups-test.true);
      cells = search rules;
      encoded = taken ∙ rw next (encode-block bytes _ new at 12 before.within (omega arith) before.encoded
          (c.copy_from_slice.ensures.after ∙ block));
    }

pub returns-clause-characters : goal.returns-clause-characters
returns-clause-characters c =
    let at = 3 * c.loop-groups.groups in
    let to = 4 * c.loop-groups.groups in
    let before = c.loop-groups.invariant in
    let bytes = c.args.bytes.now in
    let cells = c.loop-groups.cells in
    let rest = take_rest bytes at in
    front-of-part to (length cells - to) c.encode_rest.result cells c.encode_rest.new.cells
    (omega (arith, c.requires, before.cells, before.within)) c.encode_rest.ensures.count
    ∙ encode-left bytes _ _ at before.within (omega arith) before.encoded (rw rest at c.encode_rest.ensures.characters)
