use Rattle.std.proofs.Common.{◌≡◌, ℕ, ◌*◌, ◌/◌, List, ◌++◌, length, refl, sym, ap, ◌∙◌, append_assoc, arith}
use Rattle.std.proofs.lemmas.List.{take-append-drop}
use Rattle.std.specs.Option.{option_to_list}
use Rattle.sd_buffer.proofs.HexReadingLaws.{hex-waits, one-waits}
use Rattle.sd_buffer.proofs.hex_reader.HexReader.feed_aligned.Goals as goal

pub returns : goal.returns
returns c =
    λ text h room.
    let bytes = c.args.bytes.now in
    let pairs = c.split_at.result.0.now in
    let last = c.split_at.result.1.now in
    let next = c.copied-self.result in
    let split = c.split_at.ensures in
    let whole : pairs ++ last ≡ bytes = rw (split.front, split.back) (take-append-drop (length bytes / 2 * 2) bytes) in
    let first = c.copied-self.ensures ∙ c.first.ensures.value in
    let waits = one-waits last next (omega (arith, split.back_len)) first in
    let read = c.feed_pairs.ensures.value text h (omega (arith, split.front_len)) in
    let same : text ++ bytes ≡ (text ++ pairs) ++ option_to_list next =
    ap (λ (xs : List ℕ). text ++ xs) (sym whole)
    ∙ ap (λ (xs : List ℕ). text ++ (pairs ++ xs)) waits
    ∙ sym (append_assoc text pairs (option_to_list next)) in
    let none = c.feed_pairs.ensures.none_waits in
    rw same (hex-waits c.feed_pairs.new.self _ c.feed_pairs.new.buf _ next read none refl refl)
