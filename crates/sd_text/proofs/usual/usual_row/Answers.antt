use Rattle.std.proofs.Common.{◌≡◌, ◌<◌, ◌≤◌, ◌*◌, ◌%◌, ◌^◌, ℕ, arith, sym, ap, ◌∙◌, subst, get_or, length, take}
use Rattle.std.proofs.lemmas.List.{get_or-take, length-take-le, take-take}
use Rattle.std.specs.Int.{from_le_bytes, w64}
use Rattle.sd_text.specs.Usual.{usual_text}
use Rattle.sd_text.proofs.laws.UsualTexts.{text-of-key}
use Rattle.sd_text.proofs.usual.usual_row.Goals as goal

pub returns : goal.returns
returns c =
    let text = c.args.text.now in
    let chunk = c.in_ok-block.ensures.cases in
    let block = c.in_ok-block.block.now in
    let size = c.semicolon_in-size.result in
    let same : get_or c.args.sizes.now c.row_of-row.result 0 ≡ size = sym c.from.ensures ∙ c.if-from-size.false in
    let first : block ≡ take 8 text = chunk.same in
    let enough : 8 ≤ length text = chunk.enough in
    let whole : length block ≡ 8 = ap length first ∙ length-take-le 8 text enough in
    let bytes : (i : ℕ) → i < 8 → get_or block i 0 < 256 =
    λ i h. subst (λ n. n < 256) (sym (ap (λ t. get_or t i 0) first ∙ get_or-take 8 text i 0 h))
    (omega (arith, c.type_inv.text i)) in
    let word : c.from_le_bytes-word.result ≡ from_le_bytes w64 block = c.from_le_bytes-word.ensures in
    let key = get_or c.args.keys.now c.row_of-row.result 0 in
    let found : take size block ≡ usual_text key size =
    text-of-key block c.from_le_bytes-word.result size key whole bytes word c.semicolon_in-size.ensures
    (c.if-keys-row.false ∙ ap (λ n. c.from_le_bytes-word.result * n % 2 ^ 64) c.shift_of.ensures) in (
      c.row_of-row.ensures,
      omega (arith, same, enough, c.semicolon_in-size.ensures),
      ap (λ n. take n text) same
          ∙ (sym (take-take size 8 text c.semicolon_in-size.ensures) ∙ (ap (λ t. take size t) (sym first)
          ∙ (found ∙ ap (λ n. usual_text key n) (sym same)))),
    )
