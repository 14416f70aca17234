use Rattle.std.proofs.Common.{◌≡◌, ◌++◌, List, ℕ, ap, arith, length, take, ◌∙◌}
use Rattle.std.proofs.lemmas.Slice.{take-put_mid}
use Rattle.std.specs.Int.{to_le_bytes, w64}
use Rattle.sd_text.proofs.digits.write_word.Goals as goal

pub returns : goal.returns
returns c =
    let at = c.args.at in
    let text : c.set_word.new.place ≡ to_le_bytes w64 c.args.word = c.set_word.ensures in
    let long : length c.set_word.new.place ≡ 8 = ap length text in
    record {
      ends = omega arith;
      written =
          take-put_mid at _ c.args.cells.now c.set_word.new.place _ (omega arith) (omega (arith, c.told-cells))
          ∙ ap (λ (t : List ℕ). take at c.args.cells.now ++ t) text;
    }
