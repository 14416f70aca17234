use Rattle.std.proofs.Common.{List, ℕ, ◌++◌, ◌+◌, ap, arith, ◌∙◌, ◌≡◌, length, take}
use Rattle.std.proofs.lemmas.List.{length-take-le}
use Rattle.std.proofs.lemmas.Slice.{take-put_mid}
use Rattle.sd_sink.proofs.HeldLemmas.{take-front}
use Rattle.sd_sink.proofs.held.Held.append_front.Goals as goal

pub returns : goal.returns
returns c =
    let at = c.self.inside.len in
    let copied : c.copy_cells.new.place ≡ take 16 c.args.cells.now = cc in
    let long : length c.copy_cells.new.place ≡ 16 = ap length copied
    ∙ length-take-le 16 c.args.cells.now (omega arith) in
    let whole = take-put_mid at _ c.self.inside.bytes c.copy_cells.new.place (at + 16) (omega arith)
    (omega arith) in
    take-front at c.args.count 16 _ c.self.inside.bytes c.args.cells.now (omega arith) c.requires.few
    (whole ∙ ap (λ (t : List ℕ). take at c.self.inside.bytes ++ t) copied)
    ∙ ap (λ (t : List ℕ). t ++ take c.args.count c.args.cells.now) c.self.view_is
