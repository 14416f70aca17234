use Rattle.std.proofs.Common.{List, ℕ, ◌++◌, ap, arith, ◌∙◌, ◌≡◌, length, take}
use Rattle.std.proofs.lemmas.Slice.{take-put_mid}
use Rattle.sd_sink.proofs.held.Held.append.Goals as goal

pub returns : goal.returns
returns c =
    let text : c.copy_from_slice.new.self ≡ c.args.text.now = cc in
    let long : length c.copy_from_slice.new.self ≡ length c.args.text.now = ap length text in
    take-put_mid c.self.inside.len _ c.self.inside.bytes c.copy_from_slice.new.self _ (omega arith) (omega arith)
    ∙ (ap (λ (t : List ℕ). take c.self.inside.len c.self.inside.bytes ++ t) text
    ∙ ap (λ (t : List ℕ). t ++ c.args.text.now) c.self.view_is)
