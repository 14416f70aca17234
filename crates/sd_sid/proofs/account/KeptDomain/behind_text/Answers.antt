use Rattle.std.proofs.Common.{◌≡◌, ◌-◌, ◌++◌, length, take, drop, refl, sym, ap, ◌∙◌, arith, take-append-drop}
use Rattle.std.proofs.lemmas.List.{length-take-le, take_rest}
use Rattle.sd_sid.proofs.KeptTexts.{both-ends}
use Rattle.sd_sid.proofs.account.KeptDomain.behind_text.Goals as goal

pub returns : goal.returns
returns c =
    let text = c.args.text.now in
    let size = c.self.inside.size in
    let cells = c.self.inside.cells in
    let kept : length (take size cells) ≡ size = length-take-le size cells c.self.invariant.0 in
    let same : take size text ≡ take size cells =
    both-ends text cells size (length text - (size - 16)) (42 - (size - 16)) (omega arith) (omega arith) (omega arith)
    (omega arith) (c.if-not-has_front.ensures refl) (c.if-not-has_front-2.ensures refl) in
    rw (← c.self.view_is) (
      omega (arith, kept, c.if-size-lt-FRONT.false),
      sym (ap (λ t. take size text ++ t) (take_rest text size) ∙ take-append-drop size text)
          ∙ ap (λ t. t ++ take (length text - size) (drop size text)) same,
    )
