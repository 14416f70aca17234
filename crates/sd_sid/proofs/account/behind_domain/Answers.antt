use Rattle.std.proofs.Common.{◌≡◌, ℕ, ◌-◌, List, ◌++◌, length, take, drop, refl, sym, ap, ◌∙◌, inl, inr}
use Rattle.std.proofs.Common.{take-append-drop}
use Rattle.std.proofs.lemmas.List.{take_rest}
use Rattle.sd_sid.proofs.account.behind_domain.Goals as goal
use Rattle.sd_sid.proofs.account.behind_domain.Goals.{else-not-has_front-via-then-not-has_front+else-not-has_front-2}
use Rattle.sd_sid.proofs.account.behind_domain.Goals.{else-not-has_front-via-else-not-has_front}

begins : (text front : List ℕ) → take 9 text ≡ front → text ≡ front ++ take (length text - 9) (drop 9 text)
begins text front same =
    sym (ap (λ t. take 9 text ++ t) (take_rest text 9) ∙ take-append-drop 9 text)
    ∙ ap (λ t. t ++ take (length text - 9) (drop 9 text)) same

pub returns : goal.returns
returns c = elim c.else-not-has_front.branch [
  | else-not-has_front-via-then-not-has_front+else-not-has_front-2 small ↦
      inr (begins _ _ (small.if-not-has_front-2.ensures refl))
  | else-not-has_front-via-else-not-has_front capital ↦ inl (begins _ _ (capital.if-not-has_front.ensures refl))
]
