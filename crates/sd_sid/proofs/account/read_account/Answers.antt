use Rattle.std.proofs.Common.{inl, inr, refl}
use Rattle.sd_sid.proofs.AccountTexts.{account-at, domain-text}
use Rattle.sd_sid.proofs.account.read_account.Goals as goal

pub returns-clause-found : goal.returns-clause-found
returns-clause-found c = elim c.in_ok-rest.ensures [
  | inl stands ↦ account-at _ (inl refl) _ _ _ _ _ _ _ stands
      c.in_ok-first.ensures c.in_ok-second.ensures c.in_ok-third.ensures c.in_ok-last.ensures
  | inr stands ↦ account-at _ (inr refl) _ _ _ _ _ _ _ stands
      c.in_ok-first.ensures c.in_ok-second.ensures c.in_ok-third.ensures c.in_ok-last.ensures
]

pub returns-clause-domain : goal.returns-clause-domain
returns-clause-domain c = λ _. elim c.in_ok-rest.ensures [
  | inl stands ↦ domain-text _ (inl refl) _ _ _ _ _ _ stands
      c.in_ok-first.ensures c.in_ok-second.ensures c.in_ok-third.ensures
  | inr stands ↦ domain-text _ (inr refl) _ _ _ _ _ _ stands
      c.in_ok-first.ensures c.in_ok-second.ensures c.in_ok-third.ensures
]
