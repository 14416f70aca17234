use Rattle.std.proofs.Common.{◌≡◌, ◌<◌, ℕ, zero, suc, List, [], ◌∷◌, length, get_or, replicate, refl, ap, ◌∙◌, arith}
use Rattle.std.proofs.Common.{of_calls}
use Rattle.sd_sid.specs.KeptDomain.{DomainOf, no_domain}
use Rattle.sd_sddl_builder.proofs.kept.KeptDomains.none.Goals as goal

-- a list of nothing else
only : (ds : List DomainOf) (n : ℕ) → length ds ≡ n → ((i : ℕ) → i < n → get_or ds i no_domain ≡ no_domain)
    → ds ≡ replicate n no_domain
only [] zero size each = refl
only [] (suc n) size each = absurd (omega (arith, size))
only (d ∷ ds) zero size each = absurd (omega (arith, size))
only (d ∷ ds) (suc n) size each =
    let first : d ≡ no_domain = each 0 (omega arith) in
    let rest : ds ≡ replicate n no_domain =
    only ds n (omega (arith, size)) (λ i low. each (suc i) (omega (arith, low))) in
    ap (λ x. x ∷ ds) first ∙ ap (λ xs. no_domain ∷ xs) rest

pub returns : goal.returns
returns c =
    let items = c.from_fn.ensures.items in
    only c.from_fn.result 32 items.long (λ i low. let called = items.at i no_domain low in search of_calls)
