-- An alias has two letters.
use Rattle.std.proofs.Common.{◌≡◌, List, ℕ, Option, Some, None, length, refl}
use Rattle.std.specs.Prelude.{IfSome}
use Rattle.std.specs.Option.{option_and_then, option_map, option_or}
use Rattle.sd_sid.specs.Sid.{SecurityId}
use Rattle.sd_sid.specs.SidText.{alias_of, known_alias, relative_alias, usable}

-- a name of two letters, where there is one
abbrev pub IsName : Option (List ℕ) → Type 0
IsName o = IfSome o (λ name. length name ≡ 2)

mapped : {X : Type 0} (f : X → List ℕ) (o : Option X) → ((x : X) → length (f x) ≡ 2) → IsName (option_map f o)
mapped f None two = tt
mapped f (Some x) two = two x

first_name : (a b : Option (List ℕ)) → IsName a → IsName b → IsName (option_or a b)
first_name None b h k = k
first_name (Some a) b h k = h

under : (s : SecurityId) (domain : Option SecurityId) → IsName (option_and_then (relative_alias s) domain)
under s None = tt
under s (Some d) = mapped _ _ (λ e. refl)

pub alias_of-IsName : (s : SecurityId) (domain : Option SecurityId) → IsName (alias_of s domain)
unfolding alias_of
alias_of-IsName s domain = first_name (known_alias s) (option_and_then (relative_alias s) (usable domain))
    (mapped _ _ (λ e. refl)) (under s (usable domain))
