-- What holds of an option's value.
use Rattle.std.proofs.Common.{◌≡◌, Option, Some, IfSome, subst}

-- what holds of each value holds of the one that is read
pub some-is : {A : Type 0} (P : A → Type 0) (o : Option A) (x : A) → IfSome o P → o ≡ Some x → P x
some-is P o x h e = subst (λ (y : Option _). IfSome y P) e h
