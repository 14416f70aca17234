-- Parts that are the same or not, and the value for a part that was replaced.
use Rattle.std.proofs.Common.{◌≡◌, true, false, refl}
use Rattle.sd_parts.specs.Parts.{get_part, same_part, set_part}
use Rattle.sd_parts.specs.declared.part.Part.{Part}
use Rattle.sd_parts.specs.declared.part.Part.TheVariants.{Owner, Group, Sacl, Dacl}
use Rattle.sd_parts.specs.declared.part.Parts.{Parts}

pub same-self : (p : Part) → same_part p p ≡ true
same-self Owner = refl
same-self Group = refl
same-self Sacl = refl
same-self Dacl = refl

-- what holds of a part and of each other one holds of all
pub each-part : (P : Part → Type 0) (p : Part) → P p → ((q : Part) → same_part p q ≡ false → P q) → (q : Part) → P q
each-part P Owner h others Owner = h
each-part P Group h others Group = h
each-part P Sacl h others Sacl = h
each-part P Dacl h others Dacl = h
each-part P p h others q = others q refl

pub same-is : (p q : Part) → same_part p q ≡ true → p ≡ q
same-is p = each-part (λ q. same_part p q ≡ true → p ≡ q) p (λ e. refl) (λ q other e. absurd (cc))

pub same-sym : (p q : Part) → same_part p q ≡ false → same_part q p ≡ false
same-sym Owner Owner e = e
same-sym Group Group e = e
same-sym Sacl Sacl e = e
same-sym Dacl Dacl e = e
same-sym p q e = refl

-- the value for the part that was replaced, and for another one
pub get-set : {A : Type 0} (p : Part) (x : A) (xs : Parts A) → get_part p (set_part p x xs) ≡ x
get-set Owner x xs = refl
get-set Group x xs = refl
get-set Sacl x xs = refl
get-set Dacl x xs = refl

pub get-other : {A : Type 0} (p q : Part) (x : A) (xs : Parts A) → same_part p q ≡ false
    → get_part q (set_part p x xs) ≡ get_part q xs
get-other Owner Owner x xs e = absurd (cc)
get-other Group Group x xs e = absurd (cc)
get-other Sacl Sacl x xs e = absurd (cc)
get-other Dacl Dacl x xs e = absurd (cc)
get-other p q x xs e = refl
