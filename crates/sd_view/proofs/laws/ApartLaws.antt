-- Parts that share no byte.
use Rattle.std.proofs.Common.{◌≡◌, inl, inr, false, Some, None, subst, sym}
use Rattle.sd_parts.specs.Parts.{get_part, same_part}
use Rattle.sd_parts.specs.declared.part.Part.{Part}
use Rattle.sd_parts.specs.declared.part.Part.TheVariants.{Owner, Group, Sacl, Dacl}
use Rattle.sd_parts.specs.declared.part.Parts.{Parts}
use Rattle.sd_parts.proofs.laws.PartLaws.{each-part}
use Rattle.sd_view.specs.Descriptor.{Apart, AreApart, Extent}

pub apart-sym : (e f : Extent) → Apart e f → Apart f e
apart-sym None None h = tt
apart-sym None (Some q) h = tt
apart-sym (Some p) None h = tt
apart-sym (Some p) (Some q) (inl h) = inr h
apart-sym (Some p) (Some q) (inr h) = inl h

-- six pairs are all of them
pub six-apart : (e : Parts Extent) → Apart e.owner e.group → Apart e.owner e.sacl → Apart e.owner e.dacl
    → Apart e.group e.sacl → Apart e.group e.dacl → Apart e.sacl e.dacl → AreApart e
six-apart e og os od gs gd sd Owner Owner h = absurd (cc)
six-apart e og os od gs gd sd Owner Group h = og
six-apart e og os od gs gd sd Owner Sacl h = os
six-apart e og os od gs gd sd Owner Dacl h = od
six-apart e og os od gs gd sd Group Owner h = apart-sym e.owner e.group og
six-apart e og os od gs gd sd Group Group h = absurd (cc)
six-apart e og os od gs gd sd Group Sacl h = gs
six-apart e og os od gs gd sd Group Dacl h = gd
six-apart e og os od gs gd sd Sacl Owner h = apart-sym e.owner e.sacl os
six-apart e og os od gs gd sd Sacl Group h = apart-sym e.group e.sacl gs
six-apart e og os od gs gd sd Sacl Sacl h = absurd (cc)
six-apart e og os od gs gd sd Sacl Dacl h = sd
six-apart e og os od gs gd sd Dacl Owner h = apart-sym e.owner e.dacl od
six-apart e og os od gs gd sd Dacl Group h = apart-sym e.group e.dacl gd
six-apart e og os od gs gd sd Dacl Sacl h = apart-sym e.sacl e.dacl sd
six-apart e og os od gs gd sd Dacl Dacl h = absurd (cc)

-- another part stands elsewhere, and shares no byte with the others
pub apart-with : (e f : Parts Extent) (p : Part) → AreApart e
    → ((q : Part) → same_part p q ≡ false → get_part q f ≡ get_part q e)
    → ((q : Part) → same_part p q ≡ false → Apart (get_part p f) (get_part q e)) → AreApart f
apart-with e f p apart still beside =
    each-part (λ q. (r : Part) → same_part q r ≡ false → Apart (get_part q f) (get_part r f)) p here others
  where
    here : (r : Part) → same_part p r ≡ false → Apart (get_part p f) (get_part r f)
    here r other =
        subst (λ (x : Extent). Apart (get_part p f) x) (sym (still r other)) (beside r other)

    others : (q : Part) → same_part p q ≡ false → (r : Part) → same_part q r ≡ false
        → Apart (get_part q f) (get_part r f)
    others q other =
        each-part (λ r. same_part q r ≡ false → Apart (get_part q f) (get_part r f)) p
        (λ _. apart-sym (get_part p f) (get_part q f) (here q other))
        (λ r beyond differ.
        subst (λ (x : Extent). Apart x (get_part r f)) (sym (still q other))
        (subst (λ (x : Extent). Apart (get_part q e) x) (sym (still r beyond)) (apart q r differ)))
