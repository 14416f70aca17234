-- The SIDs of aliases in a domain.
use Rattle.std.proofs.Common.{◌≡◌, ℕ, Bool, true, false, ◌&&◌, List, [], ◌∷◌, ◌++◌, Option, None, refl, ap, sym, ◌∙◌}
use Rattle.std.specs.Prelude.{◌==◌}
use Rattle.std.specs.List.{find}
use Rattle.std.specs.Option.{option_map}
use Rattle.std.specs.Str.{bytes_eq}
use Rattle.sd_text.proofs.laws.Bools.{and-assoc, and-false, and-true}
use Rattle.sd_sid.specs.Sid.{SecurityId}
use Rattle.sd_sid.specs.SidText.{relative_alias, same_sid, sid_in}
use Rattle.sd_alias.specs.declared.table.DomainRelative.{DomainRelative}
use Rattle.sd_alias.specs.declared.table.TheConstants.{DOMAIN_RELATIVE}

not_empty : (f : List ℕ) (l : ℕ) → bytes_eq [] (f ++ l ∷ []) ≡ false
not_empty [] l = refl
not_empty (y ∷ f) l = refl

-- two lists are the same where their fronts and their last elements are
bytes_eq-push : (d f : List ℕ) (x l : ℕ) → bytes_eq (d ++ x ∷ []) (f ++ l ∷ []) ≡ (bytes_eq d f && x == l)
bytes_eq-push [] [] x l = and-true (x == l)
bytes_eq-push [] (y ∷ f) x l = ap (λ (b : Bool). x == y && b) (not_empty f l) ∙ and-false (x == y)
bytes_eq-push (y ∷ []) [] x l = and-false (y == l)
bytes_eq-push (y ∷ w ∷ d) [] x l = and-false (y == l)
bytes_eq-push (y ∷ d) (z ∷ f) x l = ap (λ (b : Bool). y == z && b) (bytes_eq-push d f x l)
    ∙ and-assoc (y == z) (bytes_eq d f) (x == l)

pub find-same : {X : Type 0} (p q : X → Bool) (xs : List X) → ((x : X) → p x ≡ q x) → find p xs ≡ find q xs
find-same p q [] e = refl
find-same p q (x ∷ xs) e = rw (e x, find-same p q xs e) refl

pub find-none : {X : Type 0} (p : X → Bool) (xs : List X) → ((x : X) → p x ≡ false) → find p xs ≡ None
find-none p [] e = refl
find-none p (x ∷ xs) e = rw (e x) (find-none p xs e)

-- whether the SID has the domain in front
abbrev pub in_domain : SecurityId → SecurityId → List ℕ → Bool
in_domain d s front = d.authority == s.authority && bytes_eq d.subs front

pub relative-test : (d s : SecurityId) (front : List ℕ) (last : ℕ) (e : DomainRelative) → s.subs ≡ front ++ last ∷ []
    → same_sid (sid_in d e) s ≡ (in_domain d s front && e.last == last)
relative-test d s front last e split =
    ap (λ (xs : List ℕ). d.authority == s.authority && bytes_eq (d.subs ++ e.last ∷ []) xs) split
    ∙ ap (λ (b : Bool). d.authority == s.authority && b) (bytes_eq-push d.subs front e.last last)
    ∙ and-assoc (d.authority == s.authority) (bytes_eq d.subs front) (e.last == last)

abbrev letters : Option DomainRelative → Option (List ℕ)
letters o = option_map (λ e. e.first ∷ e.second ∷ []) o

pub relative_alias-in : (d s : SecurityId) (front : List ℕ) (last : ℕ) (found : Option DomainRelative)
    → s.subs ≡ front ++ last ∷ [] → in_domain d s front ≡ true → found ≡ find (λ e. e.last == last) DOMAIN_RELATIVE
    → option_map (λ e. e.first ∷ e.second ∷ []) found ≡ relative_alias s d
relative_alias-in d s front last found split same h =
    ap letters (h ∙ find-same (λ e. e.last == last) (λ e. same_sid (sid_in d e) s) DOMAIN_RELATIVE
    (λ e. sym (relative-test d s front last e split ∙ ap (λ (b : Bool). b && e.last == last) same)))

pub relative_alias-outside : (d s : SecurityId) (front : List ℕ) (last : ℕ) → s.subs ≡ front ++ last ∷ []
    → in_domain d s front ≡ false
    → None ≡ relative_alias s d
relative_alias-outside d s front last split other =
    sym (ap letters (find-none (λ e. same_sid (sid_in d e) s) DOMAIN_RELATIVE
    (λ e. relative-test d s front last e split ∙ ap (λ (b : Bool). b && e.last == last) other)))
