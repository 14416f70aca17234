-- An ACL that is open, and its size, as copies are appended to it.
use Rattle.std.proofs.Common.{◌≡◌, ◌<◌, ◌≤◌, ◌+◌, ◌^◌, ◌↔◌, Bool, true, false, List, [], ◌∷◌, ◌++◌, Option, Some, None}
use Rattle.std.proofs.Common.{append-nil, append_assoc, refl, ap, sym, ◌∙◌, ⊎_elim, arith}
use Rattle.std.specs.List.{flat_map}
use Rattle.std.proofs.lemmas.Bool.{cases_lt}
use Rattle.std.proofs.lemmas.List.Concat.{flat_map-append}
use Rattle.sd_ace.specs.Ace.{AccessControlEntry}
use Rattle.sd_acl_view.specs.Acl.{aces_size}
use Rattle.sd_builder.specs.Draft.{Draft, IsOpenIn, open_size, open_size_in}
use Rattle.sd_parts.specs.declared.part.Which.{Which}
use Rattle.sd_inherit.specs.Inner.Building.{HasOpen, more_aces, with_aces}

abbrev pub Aces : Type 0
Aces = List AccessControlEntry

-- one call more fails exactly where its ACEs don't fit
abbrev pub FailsFor : Bool → Draft → Aces → Type 0
FailsFor failed t aces = (failed ≡ true) ↔ (2 ^ 16 ≤ open_size t.parts + aces_size aces)

pub aces_size-append : (xs ys : Aces) → aces_size (xs ++ ys) ≡ aces_size xs + aces_size ys
aces_size-append [] ys = omega arith
aces_size-append (x ∷ xs) ys = let rest = aces_size-append xs ys in omega (arith, rest)

size_in-more : (o : Option (Which × Aces)) (xs : Aces) → IsOpenIn o
    → open_size_in (more_aces xs o) ≡ open_size_in o + aces_size xs
size_in-more None xs h = absurd h
size_in-more (Some o) xs h = omega (arith, aces_size-append o.1 xs)

is_open-more : (o : Option (Which × Aces)) (xs : Aces) → IsOpenIn o → IsOpenIn (more_aces xs o)
is_open-more None xs h = absurd h
is_open-more (Some o) xs h = tt

pub open_size-with : (t : Draft) (xs : Aces) → HasOpen t
    → open_size (with_aces xs t).parts ≡ open_size t.parts + aces_size xs
open_size-with t xs h = size_in-more t.parts.«open» xs h.open

-- after a call that did not fail
pub stays_open : (t : Draft) (xs : Aces) → HasOpen t → FailsFor false t xs → HasOpen (with_aces xs t)
stays_open t xs h full = record {
  «open» = is_open-more t.parts.«open» xs h.open;
  fits = ⊎_elim
      (λ (small : open_size t.parts + aces_size xs < 2 ^ 16). let e = open_size-with t xs h in omega (arith, e))
      (λ (large : 2 ^ 16 ≤ open_size t.parts + aces_size xs). let no = full.1 large in absurd (cc))
      (cases_lt (open_size t.parts + aces_size xs) (2 ^ 16));
}

-- a first call that failed, of two
pub full_before : (t : Draft) (xs ys : Aces) → FailsFor true t xs → FailsFor true t (xs ++ ys)
full_before t xs ys full =
    let both = aces_size-append xs ys in
    (λ f. let large = full.0 f in omega (arith, both, large), λ large. refl)

-- a second call, after a first that did not fail
pub full_after : (t : Draft) (xs ys : Aces) (failed : Bool) → HasOpen t
    → FailsFor failed (with_aces xs t) ys → FailsFor failed t (xs ++ ys)
full_after t xs ys failed h full =
    let with_them = open_size-with t xs h in
    let both = aces_size-append xs ys in (
      λ f. let large = full.0 f in omega (arith, both, with_them, large),
      λ large. full.1 (omega (arith, both, with_them, large)),
    )

-- no ACE more: an open ACL has room for it
pub full_never : (t : Draft) → HasOpen t → FailsFor false t []
full_never t h = (λ f. absurd (cc), λ large. let fits = h.fits in absurd (omega (arith, fits, large)))

more_aces-append : (o : Option (Which × Aces)) (xs ys : Aces) → more_aces ys (more_aces xs o) ≡ more_aces (xs ++ ys) o
more_aces-append None xs ys = refl
more_aces-append (Some o) xs ys = ap (λ (zs : Aces). Some (o.0, zs)) (append_assoc o.1 xs ys)

-- first these, and then those
pub with_both : (t : Draft) (xs ys : Aces) → with_aces ys (with_aces xs t) ≡ with_aces (xs ++ ys) t
with_both t xs ys =
    ap (λ (o : Option (Which × Aces)). let d : Draft = record t { parts = record t.parts { «open» = o } } in d)
    (more_aces-append t.parts.«open» xs ys)

-- The ACEs of an ACL are taken one after the other, and their copies appended.
module _ (f : AccessControlEntry → Aces) (ys : Aces) (a : AccessControlEntry) where
  pub flat_map-one : flat_map f (ys ++ a ∷ []) ≡ flat_map f ys ++ f a
  flat_map-one = flat_map-append f ys (a ∷ []) ∙ ap (λ (zs : Aces). flat_map f ys ++ zs) (append-nil (f a))

  pub with_one : (t : Draft) → with_aces (f a) (with_aces (flat_map f ys) t) ≡ with_aces (flat_map f (ys ++ a ∷ [])) t
  with_one t = with_both t (flat_map f ys) (f a) ∙ ap (λ (zs : Aces). with_aces zs t) (sym flat_map-one)

  module _ (rest left aces : Aces) (parts : aces ≡ ys ++ left) (step : left ≡ a ∷ rest) where
    pub parts_one : aces ≡ (ys ++ a ∷ []) ++ rest
    parts_one = parts ∙ ap (λ (zs : Aces). ys ++ zs) step ∙ sym (append_assoc ys (a ∷ []) rest)

    pub all_one : flat_map f aces ≡ (flat_map f ys ++ f a) ++ flat_map f rest
    all_one =
        ap (flat_map f) parts_one ∙ flat_map-append f (ys ++ a ∷ []) rest
        ∙ ap (λ (zs : Aces). zs ++ flat_map f rest) flat_map-one

    -- where the copies of one don't fit, all don't
    pub full_one : (t : Draft) → HasOpen t → FailsFor true (with_aces (flat_map f ys) t) (f a)
        → FailsFor true t (flat_map f aces)
    full_one t h full =
        rw all_one
        (full_before t (flat_map f ys ++ f a) (flat_map f rest) (full_after t (flat_map f ys) (f a) true h full))

pub all_yielded : (ys left aces : Aces) → aces ≡ ys ++ left → left ≡ [] → aces ≡ ys
all_yielded ys left aces parts none = parts ∙ ap (λ (zs : Aces). ys ++ zs) none ∙ append-nil ys

-- at the end all fit
pub full_all : (f : AccessControlEntry → Aces) (ys left aces : Aces) (t : Draft) → HasOpen t
    → HasOpen (with_aces (flat_map f ys) t) → aces ≡ ys ++ left → left ≡ [] → FailsFor false t (flat_map f aces)
full_all f ys left aces t h room parts none =
    let all = all_yielded ys left aces parts none in
    let whole : flat_map f aces ≡ flat_map f ys ++ [] = ap (flat_map f) all ∙ sym (append-nil (flat_map f ys)) in
    rw whole (full_after t (flat_map f ys) [] false h (full_never (with_aces (flat_map f ys) t) room))
