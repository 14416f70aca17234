-- What holds of the origins of a new ACL's ACEs.
use Rattle.std.proofs.Common.{◌≡◌, ◌≤◌, ℕ, zero, suc, ◌+◌, ◌/◌, ◌%◌, ◌==◌, Bool, true, false, cond, not, ◌&&◌}
use Rattle.std.proofs.Common.{List, [], ◌∷◌, ◌++◌, length, map, count_by, slice_get, Option, Some, None, refl, ap, sym}
use Rattle.std.proofs.Common.{◌∙◌, inl, inr, arith, append_assoc, length-append}
use Rattle.std.specs.List.{AllByRecursion, find, flat_map}
use Rattle.std.proofs.lemmas.Bool.{eq-eqb, eqb-false, eqb-true}
use Rattle.std.proofs.lemmas.List.{length-map, map-append}
use Rattle.std.proofs.lemmas.List.Sums.{sum_by-append}
use Rattle.std.proofs.Math.Bool.{and-false}
use Rattle.sd_ace.specs.Ace.{AccessControlEntry}
use Rattle.sd_view.specs.Descriptor.{Descriptor}
use Rattle.sd_view.specs.declared.acl_part.AclPart.{AclPart}
use Rattle.sd_view.specs.declared.acl_part.AclPart.TheVariants as acl
use Rattle.sd_parts.specs.declared.part.Which.{Which}
use Rattle.sd_parts.specs.declared.part.Which.TheVariants.{Dacl, Sacl}
use Rattle.sd_inherit.specs.Copies.{copies, copies_for, differs, effective_copy, inherit_only_copy, is_for_containers}
use Rattle.sd_inherit.specs.Copies.{is_for_files, is_for_one_level}
use Rattle.sd_inherit.specs.Derived.{acl_of, creators_acl, dacl_beside, derived, gathered, new_aces, parents_acl}
use Rattle.sd_inherit.specs.Derived.{sacl_beside, sacl_of}
use Rattle.sd_inherit.specs.OriginLaws.{Copied, Counted, Precedes, Rise, Rising, given_at, is_at, named, same_truth}
use Rattle.sd_inherit.specs.Origins.{ace_counts, aces_in, givers_aces, gives, giving, is_creator, new_origins}
use Rattle.sd_inherit.specs.Origins.{origin_of, origins_from}
use Rattle.sd_inherit.specs.Taken.{handed_on, is_inherit_only, is_inherited, own_ace, taken, taken_for}
use Rattle.sd_inherit.specs.declared.origin.AceCounts.{AceCounts}
use Rattle.sd_inherit.specs.declared.origin.AceOrigin.{AceOrigin}
use Rattle.sd_inherit.specs.declared.origin.Giver.{Giver}
use Rattle.sd_inherit.specs.declared.origin.Giver.TheVariants as giver
use Rattle.sd_inherit.specs.declared.plan.Plan.{Plan}
use Rattle.sd_inherit.specs.declared.plan.Target.{Target}
use Rattle.sd_inherit.specs.declared.plan.Target.TheVariants.{Container, File}
use Rattle.sd_inherit.proofs.BuildingLaws.{Aces}
use Rattle.sd_inherit.proofs.CountingLaws.{Origins, origins_count}
use Rattle.sd_inherit.proofs.DerivedLaws.{inherited_flat}
use Rattle.sd_inherit.proofs.laws.LimitLaws.{one_of, one_when}

-- 1. What one ACE gives: nothing, one ACE, or an effective one and then an inherit-only one.

effective_off : (plan : Plan) (a : AccessControlEntry) → is_inherit_only (effective_copy plan a 0) ≡ false
effective_off plan a =
    let e : (effective_copy plan a 0).flags / 8 % 2 ≡ 0 = omega arith in ap (λ (n : ℕ). n == 1) e

inherit_only_on : (a : AccessControlEntry) → is_inherit_only (inherit_only_copy a) ≡ true
inherit_only_on a =
    let e : (inherit_only_copy a).flags / 8 % 2 ≡ 1 = omega arith in ap (λ (n : ℕ). n == 1) e

own_off : (plan : Plan) (a : AccessControlEntry) → is_inherit_only (own_ace plan a) ≡ false
own_off plan a =
    let e : (own_ace plan a).flags / 8 % 2 ≡ 0 = omega arith in ap (λ (n : ℕ). n == 1) e

handed_on-on : (a : AccessControlEntry) → is_inherit_only a ≡ false → is_inherit_only (handed_on a) ≡ true
handed_on-on a off =
    let bit : (a.flags / 8 % 2 ≡ 1) → ⊥ = eqb-false (a.flags / 8 % 2) 1 off in
    let e : (handed_on a).flags / 8 % 2 ≡ 1 = omega (arith, bit) in
    ap (λ (n : ℕ). n == 1) e

module _ (P : Aces → Type 0) (none : P []) (one : (x : AccessControlEntry) → P (x ∷ []))
    (two : (x y : AccessControlEntry) → is_inherit_only x ≡ false → is_inherit_only y ≡ true → P (x ∷ y ∷ [])) where
  copies_for-shape : (target : Target) (plan : Plan) (a : AccessControlEntry) → P (copies_for target plan a)
  copies_for-shape File plan a = one_of P (is_for_files a) _ _ (one _) none
  copies_for-shape Container plan a =
      one_of P (is_for_containers a && is_for_one_level a) _ _ (one _)
      (one_of P (is_for_containers a && differs a) _ _ (two _ _ (effective_off plan a) (inherit_only_on a))
      (one_of P (is_for_containers a) _ _ (one _)
      (one_of P (is_for_files a && not (is_for_one_level a)) _ _ (one _) none)))

  copies-shape : (plan : Plan) (a : AccessControlEntry) → P (copies plan a)
  unfolding copies
  copies-shape plan a = copies_for-shape plan.target plan a

  taken_for-shape : (target : Target) (plan : Plan) (a : AccessControlEntry) → P (taken_for target plan a)
  taken_for-shape File plan a = one_of P (is_inherit_only a) _ _ none (one _)
  taken_for-shape Container plan a =
      one_when P (is_inherit_only a) _ _ (one _) (λ off.
      one_of P (not (is_for_files a) && not (is_for_containers a)) _ _ (one _)
      (one_of P (differs a) _ _ (two _ _ (own_off plan a) (handed_on-on a off)) (one _)))

  taken-shape : (plan : Plan) (a : AccessControlEntry) → P (taken plan a)
  unfolding taken
  taken-shape plan a = one_of P (is_inherited a) _ _ none (taken_for-shape plan.target plan a)

  gives-shape : (g : Giver) (plan : Plan) (a : AccessControlEntry) → P (gives g plan a)
  gives-shape giver.Creator plan a = taken-shape plan a
  gives-shape giver.Parent plan a = copies-shape plan a

-- 2. Each is found by its origin.

same_self : (b : Bool) → same_truth b b ≡ true
same_self true = refl
same_self false = refl

-- in a list the first that is inherit-only as another is
abbrev found_in : Aces → AccessControlEntry → Option AccessControlEntry
found_in xs c = find (λ d. same_truth (is_inherit_only c) (is_inherit_only d)) xs

abbrev Found : Aces → Type 0
Found xs = map (found_in xs) xs ≡ map Some xs

found_one : (x : AccessControlEntry) → Found (x ∷ [])
found_one x = ap (λ (b : Bool). cond b (Some x) None ∷ []) (same_self (is_inherit_only x))

found_two : (x y : AccessControlEntry) → is_inherit_only x ≡ false → is_inherit_only y ≡ true → Found (x ∷ y ∷ [])
found_two x y off on = rw (off, on) refl

found : (g : Giver) (plan : Plan) (a : AccessControlEntry) → Found (gives g plan a)
found = gives-shape Found refl found_one found_two

get_seam : (front : Aces) (a : AccessControlEntry) (others : Aces)
    → slice_get (front ++ a ∷ others) (length front) ≡ Some a
get_seam [] a others = refl
get_seam (x ∷ front) a others = get_seam front a others

module _ (g : Giver) (plan : Plan) (whole : Aces) (f : AceOrigin → Option AccessControlEntry)
    (finds : (n : ℕ) (c : AccessControlEntry) → f (origin_of g n c)
    ≡ found_in (given_at g plan (slice_get whole n)) c) where
  finds_each : (n : ℕ) (xs : Aces) → map f (map (origin_of g n) xs)
      ≡ map (found_in (given_at g plan (slice_get whole n))) xs
  finds_each n [] = refl
  finds_each n (x ∷ xs) = let here = finds n x in let rest = finds_each n xs in cc

  finds_from : (front rest : Aces) (n : ℕ) → n ≡ length front → whole ≡ front ++ rest
      → map f (origins_from g plan n rest) ≡ map Some (flat_map (gives g plan) rest)
  finds_from front [] n e parts = refl
  finds_from front (a ∷ others) n e parts =
      let there : slice_get whole n ≡ Some a = rw (parts, e) (get_seam front a others) in
      let here : map f (map (origin_of g n) (gives g plan a)) ≡ map Some (gives g plan a) =
      finds_each n (gives g plan a)
      ∙ ap (λ (o : Option AccessControlEntry). map (found_in (given_at g plan o)) (gives g plan a)) there
      ∙ found g plan a in
      let longer : 1 + n ≡ length (front ++ a ∷ []) = let l = length_more front a in omega (arith, l, e) in
      let rest =
      finds_from (front ++ a ∷ []) others (1 + n) longer (parts ∙ sym (append_assoc front (a ∷ []) others)) in
      let left = map-append f (map (origin_of g n) (gives g plan a)) (origins_from g plan (1 + n) others) in
      let right = map-append (λ (x : AccessControlEntry). Some x) (gives g plan a) (flat_map (gives g plan) others) in
      left ∙ ap (λ (xs : List (Option AccessControlEntry)). xs ++ map f (origins_from g plan (1 + n) others)) here
      ∙ ap (λ (xs : List (Option AccessControlEntry)). map Some (gives g plan a) ++ xs) rest ∙ sym right
    where
      length_more : (ys : Aces) (y : AccessControlEntry) → length (ys ++ y ∷ []) ≡ length ys + 1
      length_more [] y = refl
      length_more (z ∷ ys) y = let more = length_more ys y in omega (arith, more)

-- 3. The ACEs of a derived ACL.

pub gathered_flat : (plan : Plan) (creators parents : AclPart) → gathered plan creators parents
    ≡ flat_map (taken plan) (giving giver.Creator creators parents)
    ++ flat_map (copies plan) (giving giver.Parent creators parents)
gathered_flat plan acl.Absent parents = inherited_flat plan parents
gathered_flat plan acl.Null parents = refl
gathered_flat plan (acl.List aces) parents =
    ap (λ (xs : Aces). flat_map (taken plan) aces ++ xs) (inherited_flat plan parents)

in_sacl_of : (xs : Aces) → aces_in (sacl_of xs) ≡ xs
in_sacl_of [] = refl
in_sacl_of (x ∷ xs) = refl

in_sacl : (plan : Plan) (creators parents : AclPart)
    → aces_in (sacl_beside creators (gathered plan creators parents)) ≡ gathered plan creators parents
in_sacl plan acl.Absent parents = in_sacl_of (gathered plan acl.Absent parents)
in_sacl plan acl.Null parents = refl
in_sacl plan (acl.List aces) parents = refl

in_dacl : (plan : Plan) (creators parents : AclPart)
    → aces_in (dacl_beside creators (gathered plan creators parents)) ≡ gathered plan creators parents
in_dacl plan acl.Absent parents = refl
in_dacl plan acl.Null parents = refl
in_dacl plan (acl.List aces) parents = refl

pub in_derived : (w : Which) (d : Descriptor) (creator : Option Descriptor) (plan : Plan)
    → aces_in (acl_of w (derived d creator plan)) ≡ new_aces w d creator plan
unfolding derived
in_derived Sacl d creator plan = in_sacl plan (creators_acl Sacl creator) (parents_acl Sacl creator d)
in_derived Dacl d creator plan = in_dacl plan (creators_acl Dacl creator) (parents_acl Dacl creator d)

pub new_aces-flat : (w : Which) (d : Descriptor) (creator : Option Descriptor) (plan : Plan) → new_aces w d creator plan
    ≡ flat_map (gives giver.Creator plan) (givers_aces giver.Creator w d creator)
    ++ flat_map (gives giver.Parent plan) (givers_aces giver.Parent w d creator)
new_aces-flat w d creator plan = gathered_flat plan (creators_acl w creator) (parents_acl w creator d)

-- an ACL has as many origins as ACEs
pub new_origins-count : (w : Which) (d : Descriptor) (creator : Option Descriptor) (plan : Plan)
    → length (new_origins w d creator plan) ≡ length (aces_in (acl_of w (derived d creator plan)))
new_origins-count w d creator plan =
    let mine = givers_aces giver.Creator w d creator in
    let theirs = givers_aces giver.Parent w d creator in
    let first = origins_count giver.Creator plan 0 mine in
    let second = origins_count giver.Parent plan 0 theirs in
    let left = length-append (origins_from giver.Creator plan 0 mine) (origins_from giver.Parent plan 0 theirs) in
    let right = length-append (flat_map (gives giver.Creator plan) mine) (flat_map (gives giver.Parent plan) theirs) in
    let all = ap length (in_derived w d creator plan ∙ new_aces-flat w d creator plan) in
    omega (arith, first, second, left, right, all)

pub counts_are : (d : Descriptor) (creator : Option Descriptor) (plan : Plan) (m n : ℕ)
    → m ≡ length (new_aces Sacl d creator plan) → n ≡ length (new_aces Dacl d creator plan)
    → let counts : AceCounts = record { sacl = m; dacl = n } in counts ≡ ace_counts (derived d creator plan)
counts_are d creator plan m n e f =
    let sacl : m ≡ length (aces_in (derived d creator plan).sacl) =
    e ∙ ap length (sym (in_derived Sacl d creator plan)) in
    let dacl : n ≡ length (aces_in (derived d creator plan).dacl) =
    f ∙ ap length (sym (in_derived Dacl d creator plan)) in
    cc

-- 4. What holds of all, one list after the other.

module _ {X : Type 0} where
  all_append : (P : X → Type 0) (xs ys : List X) → AllByRecursion P xs → AllByRecursion P ys
      → AllByRecursion P (xs ++ ys)
  all_append P [] ys p q = q
  all_append P (x ∷ xs) ys p q = (p.0, all_append P xs ys p.1 q)

  all_weaken : (P Q : X → Type 0) (xs : List X) → ((x : X) → P x → Q x) → AllByRecursion P xs → AllByRecursion Q xs
  all_weaken P Q [] f p = tt
  all_weaken P Q (x ∷ xs) f p = (f x p.0, all_weaken P Q xs f p.1)

all_map : (P : AceOrigin → Type 0) (h : AccessControlEntry → AceOrigin) (xs : Aces)
    → ((x : AccessControlEntry) → P (h x)) → AllByRecursion P (map h xs)
all_map P h [] f = tt
all_map P h (x ∷ xs) f = (f x, all_map P h xs f)

-- an origin in the ACL of a giver, from a place on
abbrev From : Giver → ℕ → AceOrigin → Type 0
From g m o = (o.from_creator ≡ is_creator g) × (m ≤ o.place)

from_all : (g : Giver) (plan : Plan) (m n : ℕ) (aces : Aces) → m ≤ n
    → AllByRecursion (From g m) (origins_from g plan n aces)
from_all g plan m n [] h = tt
from_all g plan m n (a ∷ others) h =
    all_append (From g m) (map (origin_of g n) (gives g plan a)) (origins_from g plan (1 + n) others)
    (all_map (From g m) (origin_of g n) (gives g plan a) (λ x. (refl, h)))
    (from_all g plan m (1 + n) others (omega (arith, h)))

-- 5. They rise.

rise_append : (xs ys : Origins) → Rise xs → Rise ys → AllByRecursion (λ x. AllByRecursion (Precedes x) ys) xs
    → Rise (xs ++ ys)
rise_append [] ys p q c = q
rise_append (x ∷ xs) ys p q c = (all_append (Precedes x) xs ys p.0 c.0, rise_append xs ys p.1 q c.1)

rise_here : (g : Giver) (plan : Plan) (n : ℕ) (a : AccessControlEntry) → Rise (map (origin_of g n) (gives g plan a))
rise_here g plan n a =
    gives-shape (λ (xs : Aces). Rise (map (origin_of g n) xs)) tt (λ x. (tt, tt))
    (λ x y off on. ((inr (inr (refl, refl, off, on)), tt), (tt, tt))) g plan a

rise_from : (g : Giver) (plan : Plan) (n : ℕ) (aces : Aces) → Rise (origins_from g plan n aces)
rise_from g plan n [] = tt
rise_from g plan n (a ∷ others) =
    rise_append (map (origin_of g n) (gives g plan a)) (origins_from g plan (1 + n) others) (rise_here g plan n a)
    (rise_from g plan (1 + n) others)
    (all_map (λ (x : AceOrigin). AllByRecursion (Precedes x) (origins_from g plan (1 + n) others)) (origin_of g n)
    (gives g plan a)
    (λ x. all_weaken (From g (1 + n)) (Precedes (origin_of g n x)) (origins_from g plan (1 + n) others)
    (λ o from. let later = from.1 in inr (inl (sym from.0, omega (arith, later))))
    (from_all g plan (1 + n) (1 + n) others (omega arith))))

-- 6. Each place has its own.

count_cons : (p : AceOrigin → Bool) (x : AceOrigin) (xs : Origins)
    → count_by p (x ∷ xs) ≡ cond (p x) 1 0 + count_by p xs
count_cons p x xs =
    let split = sum_by-append (λ (o : AceOrigin). cond (p o) 1 0) (x ∷ []) xs in
    split ∙ ap (λ (n : ℕ). n + count_by p xs) (omega arith)

count_none : (p : AceOrigin → Bool) (xs : Origins) → AllByRecursion (λ x. p x ≡ false) xs → count_by p xs ≡ 0
count_none p [] h = refl
count_none p (x ∷ xs) h =
    let here = ap {B = ℕ} (λ (b : Bool). cond b 1 0) h.0 in
    let rest = count_none p xs h.1 in
    let split = count_cons p x xs in
    omega (arith, here, rest, split)

count_all : (p : AceOrigin → Bool) (xs : Origins) → AllByRecursion (λ x. p x ≡ true) xs → count_by p xs ≡ length xs
count_all p [] h = refl
count_all p (x ∷ xs) h =
    let here = ap {B = ℕ} (λ (b : Bool). cond b 1 0) h.0 in
    let rest = count_all p xs h.1 in
    let split = count_cons p x xs in
    omega (arith, here, rest, split)

at_its_place : (g : Giver) (n : ℕ) (c : AccessControlEntry) → is_at g n (origin_of g n c) ≡ true
at_its_place g n c = rw (same_self (is_creator g), eq-eqb n n refl) refl

by_place : (m n : ℕ) → ((m ≡ n) → ⊥) → (m == n) ≡ false
by_place m n differ = by_test (m == n) refl
  where
    by_test : (b : Bool) → (m == n) ≡ b → b ≡ false
    by_test true e = absurd (differ (eqb-true m n e))
    by_test false e = refl

at_no_other : (g : Giver) (k : ℕ) (o : AceOrigin) → ((o.place ≡ k) → ⊥) → is_at g k o ≡ false
at_no_other g k o differ =
    ap (λ (b : Bool). same_truth (is_creator g) o.from_creator && b) (by_place o.place k differ)
    ∙ and-false (same_truth (is_creator g) o.from_creator)

count_from : (g : Giver) (plan : Plan) (aces : Aces) (n j k : ℕ) → k ≡ n + j
    → count_by (is_at g k) (origins_from g plan n aces) ≡ length (given_at g plan (slice_get aces j))
count_from g plan [] n j k e = refl
count_from g plan (a ∷ others) n zero k e =
    let here : count_by (is_at g k) (map (origin_of g n) (gives g plan a)) ≡ length (gives g plan a) =
    let same : n ≡ k = omega (arith, e) in
    count_all (is_at g k) (map (origin_of g n) (gives g plan a))
    (all_map (λ (o : AceOrigin). is_at g k o ≡ true) (origin_of g n) (gives g plan a)
    (λ x. rw same (at_its_place g k x)))
    ∙ length-map (gives g plan a) (origin_of g n) in
    let rest = count_none (is_at g k) (origins_from g plan (1 + n) others)
    (all_weaken (From g (1 + n)) (λ (o : AceOrigin). is_at g k o ≡ false) (origins_from g plan (1 + n) others)
    (λ o from. let later = from.1 in at_no_other g k o (λ same. omega (arith, later, same, e)))
    (from_all g plan (1 + n) (1 + n) others (omega arith))) in
    let split = sum_by-append (λ (o : AceOrigin). cond (is_at g k o) 1 0) (map (origin_of g n) (gives g plan a))
    (origins_from g plan (1 + n) others) in
    omega (arith, here, rest, split)
count_from g plan (a ∷ others) n (suc j) k e =
    let here = count_none (is_at g k) (map (origin_of g n) (gives g plan a))
    (all_map (λ (o : AceOrigin). is_at g k o ≡ false) (origin_of g n) (gives g plan a)
    (λ x. at_no_other g k (origin_of g n x) (λ same. omega (arith, same, e)))) in
    let rest = count_from g plan others (1 + n) j k (omega (arith, e)) in
    let split = sum_by-append (λ (o : AceOrigin). cond (is_at g k o) 1 0) (map (origin_of g n) (gives g plan a))
    (origins_from g plan (1 + n) others) in
    omega (arith, here, rest, split)

of_the_other : (g : Giver) (k : ℕ) (o : AceOrigin) → o.from_creator ≡ not (is_creator g) → is_at g k o ≡ false
of_the_other giver.Creator k o e = ap (λ (b : Bool). b && o.place == k) e
of_the_other giver.Parent k o e = ap (λ (b : Bool). not b && o.place == k) e

count_other : (g h : Giver) (plan : Plan) (aces : Aces) (k : ℕ) → is_creator h ≡ not (is_creator g)
    → count_by (is_at g k) (origins_from h plan 0 aces) ≡ 0
count_other g h plan aces k e =
    count_none (is_at g k) (origins_from h plan 0 aces)
    (all_weaken (From h 0) (λ (o : AceOrigin). is_at g k o ≡ false) (origins_from h plan 0 aces)
    (λ o from. of_the_other g k o (from.0 ∙ e)) (from_all h plan 0 0 aces (omega arith)))

-- 7. The laws.

module _ (w : Which) (d : Descriptor) (creator : Option Descriptor) (plan : Plan) where
  abbrev first : Origins
  first = origins_from giver.Creator plan 0 (givers_aces giver.Creator w d creator)

  abbrev second : Origins
  second = origins_from giver.Parent plan 0 (givers_aces giver.Parent w d creator)

  pub copied : Copied w d creator plan
  copied =
      let f : AceOrigin → Option AccessControlEntry = named w d creator plan in
      let mine = givers_aces giver.Creator w d creator in
      let theirs = givers_aces giver.Parent w d creator in
      map-append f first second
      ∙ ap (λ (xs : List (Option AccessControlEntry)). xs ++ map f second)
      (finds_from giver.Creator plan mine f (λ n c. refl) [] mine 0 refl refl)
      ∙ ap (λ (xs : List (Option AccessControlEntry)). map Some (flat_map (gives giver.Creator plan) mine) ++ xs)
      (finds_from giver.Parent plan theirs f (λ n c. refl) [] theirs 0 refl refl)
      ∙ sym (map-append (λ (x : AccessControlEntry). Some x) (flat_map (gives giver.Creator plan) mine)
      (flat_map (gives giver.Parent plan) theirs))
      ∙ ap (map Some) (sym (in_derived w d creator plan ∙ new_aces-flat w d creator plan))

  pub rising : Rising w d creator plan
  rising =
      let mine = givers_aces giver.Creator w d creator in
      let theirs = givers_aces giver.Parent w d creator in
      rise_append first second (rise_from giver.Creator plan 0 mine) (rise_from giver.Parent plan 0 theirs)
      (all_weaken (From giver.Creator 0) (λ (x : AceOrigin). AllByRecursion (Precedes x) second) first
      (λ x from. all_weaken (From giver.Parent 0) (Precedes x) second (λ o to. inl (from.0, to.0))
      (from_all giver.Parent plan 0 0 theirs (omega arith))) (from_all giver.Creator plan 0 0 mine (omega arith)))

  pub counted : Counted w d creator plan
  counted giver.Creator k =
      let mine = count_from giver.Creator plan (givers_aces giver.Creator w d creator) 0 k k (omega arith) in
      let other = count_other giver.Creator giver.Parent plan (givers_aces giver.Parent w d creator) k refl in
      let split = sum_by-append (λ (o : AceOrigin). cond (is_at giver.Creator k o) 1 0) first second in
      omega (arith, mine, other, split)
  counted giver.Parent k =
      let mine = count_from giver.Parent plan (givers_aces giver.Parent w d creator) 0 k k (omega arith) in
      let other = count_other giver.Parent giver.Creator plan (givers_aces giver.Creator w d creator) k refl in
      let split = sum_by-append (λ (o : AceOrigin). cond (is_at giver.Parent k o) 1 0) first second in
      omega (arith, mine, other, split)

pub ruleset cells_told = (copied, counted, rising)
