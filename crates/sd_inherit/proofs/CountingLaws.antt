-- ACEs that are counted, and origins that are written, one ACE after the other.
use Rattle.std.proofs.Common.{◌≡◌, ◌≤◌, ℕ, ◌+◌, Bool, true, false, List, [], ◌∷◌, ◌++◌, length, map, take}
use Rattle.std.proofs.Common.{append-nil, append_assoc, refl, ap, sym, ◌∙◌, arith, length-append}
use Rattle.std.specs.List.{flat_map}
use Rattle.std.proofs.lemmas.List.{length-map}
use Rattle.sd_ace.specs.Ace.{AccessControlEntry}
use Rattle.sd_inherit.specs.Inner.Counting.{Counts, IsTally, Writes}
use Rattle.sd_inherit.specs.Origins.{gives, origin_of, origins_from}
use Rattle.sd_inherit.specs.declared.origin.AceOrigin.{AceOrigin}
use Rattle.sd_inherit.specs.declared.origin.Giver.{Giver}
use Rattle.sd_inherit.specs.declared.plan.Plan.{Plan}
use Rattle.sd_inherit.specs.declared.tally.Tally.{Tally}
use Rattle.sd_inherit.proofs.BuildingLaws.{Aces, aces_size-append}

abbrev pub Origins : Type 0
Origins = List AceOrigin

-- 1. Counts.

pub counts_none : (t : Tally) → IsTally t → Counts [] t t false
counts_none t h = record {
  full = (λ f. absurd (cc), λ large. let fits = h.fits in absurd (omega (arith, fits, large)));
  count = λ f. omega arith;
  size = λ f. omega arith;
  tally = λ f. h;
}

-- these, and then those
pub counts_then : (xs ys : Aces) (a b c : Tally) (failed : Bool) → Counts xs a b false → Counts ys b c failed
    → Counts (xs ++ ys) a c failed
counts_then xs ys a b c failed p q =
    let both = aces_size-append xs ys in
    let many = length-append xs ys in
    let size = p.size refl in
    let count = p.count refl in
    record {
      full = (
        λ f. let large = q.full.0 f in omega (arith, both, size, large),
        λ large. q.full.1 (omega (arith, both, size, large)),
      );
      count = λ f. let more = q.count f in omega (arith, many, count, more);
      size = λ f. let more = q.size f in omega (arith, both, size, more);
      tally = q.tally;
    }

-- where these are too many, so are more
pub counts_stop : (xs ys : Aces) (a b : Tally) (failed : Bool) → failed ≡ true → Counts xs a b true
    → Counts (xs ++ ys) a b failed
counts_stop xs ys a b failed e p =
    let both = aces_size-append xs ys in
    let large = p.full.0 refl in
    record {
      full = (λ f. omega (arith, both, large), λ more. e);
      count = λ f. absurd (cc);
      size = λ f. absurd (cc);
      tally = λ f. absurd (cc);
    }

-- 2. Origins that are written.

pub writes_none : (at : ℕ) (cells : Origins) → Writes [] at cells at cells
writes_none at cells = record {
  end_is = omega arith;
  front = sym (append-nil (take at cells));
  same = refl;
}

pub writes_then : (xs ys : Origins) (at next end : ℕ) (old between new : Origins) → Writes xs at old next between
    → Writes ys next between end new → Writes (xs ++ ys) at old end new
writes_then xs ys at next end old between new p q = record {
  end_is = let many = length-append xs ys in let e = p.end_is in let f = q.end_is in omega (arith, many, e, f);
  front = q.front ∙ ap (λ (zs : Origins). zs ++ ys) p.front ∙ append_assoc (take at old) xs ys;
  same = q.same ∙ p.same;
}

module _ (g : Giver) (plan : Plan) where
  pub origins_append : (n : ℕ) (ys zs : Aces)
      → origins_from g plan n (ys ++ zs) ≡ origins_from g plan n ys ++ origins_from g plan (n + length ys) zs
  origins_append n [] zs = ap (λ (k : ℕ). origins_from g plan k zs) (omega arith)
  origins_append n (y ∷ ys) zs =
      let k : (1 + n) + length ys ≡ n + length (y ∷ ys) = omega arith in
      ap (λ (os : Origins). map (origin_of g n) (gives g plan y) ++ os)
      (origins_append (1 + n) ys zs
      ∙ ap (λ (m : ℕ). origins_from g plan (1 + n) ys ++ origins_from g plan m zs) k)
      ∙ sym (append_assoc (map (origin_of g n) (gives g plan y)) (origins_from g plan (1 + n) ys)
      (origins_from g plan (n + length (y ∷ ys)) zs))

  pub origins_count : (n : ℕ) (aces : Aces)
      → length (origins_from g plan n aces) ≡ length (flat_map (gives g plan) aces)
  origins_count n [] = refl
  origins_count n (a ∷ others) =
      let here = length-map (gives g plan a) (origin_of g n) in
      let rest = origins_count (1 + n) others in
      let left = length-append (map (origin_of g n) (gives g plan a)) (origins_from g plan (1 + n) others) in
      let right = length-append (gives g plan a) (flat_map (gives g plan) others) in
      omega (arith, here, rest, left, right)

  -- one ACE more
  pub origins_one : (ys : Aces) (a : AccessControlEntry) → origins_from g plan 0 (ys ++ a ∷ [])
      ≡ origins_from g plan 0 ys ++ map (origin_of g (length ys)) (gives g plan a)
  origins_one ys a =
      let k : 0 + length ys ≡ length ys = omega arith in
      origins_append 0 ys (a ∷ [])
      ∙ ap (λ (m : ℕ). origins_from g plan 0 ys ++ origins_from g plan m (a ∷ [])) k
      ∙ ap (λ (os : Origins). origins_from g plan 0 ys ++ os)
      (append-nil (map (origin_of g (length ys)) (gives g plan a)))

  -- there is room for what one ACE gives
  pub room_one : (ys rest aces : Aces) (a : AccessControlEntry) (at end : ℕ) (old new : Origins)
      → aces ≡ (ys ++ a ∷ []) ++ rest → at + length (origins_from g plan 0 aces) ≤ length old
      → Writes (origins_from g plan 0 ys) at old end new → end + length (gives g plan a) ≤ length new
  room_one ys rest aces a at end old new parts room w =
      let whole : length (origins_from g plan 0 aces) ≡ length (origins_from g plan 0 ((ys ++ a ∷ []) ++ rest)) =
      ap (λ (zs : Aces). length (origins_from g plan 0 zs)) parts in
      let split = ap length (origins_append 0 (ys ++ a ∷ []) rest) in
      let two = length-append (origins_from g plan 0 (ys ++ a ∷ []))
      (origins_from g plan (0 + length (ys ++ a ∷ [])) rest) in
      let one = ap length (origins_one ys a) in
      let parts_of_one = length-append (origins_from g plan 0 ys) (map (origin_of g (length ys)) (gives g plan a)) in
      let here = length-map (gives g plan a) (origin_of g (length ys)) in
      let e = w.end_is in
      let s = w.same in
      omega (arith, whole, split, two, one, parts_of_one, here, e, s, room)

-- the place of an ACE is below the number of all
pub place_below : (ys rest aces : Aces) (a : AccessControlEntry) → aces ≡ (ys ++ a ∷ []) ++ rest
    → length ys + 1 ≤ length aces
place_below ys rest aces a parts =
    let whole = ap length parts in
    let two = length-append (ys ++ a ∷ []) rest in
    let one = length-append ys (a ∷ []) in
    omega (arith, whole, two, one)
