-- Ranks and ACEs, one more at the end.
use Rattle.std.proofs.Common.{◌≡◌, ◌≤◌, ◌<◌, ℕ, suc, ◌+◌, Bool, true, false, cond, ◌||◌, nat_lt, List, [], ◌∷◌, ◌++◌}
use Rattle.std.proofs.Common.{length, Option, Some, None, option_map, refl, sym, ap, ◌∙◌, arith, take, get_or}
use Rattle.std.proofs.lemmas.Bool.Decides.{nat_tests}
use Rattle.std.proofs.lemmas.List.{length-take-le}
use Rattle.std.specs.List.{list_any}
use Rattle.std.specs.Option.{option_or}
use Rattle.sd_ace.specs.Ace.{AccessControlEntry}
use Rattle.sd_edit.proofs.SizeLemmas.{next_front}
use Rattle.sd_edit.specs.Order.{Seen, behind_last, first_fall, last_of}
use Rattle.sd_edit.specs.declared.rank.Order.{Order}

-- 1. Ranks.

abbrev pub here_if : Bool → ℕ → Option ℕ
here_if b k = cond b (Some k) None

one_plus : (k : ℕ) → 1 + k ≡ suc k
one_plus k = omega arith

map_or : (b : Bool) (o : Option ℕ) (k : ℕ)
    → option_map (λ (n : ℕ). 1 + n) (option_or o (here_if b k))
    ≡ option_or (option_map (λ (n : ℕ). 1 + n) o) (here_if b (suc k))
map_or b (Some n) k = refl
map_or true None k = ap (λ (n : ℕ). let o : Option ℕ = Some n in o) (one_plus k)
map_or false None k = refl

or_first : (b c : Bool) (o : Option ℕ) (k : ℕ)
    → cond b (Some 1) (option_map (λ (n : ℕ). 1 + n) (option_or o (here_if c k)))
    ≡ option_or (cond b (Some 1) (option_map (λ (n : ℕ). 1 + n) o)) (here_if c (suc k))
or_first true c o k = refl
or_first false c o k = map_or c o k

pub fall_more : (ns : List ℕ) (n : ℕ)
    → first_fall (ns ++ n ∷ []) ≡ option_or (first_fall ns) (here_if (nat_lt n (last_of ns)) (length ns))
fall_more [] n = let e : nat_lt n 0 ≡ false = grind (arith, nat_tests) in sym (ap (λ (b : Bool). here_if b 0) e)
fall_more (a ∷ []) n = elim (nat_lt n a) as (λ b. cond b (Some 1) None ≡ here_if b 1) [ true ↦ refl | false ↦ refl ]
fall_more (a ∷ b ∷ ns) n =
    ap (λ (o : Option ℕ). cond (nat_lt b a) (Some 1) (option_map (λ (k : ℕ). 1 + k) o)) (fall_more (b ∷ ns) n)
    ∙ or_first (nat_lt b a) (nat_lt n (last_of (b ∷ ns))) (first_fall (b ∷ ns)) (length (b ∷ ns))

pub last_more : (ns : List ℕ) (n : ℕ) → last_of (ns ++ n ∷ []) ≡ n
last_more [] n = refl
last_more (a ∷ []) n = refl
last_more (a ∷ b ∷ ns) n = last_more (b ∷ ns) n

pub count_more : (ns : List ℕ) (n : ℕ) → length (ns ++ n ∷ []) ≡ length ns + 1
count_more [] n = refl
count_more (a ∷ ns) n = let e = count_more ns n in omega (arith, e)

-- 2. ACEs.

any_more : (p : AccessControlEntry → Bool) (aces : List AccessControlEntry) (a : AccessControlEntry)
    → list_any p (aces ++ a ∷ []) ≡ list_any p aces || p a
any_more p [] a = elim (p a) as (λ b. (b || false) ≡ (false || b)) [ true ↦ refl | false ↦ refl ]
any_more p (x ∷ aces) a =
    ap (λ (b : Bool). p x || b) (any_more p aces a)
    ∙ elim (p x) as (λ b. (b || (list_any p aces || p a)) ≡ ((b || list_any p aces) || p a))
    [ true ↦ refl | false ↦ refl ]

behind_step : (x any passes : Bool) (n k : ℕ)
    → cond (x || (any || passes)) (1 + cond passes (n + 1) k) 0
    ≡ cond passes (suc n + 1) (cond (x || any) (1 + k) 0)
behind_step true any true n k = omega arith
behind_step true any false n k = refl
behind_step false true true n k = omega arith
behind_step false true false n k = refl
behind_step false false true n k = omega arith
behind_step false false false n k = refl

pub behind_more : (p : AccessControlEntry → Bool) (aces : List AccessControlEntry) (a : AccessControlEntry)
    → behind_last p (aces ++ a ∷ []) ≡ cond (p a) (length aces + 1) (behind_last p aces)
behind_more p [] a = elim (p a) as (λ b. cond (b || false) (1 + 0) 0 ≡ cond b (0 + 1) 0) [ true ↦ refl | false ↦ refl ]
behind_more p (x ∷ aces) a =
    ap (λ (b : Bool). cond (p x || b) (1 + behind_last p (aces ++ a ∷ [])) 0) (any_more p aces a)
    ∙ ap (λ (n : ℕ). cond (p x || (list_any p aces || p a)) (1 + n) 0) (behind_more p aces a)
    ∙ behind_step (p x) (list_any p aces) (p a) (length aces) (behind_last p aces)

pub seen_more : (ns : List ℕ) (n : ℕ) (o p : Order) → Seen ns o
    → p.fall ≡ option_or o.fall (here_if (nat_lt n o.last) o.count) → p.last ≡ n → p.count ≡ o.count + 1
    → Seen (ns ++ n ∷ []) p
seen_more ns n o p s fall last count = record {
  fall = fall ∙ rw (s.fall, s.last, s.count) (sym (fall_more ns n));
  last = last ∙ sym (last_more ns n);
  count = count ∙ ap (λ (k : ℕ). k + 1) s.count ∙ sym (count_more ns n);
}

pub behind_next : (p : AccessControlEntry → Bool) (aces : List AccessControlEntry) (i : ℕ) (d : AccessControlEntry)
    (place new : ℕ) → i < length aces → place ≡ behind_last p (take i aces)
    → new ≡ cond (p (get_or aces i d)) (i + 1) place → new ≡ behind_last p (take (i + 1) aces)
behind_next p aces i d place new within is more =
    let at : length (take i aces) ≡ i = length-take-le i aces (omega arith) in
    more
    ∙ ap (λ (k : ℕ). cond (p (get_or aces i d)) (i + 1) k) is
    ∙ ap (λ (k : ℕ). cond (p (get_or aces i d)) (k + 1) (behind_last p (take i aces))) (sym at)
    ∙ sym (behind_more p (take i aces) (get_or aces i d))
    ∙ ap (behind_last p) (sym (next_front aces i d within))

pub within_next : (b : Bool) (i place new : ℕ) → place ≤ i → new ≡ cond b (i + 1) place → new ≤ i + 1
within_next true i place new h e = omega (arith, e)
within_next false i place new h e = omega (arith, e, h)
