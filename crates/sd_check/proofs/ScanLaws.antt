-- A step of the scan, right by right.
use Rattle.std.proofs.Common.{◌≡◌, ◌<◌, ◌≤◌, ℕ, zero, suc, ◌+◌, ◌-◌, ◌*◌, ◌^◌, Bool, true, false, not, ◌&&◌, ◌||◌, cond}
use Rattle.std.proofs.Common.{List, [], ◌∷◌, ◌++◌, length, take, Option, Some, refl, sym, ap, ◌∙◌, ⊎_elim, arith}
use Rattle.std.proofs.Common.{bit_and, bit_or, length-append, append_assoc}
use Rattle.std.specs.List.{find, list_any}
use Rattle.std.proofs.lemmas.Bool.{cases_lt, false_from_ne_true, and_parts}
use Rattle.std.proofs.lemmas.List.Folds.{list_any-append}
use Rattle.std.proofs.lemmas.Nat.{mul-le}
use Rattle.sd_ace.specs.Ace.{AccessControlEntry}
use Rattle.sd_rights.specs.Mapping.{carries, mapped}
use Rattle.sd_token.specs.Token.{Asks, Entry, Holder, TokenShown}
use Rattle.sd_view.specs.Descriptor.{Descriptor}
use Rattle.sd_check.specs.Applies.{applies, is_allow}
use Rattle.sd_check.specs.Ask.{Asked}
use Rattle.sd_check.specs.Granted.{allows, decides}
use Rattle.sd_check.specs.Need.{all_below, least}
use Rattle.sd_check.specs.Inner.Scan.{are_decided, scan_need}
use Rattle.sd_check.proofs.Masks.{carries-and, carries-or, carries-and_not, carries-zero, carries_above, same_masks}

-- 1. One right. It was granted (g), is undecided (u), is in question (q), and the ACE would decide it (d); an ACE
-- before decided it (l).

allow_step : (g u d : Bool) (a : AccessControlEntry) (o : Option AccessControlEntry) → is_allow a.kind ≡ true
    → ((g || (u && d)) || ((u && not (u && d)) && allows o)) ≡ (g || (u && allows (cond d (Some a) o)))
allow_step true u d a o h = refl
allow_step false false d a o h = refl
allow_step false true true a o h = sym h
allow_step false true false a o h = refl

deny_step : (g u d : Bool) (a : AccessControlEntry) (o : Option AccessControlEntry) → is_allow a.kind ≡ false
    → (g || ((u && not (u && d)) && allows o)) ≡ (g || (u && allows (cond d (Some a) o)))
deny_step true u d a o h = refl
deny_step false false d a o h = refl
deny_step false true true a o h = sym h
deny_step false true false a o h = refl

clear_step : (q l d : Bool) → ((q && not l) && not ((q && not l) && d)) ≡ (q && not (l || (d || false)))
clear_step false l d = refl
clear_step true true d = refl
clear_step true false true = refl
clear_step true false false = refl

-- 2. The masks: granted (g) and undecided (u), and what the ACE decides (m).

-- what the ACE decides of the undecided rights
abbrev pub IsDecided : Descriptor → List Entry → Asked → AccessControlEntry → ℕ → ℕ → Type 0
IsDecided d t ask a u m = (right : ℕ) → carries m right ≡ (carries u right && decides right d t ask a)

pub rights_allow : (d : Descriptor) (t : List Entry) (ask : Asked) (a : AccessControlEntry)
    (rest : List AccessControlEntry) (g u m right : ℕ)
    → u < 2 ^ 32 → m < 2 ^ 32 → IsDecided d t ask a u m → is_allow a.kind ≡ true
    → (carries (bit_or g m) right
    || (carries (bit_and u (2 ^ 32 - 1 - m)) right && allows (find (decides right d t ask) rest)))
    ≡ (carries g right || (carries u right && allows (find (decides right d t ask) (a ∷ rest))))
rights_allow d t ask a rest g u m right p q h k =
    rw (carries-or g m right, carries-and_not u m right p q, h right)
    (allow_step (carries g right) (carries u right) (decides right d t ask a) a (find (decides right d t ask) rest) k)

pub rights_deny : (d : Descriptor) (t : List Entry) (ask : Asked) (a : AccessControlEntry)
    (rest : List AccessControlEntry) (g u m right : ℕ)
    → u < 2 ^ 32 → m < 2 ^ 32 → IsDecided d t ask a u m → is_allow a.kind ≡ false
    → (carries g right
    || (carries (bit_and u (2 ^ 32 - 1 - m)) right && allows (find (decides right d t ask) rest)))
    ≡ (carries g right || (carries u right && allows (find (decides right d t ask) (a ∷ rest))))
rights_deny d t ask a rest g u m right p q h k =
    rw (carries-and_not u m right p q, h right)
    (deny_step (carries g right) (carries u right) (decides right d t ask a) a (find (decides right d t ask) rest) k)

undecided_step : (d : Descriptor) (t : List Entry) (ask : Asked) (a : AccessControlEntry)
    (ys : List AccessControlEntry) (q u m right : ℕ)
    → u < 2 ^ 32 → m < 2 ^ 32 → IsDecided d t ask a u m
    → carries u right ≡ (carries q right && not (list_any (decides right d t ask) ys))
    → carries (bit_and u (2 ^ 32 - 1 - m)) right
    ≡ (carries q right && not (list_any (decides right d t ask) (ys ++ a ∷ [])))
undecided_step d t ask a ys q u m right p s h old =
    rw (carries-and_not u m right p s, h right, old, list_any-append (decides right d t ask) ys (a ∷ []))
    (clear_step (carries q right) (list_any (decides right d t ask) ys) (decides right d t ask a))

-- the ACE applies, and has these of the undecided rights
pub decided-applies : (d : Descriptor) (t : List Entry) (ask : Asked) (a : AccessControlEntry) (u m : ℕ)
    → applies a d t ask ≡ true → m ≡ mapped ask.mapping a.mask → IsDecided d t ask a u (bit_and u m)
decided-applies d t ask a u m h e right =
    carries-and u m right ∙ rw h (ap (λ (n : ℕ). carries u right && carries n right) e)

-- it has none of the undecided rights
pub decided-nothing : (d : Descriptor) (t : List Entry) (ask : Asked) (a : AccessControlEntry) (u m : ℕ)
    → m ≡ mapped ask.mapping a.mask → bit_and u m ≡ 0 → IsDecided d t ask a u 0
decided-nothing d t ask a u m e none right =
    carries-zero right
    ∙ nothing (carries u right) (applies a d t ask) (carries (mapped ask.mapping a.mask) right)
    (ap (λ (n : ℕ). carries u right && carries n right) (sym e) ∙ sym (carries-and u m right)
    ∙ ap (λ (n : ℕ). carries n right) none ∙ carries-zero right)
  where
    nothing : (p q r : Bool) → (p && r) ≡ false → false ≡ (p && (q && r))
    nothing false q r h = refl
    nothing true false r h = refl
    nothing true true r h = sym h

-- 3. What is not settled.

all_below_at : (n : ℕ) (test : ℕ → Bool) → all_below n test ≡ true → (i : ℕ) → i < n → test i ≡ true
unfolding all_below
all_below_at zero test h i below = absurd (omega arith)
all_below_at (suc n) test h i below =
    let p = and_parts _ _ h in
    ⊎_elim (λ (less : i < n). all_below_at n test p.1 i less)
    (λ (more : n ≤ i). let here : i ≡ n = omega arith in ap test here ∙ p.0) (cases_lt i n)

blocked : (q l : Bool) → (not q || l) ≡ true → (q && not l) ≡ false
blocked false l h = refl
blocked true true h = refl
blocked true false h = absurd (cc)

-- rights are still undecided
not_decided : (d : Descriptor) (t : List Entry) (ask : Asked) (ys : List AccessControlEntry) (q u : ℕ)
    → q < 2 ^ 25 → (u ≡ 0 → ⊥)
    → ((right : ℕ) → carries u right ≡ (carries q right && not (list_any (decides right d t ask) ys)))
    → are_decided q d t ask ys ≡ false
not_decided d t ask ys q u limit some old =
    false_from_ne_true _ (λ all. some (same_masks u 0 (λ i. old i
    ∙ ⊎_elim (λ (below : i < 25).
    blocked (carries q i) (list_any (decides i d t ask) ys) (all_below_at 25 _ all i below))
    (λ (above : 25 ≤ i). rw (carries_above q 25 i limit above) refl) (cases_lt i 25)
    ∙ sym (carries-zero i))))

least_ge : (n limit : ℕ) (test : ℕ → Bool) → n ≤ limit → ((k : ℕ) → k < n → test k ≡ false) → n ≤ least test limit
unfolding least
least_ge zero limit test h fails = omega arith
least_ge (suc n) zero test h fails = absurd (omega arith)
least_ge (suc n) (suc limit) test h fails =
    let first = fails 0 (omega arith) in
    let rest = least_ge n limit (λ k. test (suc k)) (omega arith) (λ k below. fails (suc k) (omega arith)) in
    rw first (omega arith)

-- what passes g passes f
pub all_below_mono : (n : ℕ) (f g : ℕ → Bool) → ((i : ℕ) → i < n → g i ≡ true → f i ≡ true)
    → all_below n g ≡ true → all_below n f ≡ true
unfolding all_below
all_below_mono zero f g h all = refl
all_below_mono (suc n) f g h all =
    let p = and_parts _ _ all in
    let here = h n (omega arith) p.0 in
    let rest = all_below_mono n f g (λ i below. h i (omega arith)) p.1 in
    cc

pub least_mono : (limit : ℕ) (f g : ℕ → Bool) → ((k : ℕ) → g k ≡ true → f k ≡ true) → least f limit ≤ least g limit
unfolding least
least_mono zero f g h = omega arith
least_mono (suc limit) f g h =
    let rest = least_mono limit (λ k. f (suc k)) (λ k. g (suc k)) (λ k. h (suc k)) in
    by (f 0) (g 0) (h 0) rest
  where
    by : (a b : Bool) → (b ≡ true → a ≡ true) → {x y : ℕ} → x ≤ y → cond a zero (suc x) ≤ cond b zero (suc y)
    by true b h le = omega arith
    by false true h le = absurd (let e = h refl in cc)
    by false false h le = omega arith

-- 4. The ACEs so far.

take_front : (ys rest : List AccessControlEntry) → take (length ys) (ys ++ rest) ≡ ys
take_front [] rest = refl
take_front (y ∷ ys) rest = ap (λ (zs : List AccessControlEntry). y ∷ zs) (take_front ys rest)

parts_step : (a : AccessControlEntry) (ys front rest all : List AccessControlEntry)
    → all ≡ ys ++ front → front ≡ a ∷ rest → all ≡ (ys ++ a ∷ []) ++ rest
parts_step a ys front rest all h e =
    h ∙ ap (λ (zs : List AccessControlEntry). ys ++ zs) e ∙ sym (append_assoc ys (a ∷ []) rest)

count_step : (a : AccessControlEntry) (ys : List AccessControlEntry) (old mid new n : ℕ)
    → mid ≤ old + length ys * n → new ≤ mid + n → new ≤ old + length (ys ++ a ∷ []) * n
count_step a ys old mid new n h e =
    let more : length (ys ++ a ∷ []) * n ≡ length ys * n + n = simp length-append (omega arith) in
    omega arith

passed_step : (d : Descriptor) (t : List Entry) (ask : Asked) (a : AccessControlEntry)
    (ys rest all : List AccessControlEntry) (q : ℕ)
    → all ≡ ys ++ a ∷ rest → are_decided q d t ask ys ≡ false
    → ((k : ℕ) → k < length ys → are_decided q d t ask (take k all) ≡ false)
    → (k : ℕ) → k < length (ys ++ a ∷ []) → are_decided q d t ask (take k all) ≡ false
passed_step d t ask a ys rest all q parts here old k below =
    ⊎_elim (λ (less : k < length ys). old k less)
    (λ (more : length ys ≤ k).
    let at : k ≡ length ys = omega (arith, length-append {A = AccessControlEntry} ys (a ∷ [])) in
    ap (are_decided q d t ask)
    (ap (take k) parts ∙ ap (λ (n : ℕ). take n (ys ++ a ∷ rest)) at ∙ take_front ys (a ∷ rest)) ∙ here)
    (cases_lt k (length ys))

-- A walk so far: the ACEs that were passed (ys) and those that are left (rest), the rights in question (q) and those of
-- them that are undecided (u).
pub record Scans (d : Descriptor) (ask : Asked) (all ys rest : List AccessControlEntry) (q u : ℕ) (old new : TokenShown)
    : Type 0 where
  pub parts : all ≡ ys ++ rest
  pub holder : new.holder ≡ old.holder
  pub goes_on : old.compared ≤ new.compared
  pub count : new.compared ≤ old.compared + length ys * length old.holder.entries
  pub undecided : (right : ℕ)
      → carries u right ≡ (carries q right && not (list_any (decides right d old.holder.entries ask) ys))
  pub passed : (k : ℕ) → k < length ys → are_decided q d old.holder.entries ask (take k all) ≡ false

pub scans_start : (d : Descriptor) (ask : Asked) (all : List AccessControlEntry) (q : ℕ) (old : TokenShown)
    → Scans d ask all [] all q q old old
scans_start d ask all q old = record {
  parts = refl;
  holder = refl;
  goes_on = omega arith;
  count = omega arith;
  undecided = λ right. none (carries q right);
  passed = λ k below. absurd (omega arith);
}
  where
    none : (b : Bool) → b ≡ (b && not false)
    none true = refl
    none false = refl

-- The next ACE decides these rights (m) of those that are undecided.
pub scans_step : (d : Descriptor) (ask : Asked) (a : AccessControlEntry) (all ys front rest : List AccessControlEntry)
    (q u m : ℕ) (old mid new : TokenShown)
    → q < 2 ^ 25 → u < 2 ^ 32 → m < 2 ^ 32 → (u ≡ 0 → ⊥) → front ≡ a ∷ rest
    → IsDecided d mid.holder.entries ask a u m → Asks mid new 1
    → Scans d ask all ys front q u old mid
    → Scans d ask all (ys ++ a ∷ []) rest q (bit_and u (2 ^ 32 - 1 - m)) old new
scans_step d ask a all ys front rest q u m old mid new limit p s some steps decided asks so_far =
    let t = old.holder.entries in
    let same = ap (λ (h : Holder). h.entries) so_far.holder in
    record {
      parts = parts_step a ys front rest all so_far.parts steps;
      holder = asks.holder ∙ so_far.holder;
      goes_on = omega (arith, so_far.goes_on, asks.compared.goes_on);
      count = count_step a ys old.compared mid.compared new.compared (length t) so_far.count
          (rw (← same) (omega (arith, asks.compared.at_most)));
      undecided = λ right. undecided_step d t ask a ys q u m right p s (rw same at decided)
          (so_far.undecided right);
      passed = passed_step d t ask a ys rest all q
          (so_far.parts ∙ ap (λ (zs : List AccessControlEntry). ys ++ zs) steps)
          (not_decided d t ask ys q u limit some so_far.undecided) so_far.passed;
    }

pub scan_asks : (d : Descriptor) (ask : Asked) (ys rest all : List AccessControlEntry) (q u : ℕ) (old new : TokenShown)
    → Scans d ask all ys rest q u old new → Asks old new (scan_need q d old.holder.entries ask all)
unfolding scan_need
scan_asks d ask ys rest all q u old new so_far =
    let n = length old.holder.entries in
    let parts = so_far.parts in
    let long : length ys ≤ length all = rw parts (omega (arith, length-append {A = AccessControlEntry})) in
    let most = least_ge (length ys) (length all) _ long so_far.passed in
    let times = mul-le (length ys) n (scan_need q d old.holder.entries ask all) n most (omega arith) in
    record {
      holder = so_far.holder;
      compared = record { goes_on = so_far.goes_on; at_most = omega (arith, times, so_far.count) };
    }
