-- The reasons, right by right.
use Rattle.std.proofs.Common.{◌≡◌, ◌<◌, ◌≤◌, ℕ, zero, suc, ◌+◌, ◌-◌, ◌*◌, ◌%◌, ◌^◌, Bool, true, false, not, ◌&&◌, ◌||◌}
use Rattle.std.proofs.Common.{cond, eqb, ltb, List, [], ◌∷◌, length, set, take, get_or, Option, Some, None, refl, sym}
use Rattle.std.proofs.Common.{ap, subst, map, replicate, ◌∙◌, ⊎_elim, arith, lit<, bit_and, bit_or, slice_get}
use Rattle.std.specs.List.{find, list_any, position_from, position_or_len, range_with_len}
use Rattle.std.specs.Int.Count.{count_trailing_zeros}
use Rattle.std.specs.Int.{w32}
use Rattle.std.proofs.lemmas.Bool.{agree_below_at, and_from, and_parts, cases_lt, eq-eqb}
use Rattle.std.proofs.lemmas.Bool.{eqb-true, ltb-true, ne_eqb, or_cases}
use Rattle.std.proofs.lemmas.Iterator.Adapters.{position_from-zero}
use Rattle.std.proofs.lemmas.List.Folds.{find_at}
use Rattle.std.proofs.lemmas.List.{get_or-replicate, length-map, length-replicate}
use Rattle.std.proofs.lemmas.List.FromFn.{get_or-map-range_with_len, length-range_with_len}
use Rattle.std.proofs.lemmas.List.Sums.{fails_before_first, passes_at_first}
use Rattle.std.proofs.lemmas.Nat.{and_le_l, one_shl, pow_below}
use Rattle.std.proofs.lemmas.Nat.Bits.{bit_at-pow_other, bit_at-pow_same, bit_at-trailing_zeros}
use Rattle.std.proofs.lemmas.Option.{get_or_from_slice_get, slice_get-get_or}
use Rattle.sd_ace.specs.Ace.{AccessControlEntry}
use Rattle.sd_kinds.specs.declared.kinds.AceKind.{AceKind}
use Rattle.sd_kinds.specs.declared.kinds.AceKind.TheVariants as kinds
use Rattle.sd_rights.specs.Mapping.{carries, mask_if}
use Rattle.sd_token.specs.Token.{Entry, Holder}
use Rattle.sd_view.specs.Descriptor.{Descriptor}
use Rattle.sd_check.specs.Acl.{listed_aces}
use Rattle.sd_check.specs.Ask.{Asked}
use Rattle.sd_check.specs.Applies.{applies, is_access, is_allow, is_deny, is_inherit_only}
use Rattle.sd_check.specs.Granted.{allows, decides, granted, is_allowed, is_open, is_owned, needs_no_ace}
use Rattle.sd_check.specs.Label.{is_mandatory_label, label_allows}
use Rattle.sd_check.specs.Need.{all_below}
use Rattle.sd_check.specs.Reasons.{NamesAce, by_ace, by_first, grants, has_reason, label_place, reason_of, reasons}
use Rattle.sd_check.specs.Reasons.{reasons_need}
use Rattle.sd_check.specs.Inner.Scan.{permitted_mask, scan_need, undecided_of, without_ace_mask}
use Rattle.sd_check.specs.declared.reason.Reason.{Reason}
use Rattle.sd_check.specs.declared.reason.Reason.TheVariants as reason
use Rattle.sd_check.proofs.Masks.{carries-and, carries-and_not, carries-mask_if, carries-zero, carries_above}
use Rattle.sd_check.proofs.ScanLaws.{IsDecided, all_below_mono, least_mono}
use Rattle.sd_check.proofs.VerdictLaws.{carries-permitted, carries-undecided, carries-without_ace, least_le}

-- 1. A reason for the rights of a mask.

slice_get-set_same : {A : Type 0} (xs : List A) (i : ℕ) (y : A) → i < length xs → slice_get (set xs i y) i ≡ Some y
slice_get-set_same [] i y h = absurd (omega arith)
slice_get-set_same (x ∷ xs) zero y h = refl
slice_get-set_same (x ∷ xs) (suc i) y h = slice_get-set_same xs i y (omega arith)

slice_get-set_other : {A : Type 0} (xs : List A) (i j : ℕ) (y : A) → (j ≡ i → ⊥)
    → slice_get (set xs i y) j ≡ slice_get xs j
slice_get-set_other [] i j y other = refl
slice_get-set_other (x ∷ xs) zero zero y other = absurd (other refl)
slice_get-set_other (x ∷ xs) zero (suc j) y other = refl
slice_get-set_other (x ∷ xs) (suc i) zero y other = refl
slice_get-set_other (x ∷ xs) (suc i) (suc j) y other = slice_get-set_other xs i j y (λ e. other (ap suc e))

carries-one : (i j : ℕ) → carries (2 ^ i) j ≡ eqb j i
carries-one i j = by (eqb j i) refl
  where
    by : (b : Bool) → eqb j i ≡ b → carries (2 ^ i) j ≡ b
    by true e = ap (carries (2 ^ i)) (eqb-true j i e) ∙ ap (λ (n : ℕ). eqb n 1) (bit_at-pow_same i)
    by false e = ap (λ (n : ℕ). eqb n 1) (bit_at-pow_other i j (λ same. let one = eq-eqb j i same in absurd (cc)))

-- the lowest right of a mask
pub lowest-within : (n : ℕ) → 0 < n → n < 2 ^ 25 → count_trailing_zeros 32 n < 25
lowest-within n some limit =
    let t = bit_at-trailing_zeros w32 n some (omega (arith, limit)) in
    ⊎_elim (λ (below : count_trailing_zeros 32 n < 25). below)
    (λ (above : 25 ≤ count_trailing_zeros 32 n).
    let none = carries_above n 25 (count_trailing_zeros 32 n) limit above in
    let one : carries n (count_trailing_zeros 32 n) ≡ true = ap (λ (k : ℕ). eqb k 1) t.1 in
    absurd (cc))
    (cases_lt (count_trailing_zeros 32 n) 25)

pub lowest-carried : (n : ℕ) → 0 < n → n < 2 ^ 25 → carries n (count_trailing_zeros 32 n) ≡ true
lowest-carried n some limit =
    ap (λ (k : ℕ). eqb k 1) (bit_at-trailing_zeros w32 n some (omega (arith, limit))).1

-- a right as a mask
pub one_right : (i : ℕ) → i < 25 → 1 * 2 ^ i % 4294967296 ≡ 2 ^ i
one_right i below = one_shl i 32 (omega arith)

-- a mask without one right
pub carries-without : (n i j : ℕ) → n < 2 ^ 25 → i < 25
    → carries (bit_and n (2 ^ 32 - 1 - 2 ^ i)) j ≡ (carries n j && not (eqb j i))
carries-without n i j limit below =
    carries-and_not n (2 ^ i) j (omega (arith, limit)) (pow_below i 32 (omega (arith, below)))
    ∙ ap (λ (b : Bool). carries n j && not b) (carries-one i j)

pub without-less : (n i : ℕ) → n < 2 ^ 25 → i < 25 → carries n i ≡ true → bit_and n (2 ^ 32 - 1 - 2 ^ i) < n
without-less n i limit below has =
    let most = and_le_l n (2 ^ 32 - 1 - 2 ^ i) in
    let gone : carries (bit_and n (2 ^ 32 - 1 - 2 ^ i)) i ≡ false = carries-without n i i limit below
    ∙ rw (has, eq-eqb i i refl) refl in
    ⊎_elim (λ (less : bit_and n (2 ^ 32 - 1 - 2 ^ i) < n). less)
    (λ (more : n ≤ bit_and n (2 ^ 32 - 1 - 2 ^ i)).
    let same : bit_and n (2 ^ 32 - 1 - 2 ^ i) ≡ n = omega arith in
    let kept = ap (λ (k : ℕ). carries k i) same in
    absurd (cc))
    (cases_lt (bit_and n (2 ^ 32 - 1 - 2 ^ i)) n)

-- the rights of a mask have this reason, but for those that are left
abbrev pub AreGiven : List Reason → List Reason → ℕ → ℕ → Reason → Type 0
AreGiven old new rights left given =
    (right : ℕ) (other : Reason) → slice_get old right ≡ Some other
    → slice_get new right ≡ Some (cond (carries rights right && not (carries left right)) given other)

pub given_step : (old xs : List Reason) (rights left i : ℕ) (given : Reason) → length xs ≡ 25 → left < 2 ^ 25 → i < 25
    → carries rights i ≡ true → AreGiven old xs rights left given
    → AreGiven old (set xs i given) rights (bit_and left (2 ^ 32 - 1 - 2 ^ i)) given
given_step old xs rights left i given size limit below has before right other e =
    rw (carries-without left i right limit below) (by (eqb right i) refl)
  where
    kept : (b : Bool) → b ≡ (b && not false)
    kept true = refl
    kept false = refl

    all : (b : Bool) → true ≡ not (b && not true)
    all true = refl
    all false = refl

    by : (b : Bool) → eqb right i ≡ b
        → slice_get (set xs i given) right
        ≡ Some (cond (carries rights right && not (carries left right && not b)) given other)
    by true same =
        let here = eqb-true right i same in
        let given_too : true ≡ (carries rights right && not (carries left right && not true)) =
        rw (here, has) (all (carries left i)) in
        ap (λ (k : ℕ). slice_get (set xs i given) k) here ∙ slice_get-set_same xs i given (omega (arith, size, below))
        ∙ ap (λ (b : Bool). Some (cond b given other)) given_too
    by false differs =
        slice_get-set_other xs i right given (λ here. let one = eq-eqb right i here in absurd (cc))
        ∙ before right other e
        ∙ ap (λ (b : Bool). Some (cond (carries rights right && not b) given other)) (kept (carries left right))

pub given_all : (old new : List Reason) (rights left : ℕ) (given : Reason) → left ≡ 0
    → AreGiven old new rights left given
    → (right : ℕ) (other : Reason) → slice_get old right ≡ Some other
    → slice_get new right ≡ Some (cond (carries rights right) given other)
given_all old new rights left given none before right other e =
    before right other e
    ∙ ap (λ (b : Bool). Some (cond (carries rights right && not b) given other))
    (ap (λ (n : ℕ). carries n right) none ∙ carries-zero right)
    ∙ ap (λ (b : Bool). Some (cond b given other)) (alone (carries rights right))
  where
    alone : (b : Bool) → (b && not false) ≡ b
    alone true = refl
    alone false = refl

-- 2. The scan.

-- each right in question (q) that is no longer undecided (u) has its reason
abbrev pub AreReasoned : List Reason → ℕ → ℕ → (ℕ → Reason) → Type 0
AreReasoned xs q u why =
    (right : ℕ) → right < 25
    → slice_get xs right ≡ Some (cond (carries q right && not (carries u right)) (why right) reason.Nothing)

pub reasoned_none : (q : ℕ) (why : ℕ → Reason) → AreReasoned (replicate 25 reason.Nothing) q q why
reasoned_none q why right below =
    slice_get-get_or (replicate 25 reason.Nothing) right reason.Nothing
    (omega (arith, length-replicate 25 reason.Nothing))
    ∙ ap (λ (r : Reason). Some r)
    (get_or-replicate 25 right reason.Nothing reason.Nothing (omega arith) ∙ neither (carries q right))
  where
    neither : (b : Bool) → reason.Nothing ≡ cond (b && not b) (why right) reason.Nothing
    neither true = refl
    neither false = refl

pub reasoned_step : (d : Descriptor) (t : List Entry) (ask : Asked) (a : AccessControlEntry) (old new : List Reason)
    (q u m place : ℕ) (why : ℕ → Reason) → u < 2 ^ 32 → m < 2 ^ 32 → IsDecided d t ask a u m
    → ((right : ℕ) → carries u right ≡ true → carries q right ≡ true)
    → ((right : ℕ) → carries u right ≡ true → decides right d t ask a ≡ true → why right ≡ by_ace (Some place) (Some a))
    → ((right : ℕ) (other : Reason) → slice_get old right ≡ Some other
    → slice_get new right ≡ Some (cond (carries m right) (by_ace (Some place) (Some a)) other))
    → AreReasoned old q u why → AreReasoned new q (bit_and u (2 ^ 32 - 1 - m)) why
reasoned_step d t ask a old new q u m place why p s decided within here given before right below =
    given right (cond (carries q right && not (carries u right)) (why right) reason.Nothing) (before right below)
    ∙ ap (λ (r : Reason). Some r)
    (rw (carries-and_not u m right p s, decided right)
    (by (carries q right) (carries u right) (decides right d t ask a) (within right) (here right)))
  where
    by : (c l e : Bool) → (l ≡ true → c ≡ true) → (l ≡ true → e ≡ true → why right ≡ by_ace (Some place) (Some a))
        → cond (l && e) (by_ace (Some place) (Some a)) (cond (c && not l) (why right) reason.Nothing)
        ≡ cond (c && not (l && not (l && e))) (why right) reason.Nothing
    by true true true asked first = sym (first refl refl)
    by false true true asked first = absurd (let e = asked refl in cc)
    by true true false asked first = refl
    by false true false asked first = refl
    by c false e asked first = refl

-- an ACE that does not decide is passed
pub passed_by : (test : AccessControlEntry → Bool) (a : AccessControlEntry) (rest : List AccessControlEntry) (n : ℕ)
    → test a ≡ false
    → by_ace (position_from test n (a ∷ rest)) (find test (a ∷ rest))
    ≡ by_ace (position_from test (n + 1) rest) (find test rest)
passed_by test a rest n h = rw h refl

pub decided_here : (test : AccessControlEntry → Bool) (a : AccessControlEntry) (rest : List AccessControlEntry) (n : ℕ)
    → test a ≡ true → by_ace (position_from test n (a ∷ rest)) (find test (a ∷ rest)) ≡ by_ace (Some n) (Some a)
decided_here test a rest n h = rw h refl

pub by_first-start : (test : AccessControlEntry → Bool) (aces : List AccessControlEntry)
    → by_first test aces ≡ by_ace (position_from test 0 aces) (find test aces)
by_first-start test aces = ap (λ (o : Option ℕ). by_ace o (find test aces)) (position_from-zero test aces)

-- the undecided rights have the reason that the ACEs from this place on give
abbrev pub LeavesReasons : Descriptor → List Entry → Asked → List AccessControlEntry → ℕ → List AccessControlEntry
    → ℕ → Type 0
LeavesReasons d t ask all place rest u =
    (right : ℕ) → carries u right ≡ true
    → by_first (decides right d t ask) all
    ≡ by_ace (position_from (decides right d t ask) place rest) (find (decides right d t ask) rest)

pub leaves_all : (d : Descriptor) (t : List Entry) (ask : Asked) (all : List AccessControlEntry) (u : ℕ)
    → LeavesReasons d t ask all 0 all u
leaves_all d t ask all u right h = by_first-start (decides right d t ask) all

pub leaves_step : (d : Descriptor) (t : List Entry) (ask : Asked) (all : List AccessControlEntry) (place : ℕ)
    (a : AccessControlEntry) (rest : List AccessControlEntry) (u m : ℕ)
    → u < 2 ^ 32 → m < 2 ^ 32 → IsDecided d t ask a u m → LeavesReasons d t ask all place (a ∷ rest) u
    → LeavesReasons d t ask all (place + 1) rest (bit_and u (2 ^ 32 - 1 - m))
leaves_step d t ask all place a rest u m p s decided before right h =
    let both = and_parts (carries u right) (not (carries m right)) (sym (carries-and_not u m right p s) ∙ h) in
    before right both.0
    ∙ passed_by (decides right d t ask) a rest place
    (undecided (carries u right) (decides right d t ask a) both.0 (ap not (sym (decided right)) ∙ both.1))
  where
    undecided : (l e : Bool) → l ≡ true → not (l && e) ≡ true → e ≡ false
    undecided l false h k = refl
    undecided true true h k = absurd (cc)
    undecided false true h k = absurd (cc)

-- where no ACE is left, or no right, each right in question has its reason

pub reasoned_all : (xs : List Reason) (q u : ℕ) (why : ℕ → Reason) → AreReasoned xs q u why
    → ((right : ℕ) → carries u right ≡ true → why right ≡ reason.Nothing)
    → (right : ℕ) → right < 25 → slice_get xs right ≡ Some (cond (carries q right) (why right) reason.Nothing)
reasoned_all xs q u why all none right below =
    all right below ∙ ap (λ (r : Reason). Some r) (by (carries q right) (carries u right) (none right))
  where
    by : (c l : Bool) → (l ≡ true → why right ≡ reason.Nothing)
        → cond (c && not l) (why right) reason.Nothing ≡ cond c (why right) reason.Nothing
    by true true h = sym (h refl)
    by true false h = refl
    by false l h = refl

-- 3. All reasons.

-- where each right below 24 is wanted
abbrev pub all_asked : Asked → Asked
all_asked ask = record ask { wanted = 0xff_ffff; maximum = false }

-- the rights that the ACEs alone can decide
abbrev pub open_rights : Descriptor → Holder → Asked → ℕ
open_rights d holder ask =
    bit_and (bit_and 0xff_ffff (permitted_mask d holder ask))
    (2 ^ 32 - 1 - bit_or (without_ace_mask 0xff_ffff d holder.entries ask) 0x100_0000)

pub open_rights-are : (d : Descriptor) (holder : Holder) (ask : Asked)
    → undecided_of d holder (all_asked ask) ≡ open_rights d holder ask
unfolding permitted_mask without_ace_mask
open_rights-are d holder ask = refl

below_24 : (right : ℕ) → right < 25 → carries 0xff_ffff right ≡ not (eqb right 24)
below_24 right below = agree_below_at (carries 0xff_ffff) (λ n. not (eqb n 24)) 25 right refl below

owners : (right : ℕ) → right < 25 → carries 0x6_0000 right ≡ (eqb right 17 || eqb right 18)
owners right below = agree_below_at (carries 0x6_0000) (λ n. eqb n 17 || eqb n 18) 25 right refl below

privileged : (right : ℕ) → right < 25 → carries 0x108_0000 right ≡ (eqb right 19 || eqb right 24)
privileged right below = agree_below_at (carries 0x108_0000) (λ n. eqb n 19 || eqb n 24) 25 right refl below

-- the masks, right by right

carries-open : (d : Descriptor) (holder : Holder) (ask : Asked) → (right : ℕ) → right < 25
    → carries (open_rights d holder ask) right
    ≡ (((carries 0xff_ffff right || false) && (eqb right 24 || label_allows right d holder ask))
    && not (cond (eqb right 24) ask.security (needs_no_ace right d holder.entries ask) || eqb right 24))
carries-open d holder ask right below =
    ap (λ (n : ℕ). carries n right) (sym (open_rights-are d holder ask))
    ∙ carries-undecided d holder (all_asked ask) (lit< tt) right below

carries-ungranted : (d : Descriptor) (t : List Entry) (ask : Asked) (right : ℕ) → right < 25
    → carries (without_ace_mask 0xff_ffff d t ask) right ≡ cond (eqb right 24) ask.security (needs_no_ace right d t ask)
unfolding without_ace_mask
carries-ungranted d t ask right below = carries-without_ace d t (all_asked ask) right below (λ one. refl)

carries-refused : (d : Descriptor) (holder : Holder) (ask : Asked) (p right : ℕ)
    → p ≡ permitted_mask d holder ask → p < 2 ^ 32 → right < 25
    → carries (bit_and 0xff_ffff (2 ^ 32 - 1 - p)) right
    ≡ (carries 0xff_ffff right && not (eqb right 24 || label_allows right d holder ask))
carries-refused d holder ask p right is wide below =
    carries-and_not 0xff_ffff p right (lit< tt) wide
    ∙ ap (λ (b : Bool). carries 0xff_ffff right && not b)
    (ap (λ (n : ℕ). carries n right) is ∙ carries-permitted d holder ask right below)

-- the order of the definition: right 24 (l), a right of owners (o), WRITE_OWNER (w)
in_order : (l o w security take open_dacl owned allowed : Bool) (label by : Reason)
    → (l ≡ true → o ≡ false) → (o ≡ true → w ≡ false)
    → cond (not l && not (l || allowed)) label
    (cond (open_dacl && not l) reason.NoDacl
    (cond (cond l security (open_dacl || (o && owned) || (w && take)) && (w || l)) reason.Privilege
    (cond (cond l security (open_dacl || (o && owned) || (w && take)) && o) reason.Owner
    (cond (((not l || false) && (l || allowed))
    && not (cond l security (open_dacl || (o && owned) || (w && take)) || l)) by reason.Nothing))))
    ≡ cond l (cond security reason.Privilege reason.Nothing)
    (cond (not allowed) label
    (cond open_dacl reason.NoDacl (cond (o && owned) reason.Owner (cond (w && take) reason.Privilege by))))
in_order true true w s t n k a label by h g = absurd (let e = h refl in cc)
in_order true false true true t true k a label by h g = refl
in_order true false true true t false k a label by h g = refl
in_order true false true false t true k a label by h g = refl
in_order true false true false t false k a label by h g = refl
in_order true false false true t true k a label by h g = refl
in_order true false false true t false k a label by h g = refl
in_order true false false false t true k a label by h g = refl
in_order true false false false t false k a label by h g = refl
in_order false o w s t n k false label by h g = refl
in_order false o w s t true k true label by h g = refl
in_order false true true s t false k true label by h g = absurd (let e = g refl in cc)
in_order false true false s t false true true label by h g = refl
in_order false true false s t false false true label by h g = refl
in_order false false true s true false k true label by h g = refl
in_order false false true s false false k true label by h g = refl
in_order false false false s t false k true label by h g = refl

not_owners : (right : ℕ) → eqb right 24 ≡ true → (eqb right 17 || eqb right 18) ≡ false
not_owners right e = ap (λ (n : ℕ). eqb n 17 || eqb n 18) (eqb-true right 24 e)

not_write_owner : (right : ℕ) → (eqb right 17 || eqb right 18) ≡ true → eqb right 19 ≡ false
not_write_owner right e =
    ⊎_elim (λ (one : eqb right 17 ≡ true). ap (λ (n : ℕ). eqb n 19) (eqb-true right 17 one))
    (λ (other : eqb right 18 ≡ true). ap (λ (n : ℕ). eqb n 19) (eqb-true right 18 other))
    (or_cases (eqb right 17) (eqb right 18) e)

pub reason_is : (d : Descriptor) (holder : Holder) (ask : Asked) (p right : ℕ)
    → p ≡ permitted_mask d holder ask → p < 2 ^ 32 → right < 25
    → cond (carries (bit_and 0xff_ffff (2 ^ 32 - 1 - p)) right) (reason.Label (label_place d))
    (cond (carries (mask_if (is_open d.dacl) 0xff_ffff) right) reason.NoDacl
    (cond (carries (bit_and (without_ace_mask 0xff_ffff d holder.entries ask) 0x108_0000) right) reason.Privilege
    (cond (carries (bit_and (without_ace_mask 0xff_ffff d holder.entries ask) 0x6_0000) right) reason.Owner
    (cond (carries (open_rights d holder ask) right)
    (by_first (decides right d holder.entries ask) (listed_aces d.dacl)) reason.Nothing))))
    ≡ reason_of right d holder ask
unfolding reason_of
reason_is d holder ask p right is wide below =
    rw (
      carries-refused d holder ask p right is wide below,
      carries-mask_if (is_open d.dacl) 0xff_ffff right,
      carries-and (without_ace_mask 0xff_ffff d holder.entries ask) 0x108_0000 right,
      carries-and (without_ace_mask 0xff_ffff d holder.entries ask) 0x6_0000 right,
      carries-ungranted d holder.entries ask right below,
      carries-open d holder ask right below,
      below_24 right below,
      owners right below,
      privileged right below,
    )
    (in_order (eqb right 24) (eqb right 17 || eqb right 18) (eqb right 19) ask.security ask.take_ownership
    (is_open d.dacl) (is_owned d holder.entries) (label_allows right d holder ask) (reason.Label (label_place d))
    (by_first (decides right d holder.entries ask) (listed_aces d.dacl)) (not_owners right) (not_write_owner right))

same_reasons : (xs ys : List Reason) → length xs ≡ length ys
    → ((i : ℕ) → i < length xs → slice_get xs i ≡ slice_get ys i) → xs ≡ ys
same_reasons [] [] long same = refl
same_reasons [] (y ∷ ys) long same = absurd (omega arith)
same_reasons (x ∷ xs) [] long same = absurd (omega arith)
same_reasons (x ∷ xs) (y ∷ ys) long same =
    let first = same 0 (omega arith) in
    let rest = same_reasons xs ys (omega arith) (λ i below. same (suc i) (omega arith)) in
    cc

-- each right has its reason
pub all_reasons : (xs : List Reason) (d : Descriptor) (holder : Holder) (ask : Asked) → length xs ≡ 25
    → ((right : ℕ) → right < 25 → slice_get xs right ≡ Some (reason_of right d holder ask))
    → xs ≡ reasons d holder ask
unfolding reasons
all_reasons xs d holder ask long each =
    let why = λ (right : ℕ). reason_of right d holder ask in
    let many : length (map why (range_with_len 0 25)) ≡ 25 = length-map (range_with_len 0 25) why
    ∙ length-range_with_len 0 25 in
    same_reasons xs (map why (range_with_len 0 25)) (long ∙ sym many) (λ i below.
    each i (omega arith)
    ∙ sym (slice_get-get_or (map why (range_with_len 0 25)) i reason.Nothing (omega arith)
    ∙ ap (λ (r : Reason). Some r) (get_or-map-range_with_len why 0 25 i i reason.Nothing (omega arith) (omega arith))))

-- 4. What the reasons say.

grants-from : (test : AccessControlEntry → Bool) (n : ℕ) (aces : List AccessControlEntry)
    → grants (by_ace (position_from test n aces) (find test aces)) ≡ allows (find test aces)
grants-from test n [] = refl
grants-from test n (a ∷ aces) = by (test a) (grants-from test (n + 1) aces)
  where
    kind : (b : Bool) → grants (cond b (reason.Granted n) (reason.Denied n)) ≡ b
    kind true = refl
    kind false = refl

    by : (b : Bool) → grants (by_ace (position_from test (n + 1) aces) (find test aces)) ≡ allows (find test aces)
        → grants (by_ace (cond b (Some n) (position_from test (n + 1) aces)) (cond b (Some a) (find test aces)))
        ≡ allows (cond b (Some a) (find test aces))
    by true rest = kind (is_allow a.kind)
    by false rest = rest

pub grants-is : (right : ℕ) (d : Descriptor) (holder : Holder) (ask : Asked)
    → grants (reason_of right d holder ask) ≡ granted right d holder ask
unfolding reason_of granted
grants-is right d holder ask =
    by (eqb right 24) ask.security (label_allows right d holder ask) (is_open d.dacl)
    ((eqb right 17 || eqb right 18) && is_owned d holder.entries) (eqb right 19 && ask.take_ownership)
    (by_first (decides right d holder.entries ask) (listed_aces d.dacl)) (is_allowed right d holder.entries ask)
    (ap grants (by_first-start (decides right d holder.entries ask) (listed_aces d.dacl))
    ∙ grants-from (decides right d holder.entries ask) 0 (listed_aces d.dacl))
  where
    by : (l s a n o w : Bool) (first : Reason) (allowed : Bool) → grants first ≡ allowed
        → grants (cond l (cond s reason.Privilege reason.Nothing)
        (cond (not a) (reason.Label (label_place d))
        (cond n reason.NoDacl (cond o reason.Owner (cond w reason.Privilege first)))))
        ≡ cond l s (a && ((n || o || w) || allowed))
    by true true a n o w f g h = refl
    by true false a n o w f g h = refl
    by false s false n o w f g h = refl
    by false s true true o w f g h = refl
    by false s true false true w f g h = refl
    by false s true false false true f g h = refl
    by false s true false false false f g h = h

-- an ACE for places past the end
no_ace : AccessControlEntry
no_ace = record {
  kind = kinds.Allow;
  flags = 0;
  mask = 0;
  object = None;
  inherited = None;
  sid = record { authority = 0; subs = [] };
}

-- the first that passes stands at its place
found_first : (test : AccessControlEntry → Bool) (aces : List AccessControlEntry)
    → position_or_len test aces < length aces
    → find test aces ≡ Some (get_or aces (position_or_len test aces) no_ace)
found_first test aces within = find_at test aces ∙ slice_get-get_or aces (position_or_len test aces) no_ace within

none_before : (test : AccessControlEntry → Bool) (aces : List AccessControlEntry) (k : ℕ) (other : AccessControlEntry)
    → k < position_or_len test aces → slice_get aces k ≡ Some other → test other ≡ false
none_before test aces k other before at =
    ap test (sym (get_or_from_slice_get aces k other no_ace at)) ∙ fails_before_first test aces k no_ace before

denies : (kind : AceKind) → is_access kind ≡ true → is_allow kind ≡ false → is_deny kind ≡ true
denies kinds.Allow h e = sym e
denies kinds.Deny h e = refl
denies kinds.Audit h e = h
denies kinds.ObjectAllow h e = sym e
denies kinds.ObjectDeny h e = refl
denies kinds.ObjectAudit h e = h
denies kinds.Label h e = h

applies-access : (a : AccessControlEntry) (d : Descriptor) (t : List Entry) (ask : Asked) → applies a d t ask ≡ true
    → is_access a.kind ≡ true
unfolding applies
applies-access a d t ask h =
    (and_parts (is_access a.kind) (not (is_inherit_only a.flags)) (and_parts _ _ (and_parts _ _ h).0).0).0

decided_first : (right : ℕ) (d : Descriptor) (holder : Holder) (ask : Asked)
    → NamesAce right d holder ask (by_first (decides right d holder.entries ask) (listed_aces d.dacl))
decided_first right d holder ask = by (ltb at (length aces)) refl
  where
    test : AccessControlEntry → Bool
    test = decides right d holder.entries ask

    aces : List AccessControlEntry
    aces = listed_aces d.dacl

    at : ℕ
    at = position_or_len test aces

    kind : at < length aces → (b : Bool) → is_allow (get_or aces at no_ace).kind ≡ b
        → NamesAce right d holder ask (cond b (reason.Granted at) (reason.Denied at))
    kind within true e =
        let both = and_parts _ _ (passes_at_first test aces no_ace within) in
        record {
          ace = get_or aces at no_ace;
          here = slice_get-get_or aces at no_ace within;
          applies = both.0;
          carried = both.1;
          kind = e;
          first = λ k other. none_before test aces k other;
        }
    kind within false e =
        let both = and_parts _ _ (passes_at_first test aces no_ace within) in
        record {
          ace = get_or aces at no_ace;
          here = slice_get-get_or aces at no_ace within;
          applies = both.0;
          carried = both.1;
          kind = denies _ (applies-access _ d holder.entries ask both.0) e;
          first = λ k other. none_before test aces k other;
        }

    by : (b : Bool) → ltb at (length aces) ≡ b
        → NamesAce right d holder ask (by_ace (cond b (Some at) None) (find test aces))
    by false e = nothing (find test aces)
      where
        nothing : (o : Option AccessControlEntry) → NamesAce right d holder ask (by_ace None o)
        nothing None = tt
        nothing (Some a) = tt
    by true e =
        let within : at < length aces = ltb-true at (length aces) e in
        subst (λ (o : Option AccessControlEntry). NamesAce right d holder ask (by_ace (Some at) o))
        (sym (found_first test aces within)) (kind within (is_allow (get_or aces at no_ace).kind) refl)

refused_at : (right : ℕ) (d : Descriptor) (holder : Holder) (ask : Asked) → label_allows right d holder ask ≡ false
    → NamesAce right d holder ask (reason.Label (label_place d))
refused_at right d holder ask refused = by (ltb at (length aces)) refl
  where
    aces : List AccessControlEntry
    aces = listed_aces d.sacl

    at : ℕ
    at = position_or_len is_mandatory_label aces

    by : (b : Bool) → ltb at (length aces) ≡ b → NamesAce right d holder ask (reason.Label (cond b (Some at) None))
    by false e = tt
    by true e =
        let within : at < length aces = ltb-true at (length aces) e in
        record {
          ace = get_or aces at no_ace;
          here = slice_get-get_or aces at no_ace within;
          label = passes_at_first is_mandatory_label aces no_ace within;
          first = λ k other. none_before is_mandatory_label aces k other;
          refused = refused;
        }

pub names_ace : (right : ℕ) (d : Descriptor) (holder : Holder) (ask : Asked)
    → NamesAce right d holder ask (reason_of right d holder ask)
unfolding reason_of
names_ace right d holder ask =
    by (eqb right 24) ask.security (label_allows right d holder ask) refl (is_open d.dacl)
    ((eqb right 17 || eqb right 18) && is_owned d holder.entries) (eqb right 19 && ask.take_ownership)
  where
    by : (l s a : Bool) → label_allows right d holder ask ≡ a → (n o w : Bool)
        → NamesAce right d holder ask (cond l (cond s reason.Privilege reason.Nothing)
        (cond (not a) (reason.Label (label_place d))
        (cond n reason.NoDacl (cond o reason.Owner (cond w reason.Privilege
        (by_first (decides right d holder.entries ask) (listed_aces d.dacl)))))))
    by true true a e n o w = tt
    by true false a e n o w = tt
    by false s false e n o w = refused_at right d holder ask e
    by false s true e true o w = tt
    by false s true e false true w = tt
    by false s true e false false true = tt
    by false s true e false false false = decided_first right d holder ask

-- 5. The comparisons.

-- what has a reason without further ACEs is decided, or not looked for
have_reason : (c s allowed without_ace decided : Bool) → (not allowed || without_ace || decided) ≡ true
    → (not (((c || false) && (false || allowed)) && not (without_ace || false)) || decided) ≡ true
have_reason false s a w d h = refl
have_reason true s false w d h = refl
have_reason true s true true d h = refl
have_reason true s true false d h = h

pub reasons_scan-le : (d : Descriptor) (holder : Holder) (ask : Asked)
    → scan_need (open_rights d holder ask) d holder.entries ask (listed_aces d.dacl) ≤ reasons_need d holder ask
unfolding scan_need reasons_need all_below
reasons_scan-le d holder ask =
    least_mono (length (listed_aces d.dacl)) (λ k. all_below 25 (open_is_decided k))
    (λ k. all_below 24 (reason_is_known k))
    (λ k all. and_from (open_is_decided k 24) (all_below 24 (open_is_decided k)) (last k)
    (all_below_mono 24 (open_is_decided k) (reason_is_known k) (step k) all))
  where
    reason_is_known : ℕ → ℕ → Bool
    reason_is_known k right = has_reason right d holder ask (take k (listed_aces d.dacl))

    open_is_decided : ℕ → ℕ → Bool
    open_is_decided k right =
        not (carries (open_rights d holder ask) right)
        || list_any (decides right d holder.entries ask) (take k (listed_aces d.dacl))

    last : (k : ℕ) → open_is_decided k 24 ≡ true
    last k = rw (carries-open d holder ask 24 (lit< tt)) refl

    step : (k i : ℕ) → i < 24 → reason_is_known k i ≡ true → open_is_decided k i ≡ true
    step k i below known =
        rw (carries-open d holder ask i (omega arith), ne_eqb i 24 (λ e. omega (arith, e)))
        (have_reason (carries 0xff_ffff i) ask.security (label_allows i d holder ask)
        (needs_no_ace i d holder.entries ask)
        (list_any (decides i d holder.entries ask) (take k (listed_aces d.dacl))) known)

pub reasons_need-le : (d : Descriptor) (holder : Holder) (ask : Asked)
    → reasons_need d holder ask ≤ length (listed_aces d.dacl)
unfolding reasons_need
reasons_need-le d holder ask = least_le (length (listed_aces d.dacl)) _
