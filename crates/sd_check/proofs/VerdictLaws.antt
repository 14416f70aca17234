-- The masks of a check are those of the verdict.
use Rattle.std.proofs.Common.{◌≡◌, ◌<◌, ◌≤◌, ℕ, zero, suc, ◌+◌, ◌-◌, ◌*◌, ◌^◌, Bool, true, false, not, ◌&&◌, ◌||◌, cond}
use Rattle.std.proofs.Common.{eqb, List, length, take, refl, sym, ap, ◌∙◌, ⊎_elim, arith, lit<, bit_and, bit_or}
use Rattle.std.specs.List.{list_any}
use Rattle.std.proofs.lemmas.Bool.{agree_below, agree_below_at, eq-eqb, eqb-true, ne_eqb, or_cases, or_left, or_right}
use Rattle.std.proofs.lemmas.Nat.{and_le_l, mul-le, or_lt, pow_pos}
use Rattle.sd_rights.specs.Mapping.{GenericMapping, carries, mask_if}
use Rattle.sd_token.specs.Token.{Entry, Holder}
use Rattle.sd_view.specs.Descriptor.{Descriptor}
use Rattle.sd_check.specs.Acl.{listed_aces}
use Rattle.sd_check.specs.Ask.{AreRights, Asked}
use Rattle.sd_check.specs.Granted.{decides, granted, is_allowed, is_open, is_owned, needs_no_ace}
use Rattle.sd_check.specs.Need.{check_bound, in_question, least, need, owner_matters}
use Rattle.sd_check.specs.Inner.Scan.{HasGranted, asks_owner, left_mask, permitted_mask, question_of, scan_need}
use Rattle.sd_check.specs.Inner.Scan.{undecided_of, without_ace_mask}
use Rattle.sd_check.specs.Label.{is_left, is_lower, label, label_allows}
use Rattle.sd_check.specs.declared.label.Label.{Label}
use Rattle.sd_check.specs.Verdict.{missing, verdict, won}
use Rattle.sd_check.specs.declared.verdict.Verdict.TheVariants.{Granted, Denied}
use Rattle.sd_check.proofs.Masks.{carries-and, carries-or, carries-and_not, carries-mask_if, has_owner_right}
use Rattle.sd_check.proofs.Masks.{is_rights_below}
use Rattle.sd_check.proofs.ScanLaws.{all_below_mono, least_mono}

-- 1. What is granted without an ACE: the four parts of the mask, right by right.

parts : Bool → Bool → Bool → Bool → ℕ
parts security take_ownership owned is_null =
    bit_or (bit_or (bit_or (mask_if security 0x100_0000) (mask_if take_ownership 0x8_0000)) (mask_if owned 0x6_0000))
    (mask_if is_null 0xff_ffff)

first : Bool → Bool → Bool → Bool → ℕ → Bool
first security take_ownership owned is_null right =
    cond (eqb right 24) security
    (is_null || ((eqb right 17 || eqb right 18) && owned) || (eqb right 19 && take_ownership))

parts_agree : (s t o n : Bool) → agree_below (carries (parts s t o n)) (first s t o n) 25 ≡ true
unfolding parts first
parts_agree true true true true = refl
parts_agree true true true false = refl
parts_agree true true false true = refl
parts_agree true true false false = refl
parts_agree true false true true = refl
parts_agree true false true false = refl
parts_agree true false false true = refl
parts_agree true false false false = refl
parts_agree false true true true = refl
parts_agree false true true false = refl
parts_agree false true false true = refl
parts_agree false true false false = refl
parts_agree false false true true = refl
parts_agree false false true false = refl
parts_agree false false false true = refl
parts_agree false false false false = refl

carries-question : (ask : Asked) (right : ℕ) → carries (question_of ask) right ≡ in_question right ask
carries-question ask right =
    carries-or ask.wanted (mask_if ask.maximum ask.mapping.all) right
    ∙ ap (λ (b : Bool). carries ask.wanted right || b) (carries-mask_if ask.maximum ask.mapping.all right)

-- the owner is asked for exactly where it matters who it is
pub asks_owner-is : (d : Descriptor) (ask : Asked) → asks_owner (question_of ask) d.dacl ≡ owner_matters d ask
asks_owner-is d ask =
    rw (has_owner_right (question_of ask), carries-question ask 17, carries-question ask 18) refl

-- a right in question that an owner has (r) makes it matter (m) who the owner is
owner_part : (null r m owned : Bool) → (r ≡ true → m ≡ true)
    → (null || (r && ((not null && m) && owned))) ≡ (null || (r && owned))
owner_part true r m owned h = refl
owner_part false false m owned h = refl
owner_part false true m owned h = rw (h refl) refl

owner_asked : (ask : Asked) (right : ℕ) → in_question right ask ≡ true → (eqb right 17 || eqb right 18) ≡ true
    → (in_question 17 ask || in_question 18 ask) ≡ true
owner_asked ask right asked one =
    ⊎_elim (λ (reads : eqb right 17 ≡ true).
    or_left _ _ (ap (λ (n : ℕ). in_question n ask) (sym (eqb-true right 17 reads)) ∙ asked))
    (λ (writes : eqb right 18 ≡ true).
    or_right _ _ (ap (λ (n : ℕ). in_question n ask) (sym (eqb-true right 18 writes)) ∙ asked))
    (or_cases (eqb right 17) (eqb right 18) one)

-- the mask has those rights in question that need no ACE
pub carries-without_ace : (d : Descriptor) (t : List Entry) (ask : Asked) (right : ℕ) → right < 25
    → ((eqb right 17 || eqb right 18) ≡ true → (in_question 17 ask || in_question 18 ask) ≡ true)
    → carries (without_ace_mask (question_of ask) d t ask) right
    ≡ cond (eqb right 24) ask.security (needs_no_ace right d t ask)
unfolding without_ace_mask parts first
carries-without_ace d t ask right below asked =
    let owned = asks_owner (question_of ask) d.dacl && is_owned d t in
    agree_below_at (carries (parts ask.security ask.take_ownership owned (is_open d.dacl)))
    (first ask.security ask.take_ownership owned (is_open d.dacl)) 25 right
    (parts_agree ask.security ask.take_ownership owned (is_open d.dacl)) below
    ∙ ap (λ (b : Bool). cond (eqb right 24) ask.security (b || (eqb right 19 && ask.take_ownership)))
    (ap (λ (b : Bool). is_open d.dacl || ((eqb right 17 || eqb right 18) && (b && is_owned d t))) (asks_owner-is d ask)
    ∙ owner_part (is_open d.dacl) (eqb right 17 || eqb right 18) (in_question 17 ask || in_question 18 ask)
    (is_owned d t) asked)

mask_if-lt : (b : Bool) (m k : ℕ) → m < 2 ^ k → mask_if b m < 2 ^ k
mask_if-lt true m k h = h
mask_if-lt false m k h = pow_pos k

without_ace_mask-lt : (q : ℕ) (d : Descriptor) (t : List Entry) (ask : Asked) → without_ace_mask q d t ask < 2 ^ 25
unfolding without_ace_mask
without_ace_mask-lt q d t ask =
    or_lt 25 _ _
    (or_lt 25 _ _
    (or_lt 25 _ _ (mask_if-lt ask.security 0x100_0000 25 (lit< tt))
    (mask_if-lt ask.take_ownership 0x8_0000 25 (lit< tt)))
    (mask_if-lt (asks_owner q d.dacl && is_owned d t) 0x6_0000 25 (lit< tt)))
    (mask_if-lt (is_open d.dacl) 0xff_ffff 25 (lit< tt))

-- 2. What the ACEs alone can decide.

and_when : (p g h : Bool) → (p ≡ true → g ≡ h) → (p && g) ≡ (p && h)
and_when true g h e = e refl
and_when false g h e = refl

and_both : (p l g h : Bool) → (p ≡ true → g ≡ h) → ((p && l) && g) ≡ ((p && l) && h)
and_both true l g h e = ap (λ (b : Bool). l && b) (e refl)
and_both false l g h e = refl

question-lt : (ask : Asked) → AreRights ask → question_of ask < 2 ^ 25
question-lt ask h = or_lt 25 _ _ h.wanted (mask_if-lt ask.maximum ask.mapping.all 25 h.all)

limited-lt : (d : Descriptor) (h : Holder) (ask : Asked) → question_of ask < 2 ^ 25
    → bit_and (question_of ask) (permitted_mask d h ask) < 2 ^ 25
limited-lt d h ask limit =
    let most = and_le_l (question_of ask) (permitted_mask d h ask) in
    omega arith

pub undecided-lt : (d : Descriptor) (h : Holder) (ask : Asked) → AreRights ask → undecided_of d h ask < 2 ^ 25
undecided-lt d h ask narrow =
    let q = bit_and (question_of ask) (permitted_mask d h ask) in
    let most = and_le_l q (2 ^ 32 - 1 - bit_or (without_ace_mask (question_of ask) d h.entries ask) 0x100_0000) in
    let limit = limited-lt d h ask (question-lt ask narrow) in
    omega arith

security_bit : (right : ℕ) → right < 25 → carries 0x100_0000 right ≡ eqb right 24
security_bit right below = agree_below_at (carries 0x100_0000) (λ n. eqb n 24) 25 right refl below

carries-left : (l : Label) (m : GenericMapping) (right : ℕ) → right < 25
    → carries (left_mask l m) right ≡ (eqb right 24 || is_left right l m)
carries-left l m right below =
    let reads = mask_if (not (carries l.policy 1)) m.read in
    let writes = mask_if (not (carries l.policy 0)) m.write in
    let executes = mask_if (not (carries l.policy 2)) m.execute in
    carries-or 0x100_0000 (bit_or (bit_or reads writes) executes) right
    ∙ rw (
      security_bit right below,
      carries-or (bit_or reads writes) executes right,
      carries-or reads writes right,
      carries-mask_if (not (carries l.policy 1)) m.read right,
      carries-mask_if (not (carries l.policy 0)) m.write right,
      carries-mask_if (not (carries l.policy 2)) m.execute right,
    )
    (regroup (eqb right 24) (not (carries l.policy 1) && carries m.read right)
    (not (carries l.policy 0) && carries m.write right) (not (carries l.policy 2) && carries m.execute right))
  where
    regroup : (s r w x : Bool) → (s || ((r || w) || x)) ≡ (s || (r || w || x))
    regroup true r w x = refl
    regroup false true w x = refl
    regroup false false w x = refl

-- the mask has the rights that the label allows, and right 24
pub carries-permitted : (d : Descriptor) (h : Holder) (ask : Asked) (right : ℕ) → right < 25
    → carries (permitted_mask d h ask) right ≡ (eqb right 24 || label_allows right d h ask)
unfolding permitted_mask
carries-permitted d h ask right below = by (is_lower h.level (label d))
  where
    all : carries 0x1ff_ffff right ≡ true
    all = agree_below_at (carries 0x1ff_ffff) (λ n. true) 25 right refl below

    any : (s : Bool) → true ≡ (s || true)
    any true = refl
    any false = refl

    by : (lower : Bool)
        → carries (cond lower (left_mask (label d) ask.mapping) 0x1ff_ffff) right
        ≡ (eqb right 24 || (not lower || is_left right (label d) ask.mapping))
    by true = carries-left (label d) ask.mapping right below
    by false = all ∙ any (eqb right 24)

pub carries-undecided : (d : Descriptor) (h : Holder) (ask : Asked) → question_of ask < 2 ^ 25 → (right : ℕ)
    → right < 25
    → carries (undecided_of d h ask) right
    ≡ ((in_question right ask && (eqb right 24 || label_allows right d h ask))
    && not (cond (eqb right 24) ask.security (needs_no_ace right d h.entries ask) || eqb right 24))
carries-undecided d h ask limit right below =
    let q = question_of ask in
    let p = permitted_mask d h ask in
    let without_ace = without_ace_mask q d h.entries ask in
    let wide : bit_and q p < 2 ^ 32 = let k = limited-lt d h ask limit in omega arith in
    let without_ace_wide : bit_or without_ace 0x100_0000 < 2 ^ 32 =
    let k : bit_or without_ace 0x100_0000 < 2 ^ 25 = or_lt 25 _ _ (without_ace_mask-lt q d h.entries ask) (lit< tt) in
    omega arith in
    carries-and_not (bit_and q p) (bit_or without_ace 0x100_0000) right wide without_ace_wide
    ∙ rw (
      carries-and q p right,
      carries-question ask right,
      carries-permitted d h ask right below,
      carries-or without_ace 0x100_0000 right,
      security_bit right below,
    )
    (and_both (in_question right ask) _ _ _
    (λ asked. ap (λ (b : Bool). not (b || eqb right 24))
    (carries-without_ace d h.entries ask right below (owner_asked ask right asked))))

-- 3. The rights in question that are granted.

final : (q last security label without_ace allowed : Bool) → q ≡ true
    → ((cond last security without_ace
    || (((q && (last || label)) && not (cond last security without_ace || last)) && allowed)) && (last || label))
    ≡ cond last security (label && (without_ace || allowed))
final false last security label without_ace allowed h = absurd (cc)
final true true true label without_ace allowed h = refl
final true true false label without_ace allowed h = refl
final true false security true true allowed h = refl
final true false security true false true h = refl
final true false security true false false h = refl
final true false security false true allowed h = refl
final true false security false false allowed h = refl

-- what the scan gives
abbrev pub IsScanned : Descriptor → Holder → Asked → ℕ → Type 0
IsScanned d h ask m =
    (right : ℕ) → carries m right ≡ (carries (undecided_of d h ask) right && is_allowed right d h.entries ask)

pub granted_bit : (d : Descriptor) (h : Holder) (ask : Asked) (m : ℕ) → AreRights ask → IsScanned d h ask m
    → HasGranted d h ask (bit_and (bit_or (without_ace_mask (question_of ask) d h.entries ask) m)
    (permitted_mask d h ask))
unfolding granted
granted_bit d h ask m narrow scanned right below asked =
    let without_ace = without_ace_mask (question_of ask) d h.entries ask in
    carries-and (bit_or without_ace m) (permitted_mask d h ask) right
    ∙ rw (
      carries-or without_ace m right,
      scanned right,
      carries-without_ace d h.entries ask right below (owner_asked ask right asked),
      carries-undecided d h ask (question-lt ask narrow) right below,
      carries-permitted d h ask right below,
    )
    (final (in_question right ask) (eqb right 24) ask.security (label_allows right d h ask)
    (needs_no_ace right d h.entries ask) (is_allowed right d h.entries ask) asked)

-- 4. The verdict.

pub missing_is : (d : Descriptor) (h : Holder) (ask : Asked) (m : ℕ) → AreRights ask → m < 2 ^ 32
    → HasGranted d h ask m → bit_and ask.wanted (2 ^ 32 - 1 - m) ≡ missing d h ask
unfolding missing
missing_is d h ask m narrow wide has =
    let limit = narrow.wanted in
    is_rights_below 25 _ _ (let most = and_le_l ask.wanted (2 ^ 32 - 1 - m) in omega arith)
    (λ i below. carries-and_not ask.wanted m i (omega arith) wide
    ∙ and_when (carries ask.wanted i) (not (carries m i)) (not (granted i d h ask))
    (λ here. ap not (has i below (or_left (carries ask.wanted i) (ask.maximum && carries ask.mapping.all i) here))))

pub won_is : (d : Descriptor) (h : Holder) (ask : Asked) (m : ℕ) → AreRights ask → HasGranted d h ask m
    → bit_or ask.wanted (bit_and (mask_if ask.maximum ask.mapping.all) m) ≡ won d h ask
unfolding won
won_is d h ask m narrow has =
    let pool = mask_if ask.maximum ask.mapping.all in
    is_rights_below 25 _ _
    (or_lt 25 _ _ narrow.wanted
    (let most = and_le_l pool m in
    let limit = mask_if-lt ask.maximum ask.mapping.all 25 narrow.all in
    omega arith))
    (λ i below. carries-or ask.wanted (bit_and pool m) i
    ∙ ap (λ (b : Bool). carries ask.wanted i || b)
    (carries-and pool m i
    ∙ rw (carries-mask_if ask.maximum ask.mapping.all i)
    (and_when (ask.maximum && carries ask.mapping.all i) (carries m i) (granted i d h ask)
    (λ here. has i below (or_right (carries ask.wanted i) (ask.maximum && carries ask.mapping.all i) here)))))

pub denied : (d : Descriptor) (h : Holder) (ask : Asked) (m : ℕ) → m ≡ missing d h ask → (m ≡ 0 → ⊥)
    → Denied m ≡ verdict d h ask
unfolding verdict
denied d holder ask m h some =
    rw (ne_eqb (missing d holder ask) 0 (λ e. some (h ∙ e))) (ap (λ (n : ℕ). Denied n) h)

pub denied_none : (d : Descriptor) (h : Holder) (ask : Asked) (m w : ℕ)
    → m ≡ missing d h ask → m ≡ 0 → w ≡ won d h ask → w ≡ 0 → Denied 0 ≡ verdict d h ask
unfolding verdict
denied_none d holder ask m w h none k empty =
    rw (eq-eqb (missing d holder ask) 0 (sym h ∙ none), eq-eqb (won d holder ask) 0 (sym k ∙ empty)) refl

pub granted_won : (d : Descriptor) (h : Holder) (ask : Asked) (m w : ℕ)
    → m ≡ missing d h ask → m ≡ 0 → w ≡ won d h ask → (w ≡ 0 → ⊥) → Granted w ≡ verdict d h ask
unfolding verdict
granted_won d holder ask m w h none k some =
    rw (eq-eqb (missing d holder ask) 0 (sym h ∙ none), ne_eqb (won d holder ask) 0 (λ e. some (k ∙ e)))
    (ap (λ (n : ℕ). Granted n) k)

-- 5. The comparisons.

-- what is settled is decided, or not looked for
settle : (q last security label without_ace decided : Bool) → (not q || (last || without_ace || decided)) ≡ true
    → (not ((q && (last || label)) && not (cond last security without_ace || last)) || decided) ≡ true
settle false last security label without_ace decided h = refl
settle true true true label without_ace decided h = refl
settle true true false label without_ace decided h = refl
settle true false security false without_ace decided h = refl
settle true false security true true decided h = refl
settle true false security true false decided h = h

-- the scan stops where every right in question is settled, or earlier
scan_need-le : (d : Descriptor) (h : Holder) (ask : Asked) → AreRights ask
    → scan_need (undecided_of d h ask) d h.entries ask (listed_aces d.dacl) ≤ need d h.entries ask
unfolding scan_need need
scan_need-le d h ask narrow =
    least_mono (length (listed_aces d.dacl)) _ _ (λ k. all_below_mono 25 _ _ (λ i below settled.
    rw (carries-undecided d h ask (question-lt ask narrow) i below)
    (settle (in_question i ask) (eqb i 24) ask.security (label_allows i d h ask) (needs_no_ace i d h.entries ask)
    (list_any (decides i d h.entries ask) (take k (listed_aces d.dacl))) settled)))

-- those of the scan
pub count_scan : (d : Descriptor) (h : Holder) (ask : Asked) (q mid new : ℕ) → AreRights ask
    → q ≡ undecided_of d h ask
    → new ≤ mid + scan_need q d h.entries ask (listed_aces d.dacl) * length h.entries
    → new ≤ mid + need d h.entries ask * length h.entries
count_scan d h ask q mid new narrow is scan_pass =
    let less : scan_need q d h.entries ask (listed_aces d.dacl) ≤ need d h.entries ask =
    rw is (scan_need-le d h ask narrow) in
    omega (
      arith,
      mul-le (scan_need q d h.entries ask (listed_aces d.dacl)) (length h.entries) (need d h.entries ask)
          (length h.entries) less (omega arith),
      scan_pass,
    )

pub least_le : (n : ℕ) (test : ℕ → Bool) → least test n ≤ n
unfolding least
least_le zero test = omega arith
least_le (suc n) test =
    let rest = least_le n (λ k. test (suc k)) in
    elim (test zero) as (λ (b : Bool). cond b zero (suc (least (λ k. test (suc k)) n)) ≤ suc n) [
      | true ↦ omega arith
      | false ↦ omega arith
    ]

pub need-le : (d : Descriptor) (t : List Entry) (ask : Asked) → need d t ask ≤ length (listed_aces d.dacl)
unfolding need
need-le d t ask = least_le (length (listed_aces d.dacl)) _

-- no more ACEs are needed than there are
pub bound_from_need : (d : Descriptor) (t : List Entry) (needed old new : ℕ) → needed ≤ length (listed_aces d.dacl)
    → new ≤ old + (needed + 1) * length t → new ≤ old + check_bound d (length t)
bound_from_need d t needed old new most h =
    omega (
      arith,
      mul-le (needed + 1) (length t) (length (listed_aces d.dacl) + 1) (length t) (omega arith)
          (omega arith),
    )
