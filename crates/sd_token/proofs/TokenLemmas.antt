-- Entries as numbers.
use Rattle.std.proofs.Common.{◌≡◌, ◌<◌, ◌≤◌, ℕ, suc, zero, ◌*◌, ◌^◌, Bool, false, true, ◌&&◌, ◌||◌, List, [], ◌∷◌, ◌++◌}
use Rattle.std.proofs.Common.{if◌then◌else◌, length, take, drop, get_or, ap, sym, refl, ◌∙◌, arith}
use Rattle.std.proofs.lemmas.Bool.{and_left, and_parts, eq-eqb, ne_eqb}
use Rattle.std.proofs.lemmas.List.{drop-append-le, drop-drop, length-drop, nil_from_length, take-append-le, take_all}
use Rattle.std.specs.Cmp.Lexicographic.{same_text}
use Rattle.std.specs.Prelude.{◌==◌}
use Rattle.sd_sid.specs.Sid.{SecurityId}
use Rattle.sd_sid.specs.SidText.{same_sid}
use Rattle.sd_token.specs.Token.{Entry, entry_meets}
use Rattle.sd_token.specs.TokenWords.{entries_of, entry_of, keyed, nobody, sid_key, subs_key}

-- 1. An entry counts exactly if its key is that of the SID it is compared with.

-- Equal SIDs have equal keys.
same_keys : (s t : SecurityId) → same_sid s t ≡ true → sid_key s ≡ sid_key t
same_keys s t same = ap subs_key (same_text s.subs t.subs (sym (and_parts (s.authority == t.authority) _ same).1))

met_if : (b : Bool) (s : SecurityId) (deny : Bool) (e : Entry) → s.authority < 2 ^ 48
    → entry_meets s deny (if b then e else nobody) ≡ (b && entry_meets s deny e)
met_if true s deny e small = refl
met_if false s deny e small = and_left _ _
    (and_left _ _ (ne_eqb (2 ^ 48) s.authority (λ same. omega (arith, same, small))))

same_test : (a b met : Bool) → (met ≡ true → a ≡ b) → (a && met) ≡ (b && met)
same_test a b true h = rw (h refl) refl
same_test true true false h = refl
same_test true false false h = refl
same_test false true false h = refl
same_test false false false h = refl

pub keyed_met : (s : SecurityId) (deny : Bool) (k key : ℕ) (e : Entry) → s.authority < 2 ^ 48 → key ≡ sid_key s
    → (k == key && entry_meets s deny e) ≡ entry_meets s deny (keyed k e)
keyed_met s deny k key e small is =
    same_test (k == key) (k == sid_key e.0) (entry_meets s deny e)
    (λ met. ap (λ (j : ℕ). k == j) (is ∙ sym (same_keys e.0 s (and_parts (same_sid e.0 s) _ met).0)))
    ∙ sym (met_if (k == sid_key e.0) s deny e small)

-- 2. One entry for each key.

pub as_many : (keys words : List ℕ) → length (entries_of keys words) ≡ length keys
as_many [] words = refl
as_many (key ∷ keys) words = ap suc (as_many keys (drop 19 words))

pub entry_at : (keys words : List ℕ) (i k : ℕ) (e : Entry) → i < length keys
    → get_or (entries_of keys words) i e ≡ keyed (get_or keys i k) (entry_of (take 19 (drop (19 * i) words)))
entry_at [] words i k e within = absurd (omega (arith, within))
entry_at (key ∷ keys) words zero k e within = refl
entry_at (key ∷ keys) words (suc i) k e within =
    let more : drop (19 * i) (drop 19 words) ≡ drop (19 * suc i) words = drop-drop (19 * i) 19 words
    ∙ ap (λ (n : ℕ). drop n words) (omega arith) in
    entry_at keys (drop 19 words) i k e (omega (arith, within))
    ∙ ap (λ (ws : List ℕ). keyed (get_or keys i k) (entry_of (take 19 ws))) more

pub entries_push : (keys words : List ℕ) (key : ℕ) (more : List ℕ) → length words ≡ 19 * length keys
    → length more ≡ 19
    → entries_of (keys ++ key ∷ []) (words ++ more) ≡ entries_of keys words ++ keyed key (entry_of more) ∷ []
entries_push [] words key more whole long =
    rw (nil_from_length words whole, take_all 19 more (omega (arith, long))) refl
entries_push (first ∷ keys) words key more whole long =
    let enough : 19 ≤ length words = omega (arith, whole) in
    rw (take-append-le 19 words more enough, drop-append-le 19 words more enough)
    (ap (λ (es : List Entry). keyed first (entry_of (take 19 words)) ∷ es)
    (entries_push keys (drop 19 words) key more (omega (arith, whole, length-drop 19 words)) long))

-- 3. What a comparison with an entry finds.

pub one_met : (s : SecurityId) (deny : Bool) (keys words : List ℕ) (i key : ℕ) (e : Entry) → i < length keys
    → s.authority < 2 ^ 48 → key ≡ sid_key s
    → (get_or keys i 0 == key && entry_meets s deny (entry_of (take 19 (drop (19 * i) words))))
    ≡ entry_meets s deny (get_or (entries_of keys words) i e)
one_met s deny keys words i key e within small is =
    keyed_met s deny (get_or keys i 0) key _ small is
    ∙ ap (λ (found : Entry). entry_meets s deny found) (sym (entry_at keys words i 0 e within))

-- 4. Two questions, one after the other.

-- Which of two that both have to be answered by "yes" is asked first makes no difference.
pub then_second : (first second : Bool) → first ≡ true → second ≡ (second && first)
then_second true true is = refl
then_second true false is = refl
then_second false second is = absurd cc

pub not_first : (first second : Bool) → first ≡ false → false ≡ (second && first)
not_first true second is = absurd cc
not_first false true is = refl
not_first false false is = refl

pub with_key : (k key : ℕ) (met : Bool) → k ≡ key → met ≡ (k == key && met)
with_key k key met same = rw (eq-eqb k key same) refl

pub without_key : (k key : ℕ) (met : Bool) → (k ≡ key → ⊥) → (k == key) ≡ (k == key && met)
without_key k key met differ = rw (ne_eqb k key differ) refl

pub either_first : (first second : Bool) → first ≡ true → true ≡ (first || second)
either_first true second is = refl
either_first false second is = absurd cc

pub either_second : (first second : Bool) → first ≡ false → (first || second) ≡ second
either_second true second is = absurd cc
either_second false second is = refl
