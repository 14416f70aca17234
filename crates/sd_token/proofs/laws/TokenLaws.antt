-- Entries that are written as numbers, one after the other.
use Rattle.std.proofs.Common.{◌≡◌, ◌<◌, ℕ, suc, zero, ◌+◌, ◌*◌, List, [], ◌∷◌, ◌++◌, length, take, drop, get_or, ap}
use Rattle.std.proofs.Common.{refl, sym, ◌∙◌, arith}
use Rattle.std.proofs.Math.ListN.{set}
use Rattle.std.proofs.lemmas.Bool.{eq-eqb}
use Rattle.std.proofs.lemmas.List.{drop-drop, drop-take, get_or-set_same, length-set, length-take-le, take-set}
use Rattle.std.proofs.lemmas.List.{take-take}
use Rattle.sd_token.specs.Token.{Entry}
use Rattle.sd_token.specs.TokenWords.{entries_of, entry_of, keyed, sid_key}

-- an entry with the key of its SID counts
pub keyed_own : (key : ℕ) (e : Entry) → key ≡ sid_key e.0 → keyed key e ≡ e
keyed_own key e is = rw (eq-eqb key (sid_key e.0) is) refl

-- Only the first numbers count, 19 for each key.
pub entries_front : (keys words other : List ℕ) → take (19 * length keys) words ≡ take (19 * length keys) other
    → entries_of keys words ≡ entries_of keys other
entries_front [] words other same = refl
entries_front (key ∷ keys) words other same =
    let n = length keys in
    let long : 19 * length (key ∷ keys) ≡ 19 + 19 * n = omega arith in
    let fronts : take (19 + 19 * n) words ≡ take (19 + 19 * n) other = rw long at same in
    let first : take 19 words ≡ take 19 other = sym (take-take 19 (19 + 19 * n) words (omega arith))
    ∙ ap (λ (ws : List ℕ). take 19 ws) fronts ∙ take-take 19 (19 + 19 * n) other (omega arith) in
    let rest : take (19 * n) (drop 19 words) ≡ take (19 * n) (drop 19 other) = sym (drop-take 19 (19 * n) words)
    ∙ ap (λ (ws : List ℕ). drop 19 ws) fronts ∙ drop-take 19 (19 * n) other in
    ap (λ (ws : List ℕ). keyed key (entry_of ws) ∷ entries_of keys (drop 19 words)) first
    ∙ ap (λ (es : List Entry). keyed key (entry_of (take 19 other)) ∷ es)
    (entries_front keys (drop 19 words) (drop 19 other) rest)

one_more : (keys words : List ℕ) (n : ℕ) → n < length keys
    → entries_of (take (suc n) keys) words
    ≡ entries_of (take n keys) words ++ keyed (get_or keys n 0) (entry_of (take 19 (drop (19 * n) words))) ∷ []
one_more [] words n within = absurd (omega (arith, within))
one_more (key ∷ keys) words zero within = refl
one_more (key ∷ keys) words (suc n) within =
    let more : drop (19 * n) (drop 19 words) ≡ drop (19 * suc n) words = drop-drop (19 * n) 19 words
    ∙ ap (λ (k : ℕ). drop k words) (omega arith) in
    ap (λ (es : List Entry). keyed key (entry_of (take 19 words)) ∷ es)
    (one_more keys (drop 19 words) n (omega (arith, within))
    ∙ ap (λ (ws : List ℕ). entries_of (take n keys) (drop 19 words)
    ++ keyed (get_or keys n 0) (entry_of (take 19 ws)) ∷ []) more)

-- the step of a loop that writes entries
pub entry_written : (keys words now : List ℕ) (n key : ℕ) (more : List ℕ) → n < length keys
    → take (19 * n) now ≡ take (19 * n) words → take 19 (drop (19 * n) now) ≡ more
    → entries_of (take (n + 1) (set keys n key)) now
    ≡ entries_of (take n keys) words ++ keyed key (entry_of more) ∷ []
entry_written keys words now n key more within front is =
    let step : n + 1 ≡ suc n = omega arith in
    let count : length (take n keys) ≡ n = length-take-le n keys (omega (arith, within)) in
    rw step
    (one_more (set keys n key) now n (omega (arith, within, length-set keys n key))
    ∙ rw (take-set keys n key, get_or-set_same keys n key 0 within, is)
    (ap (λ (es : List Entry). es ++ keyed key (entry_of more) ∷ [])
    (entries_front (take n keys) now words (rw count front))))
