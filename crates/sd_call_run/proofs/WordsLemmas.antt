-- The words of a command line, from the front.
use Rattle.std.proofs.Common.{◌≡◌, ◌≢◌, ◌<◌, ◌+◌, ◌==◌, ◌&&◌, ℕ, zero, suc, List, [], ◌∷◌, ◌++◌, length, take, drop}
use Rattle.std.proofs.Common.{get_or, Bool, true, false, Option, Some, None, refl, sym, ap, ◌∙◌, arith, add-one}
use Rattle.std.proofs.Common.{append_assoc, append-nil, if◌then◌else◌, rules, inl, inr, ◌-◌, length-drop, codes}
use Rattle.std.proofs.lemmas.Bool.{cases_Bool}
use Rattle.std.proofs.lemmas.List.{take_all}
use Rattle.std.proofs.lemmas.Str.{IsUtf8-from_is_utf8, is_utf8-from_IsUtf8}
use Rattle.std.specs.List.{list_all}
use Rattle.std.specs.Option.{option_map}
use Rattle.std.specs.Str.{IsUtf8, is_utf8}
use Rattle.clap.specs.Words.{Text}
use Rattle.sd_call_run.specs.Runs.{byte_before, command_words, if_texts, words_in}

after_nul : (rest : Option (List Text)) → byte_before 0 rest ≡ option_map (λ (ws : List Text). [] ∷ ws) rest
after_nul None = refl
after_nul (Some words) = refl

into_word : (b : ℕ) (word : Text) (rest : Option (List Text)) → (b == 0) ≡ false
    → byte_before b (option_map (λ (ws : List Text). word ∷ ws) rest)
    ≡ option_map (λ (ws : List Text). (b ∷ word) ∷ ws) rest
into_word b word None h = refl
into_word b word (Some words) h = rw h

without_nul : (b : ℕ) → (b == 0) ≡ false → byte_before b (Some []) ≡ None
without_nul b h = rw h

is_not_nul : (b : ℕ) → b ≢ 0 → (b == 0) ≡ false
is_not_nul b h = search rules

-- the first NUL ends the first word
pub first-word : (bytes : List ℕ) (n : ℕ) → n < length bytes → get_or bytes n 0 ≡ 0
    → ((k : ℕ) → k < n → get_or bytes k 0 ≢ 0)
    → words_in bytes ≡ option_map (λ (ws : List Text). take n bytes ∷ ws) (words_in (drop (suc n) bytes))
unfolding words_in
first-word [] n within at before = absurd (omega arith)
first-word (b ∷ bytes) zero within at before = rw at (after_nul (words_in bytes))
first-word (b ∷ bytes) (suc n) within at before =
    let ends : words_in bytes ≡ option_map (λ (ws : List Text). take n bytes ∷ ws) (words_in (drop (suc n) bytes)) =
    first-word bytes n (omega arith) at (λ k h. before (suc k) (omega arith)) in
    rw ends (into_word b (take n bytes) (words_in (drop (suc n) bytes)) (is_not_nul b (before 0 (omega arith))))

-- no word has an end
pub no-word : (bytes : List ℕ) → 0 < length bytes → ((k : ℕ) → k < length bytes → get_or bytes k 0 ≢ 0)
    → words_in bytes ≡ None
unfolding words_in
no-word [] some before = absurd (omega arith)
no-word (b ∷ []) some before = without_nul b (is_not_nul b (before 0 (omega arith)))
no-word (b ∷ c ∷ bytes) some before =
    let none : words_in (c ∷ bytes) ≡ None = no-word (c ∷ bytes) (omega arith) (λ k h. before (suc k) (omega arith)) in
    ap (λ (rest : Option (List Text)). byte_before b rest) none

if_words : (word : Text) (words : List Text) (b : Bool)
    → (if (true && b) then Some (word ∷ words) else None)
    ≡ option_map (λ (ws : List Text). word ∷ ws) (if b then Some words else None)
if_words word words true = refl
if_words word words false = refl

-- a first word that is a text, and one that is none
text-first : (word : Text) (rest : Option (List Text)) → is_utf8 word ≡ true
    → if_texts (option_map (λ (ws : List Text). word ∷ ws) rest)
    ≡ option_map (λ (ws : List Text). word ∷ ws) (if_texts rest)
text-first word None h = refl
text-first word (Some words) h = rw h (if_words word words (list_all is_utf8 words))

no-text-first : (word : Text) (rest : Option (List Text)) → is_utf8 word ≡ false
    → if_texts (option_map (λ (ws : List Text). word ∷ ws) rest) ≡ None
no-text-first word None h = refl
no-text-first word (Some words) h = rw h

is-no-utf8 : (bytes : List ℕ) → ¬ (IsUtf8 bytes) → is_utf8 bytes ≡ false
is-no-utf8 bytes h = elim (cases_Bool (is_utf8 bytes)) [
  | inl is_true ↦ absurd (h (IsUtf8-from_is_utf8 bytes is_true))
  | inr is_false ↦ is_false
]

behind : (bytes : List ℕ) (n most : ℕ) → most ≡ length bytes - (n + 1)
    → take most (drop (n + 1) bytes) ≡ drop (suc n) bytes
behind bytes n most all =
    take_all most (drop (n + 1) bytes) (omega (arith, length-drop (n + 1) bytes))
    ∙ ap (λ (k : ℕ). drop k bytes) (add-one n)

-- the words that were read, and then those of what is left
abbrev pub Reads : List ℕ → List Text → List ℕ → Type 0
Reads bytes words rest = command_words bytes ≡ option_map (λ (ws : List Text). words ++ ws) (if_texts (words_in rest))

pub reads-name : (bytes : List ℕ) (words : List Text) → words ≡ codes "sdtool" ∷ [] → Reads bytes words bytes
unfolding command_words
reads-name bytes words is = rw is refl

pub reads-all : (bytes rest : List ℕ) (words : List Text) → Reads bytes words rest → length rest ≡ 0
    → command_words bytes ≡ Some words
unfolding words_in
reads-all bytes [] words reads none = reads ∙ ap (λ (ws : List Text). Some ws) (append-nil words)
reads-all bytes (b ∷ rest) words reads none = absurd (omega (arith, none))

pub reads-no-word : (bytes rest : List ℕ) (words : List Text) → Reads bytes words rest → 0 < length rest
    → ((k : ℕ) → k < length rest → get_or rest k 0 ≢ 0) → command_words bytes ≡ None
reads-no-word bytes rest words reads some before =
    reads ∙ ap (λ (r : Option (List Text)). option_map (λ (ws : List Text). words ++ ws) (if_texts r))
    (no-word rest some before)

pub reads-no-text : (bytes rest : List ℕ) (words : List Text) (n : ℕ) → Reads bytes words rest → n < length rest
    → get_or rest n 0 ≡ 0 → ((k : ℕ) → k < n → get_or rest k 0 ≢ 0) → ¬ (IsUtf8 (take n rest))
    → command_words bytes ≡ None
reads-no-text bytes rest words n reads within at before not_text =
    reads ∙ ap (λ (r : Option (List Text)). option_map (λ (ws : List Text). words ++ ws) r)
    (ap if_texts (first-word rest n within at before)
    ∙ no-text-first (take n rest) (words_in (drop (suc n) rest)) (is-no-utf8 (take n rest) not_text))

-- words behind others
joined : (words : List Text) (word : Text) (rest : Option (List Text))
    → option_map (λ (ws : List Text). words ++ ws) (option_map (λ (ws : List Text). word ∷ ws) rest)
    ≡ option_map (λ (ws : List Text). (words ++ word ∷ []) ++ ws) rest
joined words word None = refl
joined words word (Some ws) = ap (λ (all : List Text). Some all) (sym (append_assoc words (word ∷ []) ws))

pub reads-word : (bytes rest : List ℕ) (words words' : List Text) (word : Text) (n most : ℕ) → Reads bytes words rest
    → n < length rest → get_or rest n 0 ≡ 0 → ((k : ℕ) → k < n → get_or rest k 0 ≢ 0) → IsUtf8 (take n rest)
    → word ≡ take n rest → words' ≡ words ++ word ∷ [] → most ≡ length rest - (n + 1)
    → Reads bytes words' (take most (drop (n + 1) rest))
reads-word bytes rest words words' word n most reads within at before text word_is words_are all =
    rw (words_are, word_is, behind rest n most all)
    (reads ∙ ap (λ (r : Option (List Text)). option_map (λ (ws : List Text). words ++ ws) r)
    (ap if_texts (first-word rest n within at before)
    ∙ text-first (take n rest) (words_in (drop (suc n) rest)) (is_utf8-from_IsUtf8 (take n rest) text))
    ∙ joined words (take n rest) (if_texts (words_in (drop (suc n) rest))))

pub is-some : (words : List Text) (all : Option (List Text)) → all ≡ Some words → all ≢ None
is-some words all is none = cc
