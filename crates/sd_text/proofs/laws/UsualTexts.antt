-- Usual texts, by their keys.
use Rattle.std.proofs.Common.{◌≡◌, ◌<◌, ◌≤◌, ℕ, zero, suc, ◌+◌, ◌*◌, ◌%◌, ◌^◌, true, List, [], ◌∷◌}
use Rattle.std.proofs.Common.{length, get_or, take, drop, Option, Some, None, arith, refl, sym, ap, ◌∙◌, eqb-true, w64}
use Rattle.std.specs.Prelude.{◌==◌, ◌&&◌, nat_le}
use Rattle.std.specs.Cmp.Lexicographic.{same_text}
use Rattle.std.specs.Str.{bytes_eq}
use Rattle.std.specs.Int.{from_le_bytes}
use Rattle.std.proofs.lemmas.Bool.{and_parts, true≢false}
use Rattle.std.proofs.lemmas.Bool.Decides.{nat_tests}
use Rattle.std.proofs.lemmas.Nat.{le_bytes_8}
use Rattle.sd_text.specs.Usual.{are_shifts, gives, have_texts, have_values, shift_of, shifts_from, texts_from}
use Rattle.sd_text.specs.Usual.{usual_text}

-- 1. A row's value.

given : (found : Option ℕ) (value : ℕ) → gives found value ≡ true → found ≡ Some value
given None value e = absurd (true≢false (sym e))
given (Some n) value e = ap Some (eqb-true n value e)

pub value-in : (reads : List ℕ → Option ℕ) (keys sizes values : List ℕ) (i : ℕ)
    → have_values reads keys sizes values ≡ true
    → i < length keys → reads (usual_text (get_or keys i 0) (get_or sizes i 0)) ≡ Some (get_or values i 0)
value-in reads [] sizes values i all h = absurd (omega arith)
value-in reads (k ∷ ks) [] values i all h = absurd (true≢false (sym all))
value-in reads (k ∷ ks) (s ∷ ss) [] i all h = absurd (true≢false (sym all))
value-in reads (k ∷ ks) (s ∷ ss) (v ∷ vs) zero all h =
    given (reads (usual_text k s)) v (and_parts (gives (reads (usual_text k s)) v) (have_values reads ks ss vs) all).0
value-in reads (k ∷ ks) (s ∷ ss) (v ∷ vs) (suc i) all h =
    value-in reads ks ss vs i (and_parts (gives (reads (usual_text k s)) v) (have_values reads ks ss vs) all).1
    (omega arith)

-- 2. A row's printed text.

text-from : (text : ℕ → List ℕ) (first : ℕ) (cells : List (List ℕ)) (sizes : List ℕ) (i : ℕ)
    → texts_from text first cells sizes ≡ true → i < length cells
    → (get_or sizes i 0 ≤ 16) × (take (get_or sizes i 0) (get_or cells i []) ≡ text (first + i))
text-from text first [] sizes i all h = absurd (omega arith)
text-from text first (c ∷ cs) [] i all h = absurd (true≢false (sym all))
text-from text first (c ∷ cs) (s ∷ ss) zero all h =
    let row = and_parts (nat_le s 16 && bytes_eq (take s c) (text first)) (texts_from text (suc first) cs ss) all in
    let parts = and_parts (nat_le s 16) (bytes_eq (take s c) (text first)) row.0 in
    let few : s ≤ 16 = let h = parts.0 in grind (arith, nat_tests) in
    let same : first ≡ first + 0 = omega arith in
    (few, same_text (take s c) (text first) (sym parts.1) ∙ ap text same)
text-from text first (c ∷ cs) (s ∷ ss) (suc i) all h =
    let row = and_parts (nat_le s 16 && bytes_eq (take s c) (text first)) (texts_from text (suc first) cs ss) all in
    let next : suc first + i ≡ first + suc i = omega arith in
    let rest = text-from text (suc first) cs ss i row.1 (omega arith) in
    (rest.0, rest.1 ∙ ap text next)

pub text-in : (text : ℕ → List ℕ) (cells : List (List ℕ)) (sizes : List ℕ) (i : ℕ)
    → have_texts text cells sizes ≡ true → i < length cells
    → (get_or sizes i 0 ≤ 16) × (take (get_or sizes i 0) (get_or cells i []) ≡ text i)
text-in text cells sizes i all h =
    let same : 0 + i ≡ i = omega arith in
    let row = text-from text 0 cells sizes i all h in
    (row.0, row.1 ∙ ap text same)

-- 3. Shifts.

shift-from : (first i : ℕ) (shifts : List ℕ) → shifts_from first shifts ≡ true → i < length shifts
    → get_or shifts i 0 ≡ shift_of (first + i)
shift-from first i [] all h = absurd (omega arith)
shift-from first zero (s ∷ more) all h =
    let same : first ≡ first + 0 = omega arith in
    eqb-true s (shift_of first) (and_parts (s == shift_of first) (shifts_from (suc first) more) all).0
    ∙ ap shift_of same
shift-from first (suc i) (s ∷ more) all h =
    let next : suc first + i ≡ first + suc i = omega arith in
    shift-from (suc first) i more (and_parts (s == shift_of first) (shifts_from (suc first) more) all).1 (omega arith)
    ∙ ap shift_of next

pub shift-at : (shifts : List ℕ) (i : ℕ) → are_shifts shifts ≡ true → i < length shifts → get_or shifts i 0 ≡ shift_of i
shift-at shifts i all h = let same : 0 + i ≡ i = omega arith in shift-from 0 i shifts all h ∙ ap shift_of same

-- 4. The text of a key.

pub bytes-of : (a b c f g i j k : ℕ) → a < 256 → b < 256 → c < 256 → f < 256 → g < 256 → i < 256 → j < 256 → k < 256
    → (n : ℕ) → get_or (a ∷ b ∷ c ∷ f ∷ g ∷ i ∷ j ∷ k ∷ []) n 0 < 256
bytes-of a b c f g i j k A B C F G I J K zero = A
bytes-of a b c f g i j k A B C F G I J K (suc zero) = B
bytes-of a b c f g i j k A B C F G I J K (suc (suc zero)) = C
bytes-of a b c f g i j k A B C F G I J K (suc (suc (suc zero))) = F
bytes-of a b c f g i j k A B C F G I J K (suc (suc (suc (suc zero)))) = G
bytes-of a b c f g i j k A B C F G I J K (suc (suc (suc (suc (suc zero))))) = I
bytes-of a b c f g i j k A B C F G I J K (suc (suc (suc (suc (suc (suc zero)))))) = J
bytes-of a b c f g i j k A B C F G I J K (suc (suc (suc (suc (suc (suc (suc zero))))))) = K
bytes-of a b c f g i j k A B C F G I J K (suc (suc (suc (suc (suc (suc (suc (suc n)))))))) = omega arith

sized : (a b c f g i j k word size key : ℕ)
    → a < 256 → b < 256 → c < 256 → f < 256 → g < 256 → i < 256 → j < 256 → k < 256
    → word ≡ a + 2 ^ 8 * b + 2 ^ 16 * c + 2 ^ 24 * f + 2 ^ 32 * g + 2 ^ 40 * i + 2 ^ 48 * j + 2 ^ 56 * k
    → size ≤ 8 → key ≡ word * shift_of size % 2 ^ 64
    → take size (a ∷ b ∷ c ∷ f ∷ g ∷ i ∷ j ∷ k ∷ []) ≡ usual_text key size
sized a b c f g i j k word zero key A B C F G I J K is few shifted = refl
sized a b c f g i j k word (suc zero) key A B C F G I J K is few shifted =
    let same : key ≡ 2 ^ 56 * a = omega (arith, is, shifted) in
    sym (ap (λ (t : List ℕ). drop 7 t)
    (le_bytes_8 (0 ∷ 0 ∷ 0 ∷ 0 ∷ 0 ∷ 0 ∷ 0 ∷ a ∷ []) key refl
    (bytes-of 0 0 0 0 0 0 0 a (omega arith) (omega arith) (omega arith) (omega arith) (omega arith) (omega arith)
    (omega arith) A) (same ∙ omega arith)))
sized a b c f g i j k word (suc (suc zero)) key A B C F G I J K is few shifted =
    let same : key ≡ 2 ^ 48 * a + 2 ^ 56 * b = omega (arith, is, shifted) in
    sym (ap (λ (t : List ℕ). drop 6 t)
    (le_bytes_8 (0 ∷ 0 ∷ 0 ∷ 0 ∷ 0 ∷ 0 ∷ a ∷ b ∷ []) key refl
    (bytes-of 0 0 0 0 0 0 a b (omega arith) (omega arith) (omega arith) (omega arith) (omega arith) (omega arith) A B)
    (same ∙ omega arith)))
sized a b c f g i j k word (suc (suc (suc zero))) key A B C F G I J K is few shifted =
    let same : key ≡ 2 ^ 40 * a + 2 ^ 48 * b + 2 ^ 56 * c = omega (arith, is, shifted) in
    sym (ap (λ (t : List ℕ). drop 5 t)
    (le_bytes_8 (0 ∷ 0 ∷ 0 ∷ 0 ∷ 0 ∷ a ∷ b ∷ c ∷ []) key refl
    (bytes-of 0 0 0 0 0 a b c (omega arith) (omega arith) (omega arith) (omega arith) (omega arith) A B C)
    (same ∙ omega arith)))
sized a b c f g i j k word (suc (suc (suc (suc zero)))) key A B C F G I J K is few shifted =
    let same : key ≡ 2 ^ 32 * a + 2 ^ 40 * b + 2 ^ 48 * c + 2 ^ 56 * f = omega (arith, is, shifted) in
    sym (ap (λ (t : List ℕ). drop 4 t)
    (le_bytes_8 (0 ∷ 0 ∷ 0 ∷ 0 ∷ a ∷ b ∷ c ∷ f ∷ []) key refl
    (bytes-of 0 0 0 0 a b c f (omega arith) (omega arith) (omega arith) (omega arith) A B C F) (same ∙ omega arith)))
sized a b c f g i j k word (suc (suc (suc (suc (suc zero))))) key A B C F G I J K is few shifted =
    let same : key ≡ 2 ^ 24 * a + 2 ^ 32 * b + 2 ^ 40 * c + 2 ^ 48 * f + 2 ^ 56 * g = omega (arith, is, shifted) in
    sym (ap (λ (t : List ℕ). drop 3 t)
    (le_bytes_8 (0 ∷ 0 ∷ 0 ∷ a ∷ b ∷ c ∷ f ∷ g ∷ []) key refl
    (bytes-of 0 0 0 a b c f g (omega arith) (omega arith) (omega arith) A B C F G) (same ∙ omega arith)))
sized a b c f g i j k word (suc (suc (suc (suc (suc (suc zero)))))) key A B C F G I J K is few shifted =
    let same : key ≡ 2 ^ 16 * a + 2 ^ 24 * b + 2 ^ 32 * c + 2 ^ 40 * f + 2 ^ 48 * g + 2 ^ 56 * i =
    omega (arith, is, shifted) in
    sym (ap (λ (t : List ℕ). drop 2 t)
    (le_bytes_8 (0 ∷ 0 ∷ a ∷ b ∷ c ∷ f ∷ g ∷ i ∷ []) key refl
    (bytes-of 0 0 a b c f g i (omega arith) (omega arith) A B C F G I) (same ∙ omega arith)))
sized a b c f g i j k word (suc (suc (suc (suc (suc (suc (suc zero))))))) key A B C F G I J K is few shifted =
    let same : key ≡ 2 ^ 8 * a + 2 ^ 16 * b + 2 ^ 24 * c + 2 ^ 32 * f + 2 ^ 40 * g + 2 ^ 48 * i + 2 ^ 56 * j =
    omega (arith, is, shifted) in
    sym (ap (λ (t : List ℕ). drop 1 t)
    (le_bytes_8 (0 ∷ a ∷ b ∷ c ∷ f ∷ g ∷ i ∷ j ∷ []) key refl (bytes-of 0 a b c f g i j (omega arith) A B C F G I J)
    (same ∙ omega arith)))
sized a b c f g i j k word (suc (suc (suc (suc (suc (suc (suc (suc zero)))))))) key A B C F G I J K is few shifted =
    let same : key ≡ a + 2 ^ 8 * b + 2 ^ 16 * c + 2 ^ 24 * f + 2 ^ 32 * g + 2 ^ 40 * i + 2 ^ 48 * j + 2 ^ 56 * k =
    omega (arith, is, shifted) in
    sym (ap (λ (t : List ℕ). drop 0 t)
    (le_bytes_8 (a ∷ b ∷ c ∷ f ∷ g ∷ i ∷ j ∷ k ∷ []) key refl (bytes-of a b c f g i j k A B C F G I J K)
    (same ∙ omega arith)))
sized a b c f g i j k word (suc (suc (suc (suc (suc (suc (suc (suc (suc n))))))))) key A B C F G I J K is few shifted =
    absurd (omega arith)

pub text-of-key : (block : List ℕ) (word size key : ℕ) → length block ≡ 8 → ((i : ℕ) → i < 8 → get_or block i 0 < 256)
    → word ≡ from_le_bytes w64 block → size ≤ 8 → key ≡ word * shift_of size % 2 ^ 64
    → take size block ≡ usual_text key size
text-of-key [] word size key h bytes is few shifted = absurd (omega arith)
text-of-key (a ∷ []) word size key h bytes is few shifted = absurd (omega arith)
text-of-key (a ∷ b ∷ []) word size key h bytes is few shifted = absurd (omega arith)
text-of-key (a ∷ b ∷ c ∷ []) word size key h bytes is few shifted = absurd (omega arith)
text-of-key (a ∷ b ∷ c ∷ f ∷ []) word size key h bytes is few shifted = absurd (omega arith)
text-of-key (a ∷ b ∷ c ∷ f ∷ g ∷ []) word size key h bytes is few shifted = absurd (omega arith)
text-of-key (a ∷ b ∷ c ∷ f ∷ g ∷ i ∷ []) word size key h bytes is few shifted = absurd (omega arith)
text-of-key (a ∷ b ∷ c ∷ f ∷ g ∷ i ∷ j ∷ []) word size key h bytes is few shifted = absurd (omega arith)
text-of-key (a ∷ b ∷ c ∷ f ∷ g ∷ i ∷ j ∷ k ∷ l ∷ ls) word size key h bytes is few shifted = absurd (omega arith)
text-of-key (a ∷ b ∷ c ∷ f ∷ g ∷ i ∷ j ∷ k ∷ []) word size key h bytes is few shifted =
    sized a b c f g i j k word size key (bytes 0 (omega arith)) (bytes 1 (omega arith)) (bytes 2 (omega arith))
    (bytes 3 (omega arith)) (bytes 4 (omega arith)) (bytes 5 (omega arith)) (bytes 6 (omega arith))
    (bytes 7 (omega arith)) (is ∙ omega arith) few shifted
