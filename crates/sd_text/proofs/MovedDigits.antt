-- The digits at the front of a block, moved to its end with zeros before them.
use Rattle.std.proofs.Common.{◌≡◌, ◌<◌, ℕ, zero, suc, ◌+◌, ◌-◌, ◌*◌, ◌%◌, ◌^◌, List, [], ◌∷◌, ◌++◌, length, get_or}
use Rattle.std.proofs.Common.{take, Some, arith, refl, sym, ap, ◌∙◌, w64}
use Rattle.std.specs.Prelude.{replicate}
use Rattle.std.specs.Int.{from_le_bytes, to_le_bytes}
use Rattle.std.proofs.lemmas.Nat.{le_bytes_8}
use Rattle.sd_text.specs.Numbers.{number_after}
use Rattle.sd_text.specs.Usual.{shift_of}
use Rattle.sd_text.proofs.laws.UsualTexts.{bytes-of}

-- zeros before a number change nothing
zero-run : (n : ℕ) (digits : List ℕ) → number_after 10 0 (replicate n 48 ++ digits) ≡ number_after 10 0 digits
zero-run zero digits = refl
zero-run (suc n) digits = zero-run n digits

-- the word that is moved and filled
abbrev pub filled_word : ℕ → ℕ → ℕ
filled_word word shift =
    ((word + (2 ^ 64 - 0x3030303030303030)) % 2 ^ 64 * shift % 2 ^ 64 + 0x3030303030303030) % 2 ^ 64

sized : (a b c f g i j k word count : ℕ)
    → a < 256 → b < 256 → c < 256 → f < 256 → g < 256 → i < 256 → j < 256 → k < 256
    → word ≡ a + 2 ^ 8 * b + 2 ^ 16 * c + 2 ^ 24 * f + 2 ^ 32 * g + 2 ^ 40 * i + 2 ^ 48 * j + 2 ^ 56 * k
    → count < 8
    → to_le_bytes w64 (filled_word word (shift_of count))
    ≡ replicate (8 - count) 48 ++ take count (a ∷ b ∷ c ∷ f ∷ g ∷ i ∷ j ∷ k ∷ [])
sized a b c f g i j k word zero A B C F G I J K is few =
    let same : filled_word word (shift_of 0) ≡ 48 + 2 ^ 8 * 48 + 2 ^ 16 * 48 + 2 ^ 24 * 48 + 2 ^ 32 * 48 + 2 ^ 40 * 48
    + 2 ^ 48 * 48 + 2 ^ 56 * 48 = omega (arith, is) in
    le_bytes_8 (48 ∷ 48 ∷ 48 ∷ 48 ∷ 48 ∷ 48 ∷ 48 ∷ 48 ∷ []) (filled_word word (shift_of 0)) refl
    (bytes-of 48 48 48 48 48 48 48 48 (omega arith) (omega arith) (omega arith) (omega arith) (omega arith)
    (omega arith) (omega arith) (omega arith)) (same ∙ omega arith)
sized a b c f g i j k word (suc zero) A B C F G I J K is few =
    let same : filled_word word (shift_of 1) ≡ 48 + 2 ^ 8 * 48 + 2 ^ 16 * 48 + 2 ^ 24 * 48 + 2 ^ 32 * 48 + 2 ^ 40 * 48
    + 2 ^ 48 * 48 + 2 ^ 56 * a = omega (arith, is) in
    le_bytes_8 (48 ∷ 48 ∷ 48 ∷ 48 ∷ 48 ∷ 48 ∷ 48 ∷ a ∷ []) (filled_word word (shift_of 1)) refl
    (bytes-of 48 48 48 48 48 48 48 a (omega arith) (omega arith) (omega arith) (omega arith) (omega arith) (omega arith)
    (omega arith) A) (same ∙ omega arith)
sized a b c f g i j k word (suc (suc zero)) A B C F G I J K is few =
    let same : filled_word word (shift_of 2) ≡ 48 + 2 ^ 8 * 48 + 2 ^ 16 * 48 + 2 ^ 24 * 48 + 2 ^ 32 * 48 + 2 ^ 40 * 48
    + 2 ^ 48 * a + 2 ^ 56 * b = omega (arith, is) in
    le_bytes_8 (48 ∷ 48 ∷ 48 ∷ 48 ∷ 48 ∷ 48 ∷ a ∷ b ∷ []) (filled_word word (shift_of 2)) refl
    (bytes-of 48 48 48 48 48 48 a b (omega arith) (omega arith) (omega arith) (omega arith) (omega arith)
    (omega arith) A B) (same ∙ omega arith)
sized a b c f g i j k word (suc (suc (suc zero))) A B C F G I J K is few =
    let same : filled_word word (shift_of 3) ≡ 48 + 2 ^ 8 * 48 + 2 ^ 16 * 48 + 2 ^ 24 * 48 + 2 ^ 32 * 48 + 2 ^ 40 * a
    + 2 ^ 48 * b + 2 ^ 56 * c = omega (arith, is) in
    le_bytes_8 (48 ∷ 48 ∷ 48 ∷ 48 ∷ 48 ∷ a ∷ b ∷ c ∷ []) (filled_word word (shift_of 3)) refl
    (bytes-of 48 48 48 48 48 a b c (omega arith) (omega arith) (omega arith) (omega arith) (omega arith) A B C)
    (same ∙ omega arith)
sized a b c f g i j k word (suc (suc (suc (suc zero)))) A B C F G I J K is few =
    let same : filled_word word (shift_of 4) ≡ 48 + 2 ^ 8 * 48 + 2 ^ 16 * 48 + 2 ^ 24 * 48 + 2 ^ 32 * a + 2 ^ 40 * b
    + 2 ^ 48 * c + 2 ^ 56 * f = omega (arith, is) in
    le_bytes_8 (48 ∷ 48 ∷ 48 ∷ 48 ∷ a ∷ b ∷ c ∷ f ∷ []) (filled_word word (shift_of 4)) refl
    (bytes-of 48 48 48 48 a b c f (omega arith) (omega arith) (omega arith) (omega arith) A B C F) (same ∙ omega arith)
sized a b c f g i j k word (suc (suc (suc (suc (suc zero))))) A B C F G I J K is few =
    let same : filled_word word (shift_of 5) ≡ 48 + 2 ^ 8 * 48 + 2 ^ 16 * 48 + 2 ^ 24 * a + 2 ^ 32 * b + 2 ^ 40 * c
    + 2 ^ 48 * f + 2 ^ 56 * g = omega (arith, is) in
    le_bytes_8 (48 ∷ 48 ∷ 48 ∷ a ∷ b ∷ c ∷ f ∷ g ∷ []) (filled_word word (shift_of 5)) refl
    (bytes-of 48 48 48 a b c f g (omega arith) (omega arith) (omega arith) A B C F G) (same ∙ omega arith)
sized a b c f g i j k word (suc (suc (suc (suc (suc (suc zero)))))) A B C F G I J K is few =
    let same : filled_word word (shift_of 6) ≡ 48 + 2 ^ 8 * 48 + 2 ^ 16 * a + 2 ^ 24 * b + 2 ^ 32 * c + 2 ^ 40 * f
    + 2 ^ 48 * g + 2 ^ 56 * i = omega (arith, is) in
    le_bytes_8 (48 ∷ 48 ∷ a ∷ b ∷ c ∷ f ∷ g ∷ i ∷ []) (filled_word word (shift_of 6)) refl
    (bytes-of 48 48 a b c f g i (omega arith) (omega arith) A B C F G I) (same ∙ omega arith)
sized a b c f g i j k word (suc (suc (suc (suc (suc (suc (suc zero))))))) A B C F G I J K is few =
    let same : filled_word word (shift_of 7) ≡ 48 + 2 ^ 8 * a + 2 ^ 16 * b + 2 ^ 24 * c + 2 ^ 32 * f + 2 ^ 40 * g
    + 2 ^ 48 * i + 2 ^ 56 * j = omega (arith, is) in
    le_bytes_8 (48 ∷ a ∷ b ∷ c ∷ f ∷ g ∷ i ∷ j ∷ []) (filled_word word (shift_of 7)) refl
    (bytes-of 48 a b c f g i j (omega arith) A B C F G I J) (same ∙ omega arith)
sized a b c f g i j k word (suc (suc (suc (suc (suc (suc (suc (suc n)))))))) A B C F G I J K is few =
    absurd (omega arith)

filled-is : (block : List ℕ) (word count : ℕ) → length block ≡ 8 → ((i : ℕ) → get_or block i 0 < 256)
    → word ≡ from_le_bytes w64 block → count < 8
    → to_le_bytes w64 (filled_word word (shift_of count)) ≡ replicate (8 - count) 48 ++ take count block
filled-is [] word count h bytes is few = absurd (omega arith)
filled-is (a ∷ []) word count h bytes is few = absurd (omega arith)
filled-is (a ∷ b ∷ []) word count h bytes is few = absurd (omega arith)
filled-is (a ∷ b ∷ c ∷ []) word count h bytes is few = absurd (omega arith)
filled-is (a ∷ b ∷ c ∷ f ∷ []) word count h bytes is few = absurd (omega arith)
filled-is (a ∷ b ∷ c ∷ f ∷ g ∷ []) word count h bytes is few = absurd (omega arith)
filled-is (a ∷ b ∷ c ∷ f ∷ g ∷ i ∷ []) word count h bytes is few = absurd (omega arith)
filled-is (a ∷ b ∷ c ∷ f ∷ g ∷ i ∷ j ∷ []) word count h bytes is few = absurd (omega arith)
filled-is (a ∷ b ∷ c ∷ f ∷ g ∷ i ∷ j ∷ k ∷ l ∷ ls) word count h bytes is few = absurd (omega arith)
filled-is (a ∷ b ∷ c ∷ f ∷ g ∷ i ∷ j ∷ k ∷ []) word count h bytes is few =
    sized a b c f g i j k word count (bytes 0) (bytes 1) (bytes 2) (bytes 3) (bytes 4) (bytes 5) (bytes 6) (bytes 7)
    (is ∙ omega arith) few

pub moved-number : (block filled : List ℕ) (word count number : ℕ) → length block ≡ 8
    → ((i : ℕ) → get_or block i 0 < 256)
    → word ≡ from_le_bytes w64 block → count < 8 → filled ≡ to_le_bytes w64 (filled_word word (shift_of count))
    → number_after 10 0 filled ≡ Some number → number_after 10 0 (take count block) ≡ Some number
moved-number block filled word count number h bytes is few moved read =
    sym (zero-run (8 - count) (take count block))
    ∙ (ap (number_after 10 0) (sym (moved ∙ filled-is block word count h bytes is few)) ∙ read)
