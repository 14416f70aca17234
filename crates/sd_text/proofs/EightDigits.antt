-- The number that a block of eight digits writes, from the word of its bytes.
use Rattle.std.proofs.Common.{◌≡◌, ℕ, ◌+◌, ◌-◌, ◌*◌, ◌/◌, ◌%◌, ◌^◌, ◌<◌, ◌≤◌, true, List, [], ◌∷◌, length, Some}
use Rattle.std.proofs.Common.{ap, sym, ◌∙◌, arith, mod-eq_of_lt, w64}
use Rattle.std.proofs.lemmas.Bool.{and_parts}
use Rattle.std.specs.Char.{digit_value, is_digit}
use Rattle.std.specs.Int.{from_le_bytes}
use Rattle.std.specs.List.{list_all}
use Rattle.sd_text.specs.Numbers.{number_after}
use Rattle.sd_text.proofs.FrontDigits.{digit_range, plain_digit}

-- what `outer_bytes` gives
abbrev outer : ℕ → ℕ
outer word = word / 2 ^ 32 % 256 * 2 ^ 32 + word % 256

abbrev pairs_of : ℕ → ℕ
pairs_of digits = digits * 10 + digits / 256

-- what the block's steps give from its pairs
abbrev of_pairs : ℕ → ℕ
of_pairs pairs =
    (outer pairs * 4294967296000100 % 2 ^ 64 + outer (pairs / 65536) * 42949672960001 % 2 ^ 64) % 2 ^ 64 / 2 ^ 32

first : (p r : ℕ) → p < 100 → r < 100
    → (r * 2 ^ 32 + p) * 4294967296000100 % 2 ^ 64 ≡ (p * 1000000 + r * 100) * 2 ^ 32 + p * 100
first p r P R = omega arith

second : (q s : ℕ) → q < 100 → s < 100
    → (s * 2 ^ 32 + q) * 42949672960001 % 2 ^ 64 ≡ (q * 10000 + s) * 2 ^ 32 + q
second q s Q S = omega arith

last : (p q r s : ℕ) → p < 100 → q < 100 → r < 100 → s < 100
    → ((p * 1000000 + r * 100) * 2 ^ 32 + p * 100 + ((q * 10000 + s) * 2 ^ 32 + q)) % 2 ^ 64 / 2 ^ 32
    ≡ p * 1000000 + q * 10000 + r * 100 + s
last p q r s P Q R S =
    let sum = (p * 1000000 + r * 100) * 2 ^ 32 + p * 100 + ((q * 10000 + s) * 2 ^ 32 + q) in
    let small : sum < 2 ^ 64 = omega arith in
    let parts : sum ≡ (p * 1000000 + q * 10000 + r * 100 + s) * 2 ^ 32 + (p * 100 + q) = omega arith in
    let low : p * 100 + q < 2 ^ 32 = omega arith in
    ap (λ x. x / 2 ^ 32) (mod-eq_of_lt small ∙ parts) ∙ omega (arith, low)

-- p, q, r and s are the four pairs of digits, and x, y, z and w the bytes between them
combined : (p q r s x y z w pairs : ℕ) → p < 100 → q < 100 → r < 100 → s < 100
    → x < 100 → y < 100 → z < 100 → w < 100
    → pairs ≡ p + 2 ^ 8 * x + 2 ^ 16 * q + 2 ^ 24 * y + 2 ^ 32 * r + 2 ^ 40 * z + 2 ^ 48 * s + 2 ^ 56 * w
    → of_pairs pairs ≡ p * 1000000 + q * 10000 + r * 100 + s
combined p q r s x y z w pairs P Q R S X Y Z W e =
    let high : pairs / 2 ^ 32 ≡ (z + 2 ^ 8 * s + 2 ^ 16 * w) * 256 + r = omega arith in
    let low : pairs ≡ (x + 2 ^ 8 * q + 2 ^ 16 * y + 2 ^ 24 * r + 2 ^ 32 * z + 2 ^ 40 * s + 2 ^ 48 * w) * 256 + p =
    omega arith in
    let down : pairs / 65536 ≡ (y + 2 ^ 8 * r + 2 ^ 16 * z + 2 ^ 24 * s + 2 ^ 32 * w) * 256 + q = omega arith in
    let top : pairs / 65536 / 2 ^ 32 ≡ w * 256 + s = omega arith in
    let a : pairs / 2 ^ 32 % 256 ≡ r = omega (arith, high) in
    let b : pairs % 256 ≡ p = omega (arith, low) in
    let c : pairs / 65536 / 2 ^ 32 % 256 ≡ s = omega (arith, top) in
    let d : pairs / 65536 % 256 ≡ q = omega (arith, down) in
    rw (a, b, c, d, first p r P R, second q s Q S) (last p q r s P Q R S)

-- the word of a block and what its steps give: nothing overflows before the pairs
pub record Reads (block : List ℕ) (word : ℕ) : Type 0 where
  pub zeros : 0x3030303030303030 ≤ word
  pub tens : (word - 0x3030303030303030) * 10 < 2 ^ 64
  pub sums : pairs_of (word - 0x3030303030303030) < 2 ^ 64
  pub number : number_after 10 0 block ≡ Some (of_pairs (pairs_of (word - 0x3030303030303030)))
  pub small : of_pairs (pairs_of (word - 0x3030303030303030)) < 10 ^ 8

-- the same of the values of the digits
values : (a b c f g i j k word : ℕ) → a < 10 → b < 10 → c < 10 → f < 10 → g < 10 → i < 10 → j < 10 → k < 10
    → word ≡ 0x3030303030303030
    + (a + 2 ^ 8 * b + 2 ^ 16 * c + 2 ^ 24 * f + 2 ^ 32 * g + 2 ^ 40 * i + 2 ^ 48 * j + 2 ^ 56 * k)
    → (0x3030303030303030 ≤ word) × ((word - 0x3030303030303030) * 10 < 2 ^ 64)
    × (pairs_of (word - 0x3030303030303030) < 2 ^ 64)
    × (of_pairs (pairs_of (word - 0x3030303030303030))
    ≡ a * 10000000 + b * 1000000 + c * 100000 + f * 10000 + g * 1000 + i * 100 + j * 10 + k)
values a b c f g i j k word A B C F G I J K is =
    let digits = a + 2 ^ 8 * b + 2 ^ 16 * c + 2 ^ 24 * f + 2 ^ 32 * g + 2 ^ 40 * i + 2 ^ 48 * j + 2 ^ 56 * k in
    let lanes : word - 0x3030303030303030 ≡ digits = omega arith in
    let shifted : digits / 256
    ≡ b + 2 ^ 8 * c + 2 ^ 16 * f + 2 ^ 24 * g + 2 ^ 32 * i + 2 ^ 40 * j + 2 ^ 48 * k = omega arith in
    let pairs : digits * 10 + digits / 256
    ≡ 10 * a + b + 2 ^ 8 * (10 * b + c) + 2 ^ 16 * (10 * c + f) + 2 ^ 24 * (10 * f + g) + 2 ^ 32 * (10 * g + i)
    + 2 ^ 40 * (10 * i + j) + 2 ^ 48 * (10 * j + k) + 2 ^ 56 * (10 * k) = rw shifted (omega arith) in
    let number = combined (10 * a + b) (10 * c + f) (10 * g + i) (10 * j + k) (10 * b + c) (10 * f + g) (10 * i + j)
    (10 * k) (digits * 10 + digits / 256) (omega arith) (omega arith) (omega arith) (omega arith) (omega arith)
    (omega arith) (omega arith) (omega arith) pairs in
    let tens : digits * 10 < 2 ^ 64 = omega arith in
    let sums : digits * 10 + digits / 256 < 2 ^ 64 = omega arith in
    rw lanes (omega arith, tens, sums, number ∙ omega arith)

digit : (b : ℕ) (bs : List ℕ) → list_all (λ c. is_digit c 10) (b ∷ bs) ≡ true
    → (is_digit b 10 ≡ true) × (48 ≤ b) × (b ≤ 57) × (digit_value b ≡ b - 48)
    × (list_all (λ c. is_digit c 10) bs ≡ true)
digit b bs e =
    let parts = and_parts (is_digit b 10) (list_all (λ c. is_digit c 10) bs) e in
    let range = digit_range b parts.0 in
    let plain = plain_digit b range.0 range.1 in
    (parts.0, range.0, range.1, sym plain.1, parts.1)

pub reads : (block : List ℕ) (word : ℕ) → length block ≡ 8 → list_all (λ c. is_digit c 10) block ≡ true
    → word ≡ from_le_bytes w64 block → Reads block word
reads [] word h d e = absurd (omega arith)
reads (a ∷ []) word h d e = absurd (omega arith)
reads (a ∷ b ∷ []) word h d e = absurd (omega arith)
reads (a ∷ b ∷ c ∷ []) word h d e = absurd (omega arith)
reads (a ∷ b ∷ c ∷ f ∷ []) word h d e = absurd (omega arith)
reads (a ∷ b ∷ c ∷ f ∷ g ∷ []) word h d e = absurd (omega arith)
reads (a ∷ b ∷ c ∷ f ∷ g ∷ i ∷ []) word h d e = absurd (omega arith)
reads (a ∷ b ∷ c ∷ f ∷ g ∷ i ∷ j ∷ []) word h d e = absurd (omega arith)
reads (a ∷ b ∷ c ∷ f ∷ g ∷ i ∷ j ∷ k ∷ l ∷ ls) word h d e = absurd (omega arith)
reads (a ∷ b ∷ c ∷ f ∷ g ∷ i ∷ j ∷ k ∷ []) word h d e =
    let A = digit a (b ∷ c ∷ f ∷ g ∷ i ∷ j ∷ k ∷ []) d in
    let B = digit b (c ∷ f ∷ g ∷ i ∷ j ∷ k ∷ []) A.4 in
    let C = digit c (f ∷ g ∷ i ∷ j ∷ k ∷ []) B.4 in
    let F = digit f (g ∷ i ∷ j ∷ k ∷ []) C.4 in
    let G = digit g (i ∷ j ∷ k ∷ []) F.4 in
    let I = digit i (j ∷ k ∷ []) G.4 in
    let J = digit j (k ∷ []) I.4 in
    let K = digit k [] J.4 in
    let sum : word ≡ a + 2 ^ 8 * b + 2 ^ 16 * c + 2 ^ 24 * f + 2 ^ 32 * g + 2 ^ 40 * i + 2 ^ 48 * j + 2 ^ 56 * k =
    e ∙ omega arith in
    let is : word ≡ 0x3030303030303030
    + (a - 48 + 2 ^ 8 * (b - 48) + 2 ^ 16 * (c - 48) + 2 ^ 24 * (f - 48) + 2 ^ 32 * (g - 48) + 2 ^ 40 * (i - 48)
    + 2 ^ 48 * (j - 48) + 2 ^ 56 * (k - 48)) = omega (arith, sum, A.1, B.1, C.1, F.1, G.1, I.1, J.1, K.1) in
    let v = values (a - 48) (b - 48) (c - 48) (f - 48) (g - 48) (i - 48) (j - 48) (k - 48) word
    (omega (arith, A.2)) (omega (arith, B.2)) (omega (arith, C.2)) (omega (arith, F.2)) (omega (arith, G.2))
    (omega (arith, I.2)) (omega (arith, J.2)) (omega (arith, K.2)) is in
    record {
      zeros = v.0;
      tens = v.1;
      sums = v.2;
      number =
          rw (A.0, B.0, C.0, F.0, G.0, I.0, J.0, K.0, A.3, B.3, C.3, F.3, G.3, I.3, J.3, K.3)
          (ap Some (omega arith ∙ sym v.3));
      small = omega (arith, v.3, A.2, B.2, C.2, F.2, G.2, I.2, J.2, K.2);
    }
