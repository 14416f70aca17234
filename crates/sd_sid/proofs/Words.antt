-- The loop that fills a SID's array, word by word.
use Rattle.std.proofs.Common.{◌≡◌, ◌<◌, ℕ, zero, suc, ◌+◌, ◌-◌, ◌*◌, ◌^◌, List, [], ◌∷◌, length, take, drop, set}
use Rattle.std.proofs.Common.{replicate, refl, sym, ap, ◌∙◌, arith}
use Rattle.std.proofs.lemmas.List.{drop-drop, take_more_set, drop-set-lt, drop-replicate, length-set}
use Rattle.byteorder.specs.Endian.{little_number}
use Rattle.sd_sid.specs.Sid.{AreWords, words}
use Rattle.sd_sid.proofs.laws.SidLaws.{words-more}

AreWords-zeros : (n : ℕ) → AreWords (replicate n 0)
AreWords-zeros zero i = omega arith
AreWords-zeros (suc n) zero = omega arith
AreWords-zeros (suc n) (suc i) = AreWords-zeros n i

pub AreWords-set : (xs : List ℕ) (i x : ℕ) → x < 2 ^ 32 → AreWords xs → AreWords (set xs i x)
AreWords-set [] i x fits h k = h k
AreWords-set (y ∷ ys) zero x fits h zero = fits
AreWords-set (y ∷ ys) zero x fits h (suc k) = h (suc k)
AreWords-set (y ∷ ys) (suc i) x fits h zero = h 0
AreWords-set (y ∷ ys) (suc i) x fits h (suc k) = AreWords-set ys i x fits (λ j. h (suc j)) k

-- one sub-authority more, behind which zeros stand
pub zeros-after : (i x : ℕ) (xs : List ℕ) → i < 15 → length xs ≡ 15 → drop i xs ≡ replicate (15 - i) 0
    → drop (i + 1) (set xs i x) ≡ replicate (15 - (i + 1)) 0
zeros-after i x xs room full back =
    let here = drop-drop 1 i xs in
    let one : drop 1 (replicate (15 - i) 0) ≡ replicate (15 - i - 1) 0 = drop-replicate 1 (15 - i) 0 in
    let count : 15 - i - 1 ≡ 15 - (i + 1) = omega arith in
    drop-set-lt (i + 1) xs i x (omega arith) ∙ sym here ∙ ap (drop 1) back ∙ one ∙ ap (λ (k : ℕ). replicate k 0) count

-- what the loop keeps: the words so far, and zeros after them
pub record Filled (i : ℕ) (xs bs : List ℕ) : Type 0 where
  pub full : length xs ≡ 15
  pub small : AreWords xs
  pub front : take i xs ≡ words i bs
  pub back : drop i xs ≡ replicate (15 - i) 0

pub Filled-start : (bs : List ℕ) → Filled 0 (replicate 15 0) bs
Filled-start bs = record { full = refl; small = AreWords-zeros 15; front = refl; back = refl }

pub Filled-more : (i x : ℕ) (xs bs : List ℕ) → i < 15 → x < 2 ^ 32 → x ≡ little_number 4 (drop (4 * i) bs)
    → Filled i xs bs → Filled (i + 1) (set xs i x) bs
Filled-more i x xs bs room fits e h = let full = h.full in record {
  full = length-set xs i x ∙ full;
  small = AreWords-set xs i x fits h.small;
  front =
      let more = words-more i (i + 1) bs refl in
      rw (take_more_set xs i x (omega arith), h.front, e, more) refl;
  back = zeros-after i x xs room full h.back;
}

pub AreWords-take : (n : ℕ) (xs : List ℕ) → AreWords xs → AreWords (take n xs)
AreWords-take zero xs h i = omega arith
AreWords-take (suc n) [] h i = omega arith
AreWords-take (suc n) (x ∷ xs) h zero = h 0
AreWords-take (suc n) (x ∷ xs) h (suc i) = AreWords-take n xs (λ k. h (suc k)) i
