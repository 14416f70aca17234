-- A number at an offset of some bytes, low byte first, written again.
use Rattle.std.proofs.Common.{◌≡◌, ◌≤◌, ◌+◌, ℕ, List, ◌++◌, length, take, drop, sym, ap, ◌∙◌, arith, length-drop}
use Rattle.std.proofs.Math.Seq.{take-add}
use Rattle.std.proofs.lemmas.List.{drop-drop}
use Rattle.byteorder.specs.Endian.{little_bytes, little_number}
use Rattle.sd_sid.proofs.laws.Numbers.{AreBytes, AreBytes-drop, bytes_low_first-little_from}

-- it has the bytes that stand there
pub number : (k i : ℕ) (xs : List ℕ) → AreBytes xs → i + k ≤ length xs
    → little_bytes k (little_number k (drop i xs)) ≡ take k (drop i xs)
number k i xs b room =
    bytes_low_first-little_from k (drop i xs) (omega (arith, length-drop i xs)) (AreBytes-drop i xs b)

-- so bytes are a number, and what stands after it
pub number-first : (k n i : ℕ) (xs : List ℕ) → AreBytes xs → i + k ≤ length xs
    → take (k + n) (drop i xs) ≡ little_bytes k (little_number k (drop i xs)) ++ take n (drop (i + k) xs)
number-first k n i xs b room =
    take-add k n (drop i xs)
    ∙ ap (λ (ys : List ℕ). take k (drop i xs) ++ take n ys) (drop-drop k i xs)
    ∙ ap (λ (ys : List ℕ). ys ++ take n (drop (i + k) xs)) (sym (number k i xs b room))
