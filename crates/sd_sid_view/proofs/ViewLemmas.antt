-- The parts of a SID in its bytes.
use Rattle.std.proofs.Common.{◌≡◌, ◌≤◌, ◌<◌, ℕ, zero, suc, ◌+◌, ◌-◌, ◌*◌, Bool, true, false, ◌&&◌, refl, sym, ap, ◌∙◌}
use Rattle.std.proofs.Common.{List, [], ◌∷◌, ◌++◌, slice_index, codes, drop, take, length, arith, true≢false}
use Rattle.std.specs.Prelude.{◌==◌, nat_le}
use Rattle.std.proofs.lemmas.Bool.Decides.{nat_tests}
use Rattle.std.proofs.lemmas.Bool.{and_parts}
use Rattle.std.proofs.lemmas.List.{drop-drop, length-drop, take_all}
use Rattle.std.proofs.lemmas.Slice.Eq.{bytes_eq-Decides}
use Rattle.std.specs.List.{flat_map}
use Rattle.std.specs.Fmt.{digits}
use Rattle.std.specs.Str.{bytes_eq}
use Rattle.byteorder.specs.Endian.{little_number}
use Rattle.sd_sid.specs.Sid.{SecurityId, sid_of, words}
use Rattle.sd_sid.specs.SidText.{sid_text, sub_text}
use Rattle.sd_sid.proofs.laws.SidLaws.{subs-count}

-- one of the words
pub words-at : (n i : ℕ) (bs : List ℕ) → i < n → slice_index (words n bs) i ≡ little_number 4 (drop (4 * i) bs)
words-at zero i bs h = absurd (omega arith)
words-at (suc n) zero bs h = refl
words-at (suc n) (suc i) bs h =
    let place : 4 + 4 * i ≡ 4 * suc i = omega arith in
    words-at n i (drop 4 bs) (omega arith)
    ∙ ap (little_number 4) (drop-drop (4 * i) 4 bs ∙ ap (λ (k : ℕ). drop k bs) place)

-- one of the sub-authorities
pub sub-at : (bytes : List ℕ) (s : SecurityId) (i : ℕ) → sid_of bytes ≡ s → i < length s.subs
    → little_number 4 (drop (8 + 4 * i) bytes) ≡ slice_index s.subs i
sub-at bytes s i e h =
    let count = subs-count bytes s e in
    sym (words-at (slice_index bytes 1) i (drop 8 bytes) (omega (arith, count))
    ∙ ap (little_number 4) (drop-drop (4 * i) 8 bytes)) ∙ ap (λ (t : SecurityId). slice_index t.subs i) e

domain_words-text : (s : SecurityId) (n : ℕ) (bs : List ℕ) → s.authority ≡ 5 → s.subs ≡ words n bs → 1 ≤ n
    → slice_index s.subs 0 ≡ 21
    → codes "S-1-5-21" ++ flat_map sub_text (words (n - 1) (drop 4 bs)) ≡ sid_text s
unfolding digits
domain_words-text s zero bs five same some first = absurd (omega arith)
domain_words-text s (suc n) bs five same some first =
    let one : little_number 4 bs ≡ 21 = rw same at first in
    let less : suc n - 1 ≡ n = omega arith in
    rw (same, five, one, less) refl

-- the text of a SID that begins as those of domains do
pub domain_view-text : (bytes : List ℕ) (s : SecurityId) → sid_of bytes ≡ s
    → (nat_le 1 (length s.subs) && s.authority == 5 && slice_index s.subs 0 == 21) ≡ true
    → codes "S-1-5-21" ++ flat_map sub_text (words (slice_index bytes 1 - 1) (drop 12 bytes)) ≡ sid_text s
domain_view-text bytes s e test =
    let count = subs-count bytes s e in
    let some : 1 ≤ length s.subs = grind (arith, nat_tests) in
    let five : s.authority ≡ 5 = grind (arith, nat_tests) in
    let first : slice_index s.subs 0 ≡ 21 = grind (arith, nat_tests) in
    ap (λ (r : List ℕ). codes "S-1-5-21" ++ flat_map sub_text (words (slice_index bytes 1 - 1) r))
    (sym (drop-drop 4 8 bytes))
    ∙ domain_words-text s (slice_index bytes 1) (drop 8 bytes) five (ap (λ (t : SecurityId). t.subs) (sym e))
    (omega (arith, count, some)) first

-- Where the first numbers are equal, the rest decides.

then_rest : (one first all rest : Bool) → (one && first) ≡ true → (first ≡ true → all ≡ rest) → (one && all) ≡ rest
then_rest true first all rest equal later = later equal
then_rest false first all rest equal later = absurd cc

pub rest_decides : (n : ℕ) (xs ys : List ℕ) → length xs ≡ length ys → bytes_eq (take n xs) (take n ys) ≡ true
    → bytes_eq xs ys ≡ bytes_eq (drop n xs) (drop n ys)
rest_decides zero xs ys long equal = refl
rest_decides (suc n) [] [] long equal = refl
rest_decides (suc n) [] (y ∷ ys) long equal = absurd (omega (arith, long))
rest_decides (suc n) (x ∷ xs) [] long equal = absurd (omega (arith, long))
rest_decides (suc n) (x ∷ xs) (y ∷ ys) long equal =
    then_rest (x == y) (bytes_eq (take n xs) (take n ys)) (bytes_eq xs ys) (bytes_eq (drop n xs) (drop n ys)) equal
    (rest_decides n xs ys (omega (arith, long)))

-- Equal fronts and windows of two lists.

pub shorter_front : (p n : ℕ) (xs ys : List ℕ) → p ≤ n → bytes_eq (take n xs) (take n ys) ≡ true
    → bytes_eq (take p xs) (take p ys) ≡ true
shorter_front zero n xs ys within equal = refl
shorter_front (suc p) zero xs ys within equal = absurd (omega (arith, within))
shorter_front (suc p) (suc n) [] [] within equal = refl
shorter_front (suc p) (suc n) [] (y ∷ ys) within equal = absurd cc
shorter_front (suc p) (suc n) (x ∷ xs) [] within equal = absurd cc
shorter_front (suc p) (suc n) (x ∷ xs) (y ∷ ys) within equal =
    let parts = and_parts (x == y) _ equal in
    rw (parts.0, shorter_front p n xs ys (omega (arith, within)) parts.1) refl

pub joined_fronts : (n m k : ℕ) (xs ys : List ℕ) → k ≡ n + m → bytes_eq (take n xs) (take n ys) ≡ true
    → bytes_eq (take m (drop n xs)) (take m (drop n ys)) ≡ true → bytes_eq (take k xs) (take k ys) ≡ true
joined_fronts zero m k xs ys sum front window = let is : m ≡ k = omega (arith, sum) in rw is at window
joined_fronts (suc n) m zero xs ys sum front window = absurd (omega (arith, sum))
joined_fronts (suc n) m (suc k) [] [] sum front window = refl
joined_fronts (suc n) m (suc k) [] (y ∷ ys) sum front window = absurd cc
joined_fronts (suc n) m (suc k) (x ∷ xs) [] sum front window = absurd cc
joined_fronts (suc n) m (suc k) (x ∷ xs) (y ∷ ys) sum front window =
    let parts = and_parts (x == y) _ front in
    rw (parts.0, joined_fronts n m k xs ys (omega (arith, sum)) parts.1 window) refl

-- a window that differs
pub window_decides : (n m : ℕ) (xs ys : List ℕ) → bytes_eq (take m (drop n xs)) (take m (drop n ys)) ≡ false
    → bytes_eq xs ys ≡ false
window_decides n m xs ys other = by_test (bytes_eq xs ys) refl
  where
    by_test : (b : Bool) → bytes_eq xs ys ≡ b → bytes_eq xs ys ≡ false
    by_test false e = e
    by_test true e =
        let same = (bytes_eq-Decides xs ys).0 e in
        let window = (bytes_eq-Decides (take m (drop n xs)) (take m (drop n ys))).1
        (ap (λ (zs : List ℕ). take m (drop n zs)) same) in
        absurd (true≢false (sym window ∙ other))

-- a front and the end behind it, which may begin in the front
pub ends_decide : (n m p : ℕ) (xs ys : List ℕ) → length xs ≡ length ys → length ys ≡ p + m → p ≤ n
    → bytes_eq (take n xs) (take n ys) ≡ true
    → bytes_eq (take m (drop p xs)) (take m (drop p ys)) ≡ true → bytes_eq xs ys ≡ true
ends_decide n m p xs ys long size before front window =
    let whole : (zs : List ℕ) → length zs ≡ p + m → take m (drop p zs) ≡ drop p zs =
    λ zs is. take_all m (drop p zs) (omega (arith, is, length-drop p zs)) in
    rest_decides p xs ys long (shorter_front p n xs ys before front)
    ∙ sym (rw (whole xs (long ∙ size), whole ys size) refl)
    ∙ window

-- where the front and the end are equal, a block between decides, if it leaves nothing out
pub block_decides : (n p : ℕ) (xs ys : List ℕ) → length xs ≡ length ys → length ys ≡ p + 4 → p ≤ n + 4
    → bytes_eq (take n xs) (take n ys) ≡ true → bytes_eq (take 4 (drop p xs)) (take 4 (drop p ys)) ≡ true
    → bytes_eq (take 4 (drop n xs)) (take 4 (drop n ys)) ≡ bytes_eq xs ys
block_decides n p xs ys long size before front window =
    by_test (bytes_eq (take 4 (drop n xs)) (take 4 (drop n ys))) refl
  where
    by_test : (b : Bool) → bytes_eq (take 4 (drop n xs)) (take 4 (drop n ys)) ≡ b
        → bytes_eq (take 4 (drop n xs)) (take 4 (drop n ys)) ≡ bytes_eq xs ys
    by_test true e =
        e ∙ sym (ends_decide (n + 4) 4 p xs ys long size before (joined_fronts n 4 (n + 4) xs ys refl front e) window)
    by_test false e = e ∙ sym (window_decides n 4 xs ys e)
