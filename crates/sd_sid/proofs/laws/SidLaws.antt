-- A SID's bytes read as the SID, and what reads as a SID is its bytes.
use Rattle.std.proofs.Common.{◌≡◌, ◌≤◌, ℕ, zero, suc, ◌+◌, ◌*◌, Bool, true, cond, List, [], ◌∷◌, ◌++◌, length, take}
use Rattle.std.proofs.Common.{drop, slice_index, Option, Some, None, refl, sym, ap, ◌∙◌, arith, append_assoc}
use Rattle.std.proofs.Common.{length-append, length-drop, subst}
use Rattle.std.proofs.lemmas.Bool.Decides.{nat_tests}
use Rattle.std.proofs.lemmas.Option.{cond_some}
use Rattle.std.proofs.lemmas.List.{drop-drop, take-append-drop}
use Rattle.std.proofs.Math.Seq.{take-add}
use Rattle.std.specs.List.{flat_map}
use Rattle.byteorder.specs.Endian.{big_bytes, big_number, little_bytes, little_number}
use Rattle.byteorder.specs.Numbers.{big_number-reads_back, little_number-reads_back, little_from-lt, big_from-lt}
use Rattle.sd_sid.specs.Sid.{SecurityId, IsSid, AreWords, BeginsWithSid, sid_at, sid_bytes, sid_of, sid_size}
use Rattle.sd_sid.specs.Sid.{sid_stands, words}
use Rattle.sd_sid.proofs.laws.Numbers.{AreBytes, AreBytes-drop, bytes_high_first-big_from, bytes_low_first-little_from}

-- what the test says
pub record SidStands (bytes : List ℕ) : Type 0 where
  pub header : 8 ≤ length bytes
  pub revision : slice_index bytes 0 ≡ 1
  pub count : slice_index bytes 1 ≤ 15
  pub whole : 8 + 4 * slice_index bytes 1 ≤ length bytes

pub Stands-test : (bytes : List ℕ) → sid_stands bytes ≡ true → SidStands bytes
Stands-test bytes h = record {
  header = grind (arith, nat_tests);
  revision = grind (arith, nat_tests);
  count = grind (arith, nat_tests);
  whole = grind (arith, nat_tests);
}

pub test-Stands : (bytes : List ℕ) → SidStands bytes → sid_stands bytes ≡ true
test-Stands bytes h = let a = h.header in let b = h.revision in let c = h.count in let d = h.whole in grind
    (arith, nat_tests)

pub length-words : (n : ℕ) (bs : List ℕ) → length (words n bs) ≡ n
length-words zero bs = refl
length-words (suc n) bs = let ih = length-words n (drop 4 bs) in omega (arith, ih)

AreWords-words : (n : ℕ) (bs : List ℕ) → AreBytes bs → AreWords (words n bs)
AreWords-words zero bs h i = omega arith
AreWords-words (suc n) bs h zero = omega (arith, little_from-lt 0 4 bs h)
AreWords-words (suc n) bs h (suc i) = AreWords-words n (drop 4 bs) (AreBytes-drop 4 bs h) i

words-bytes : (n : ℕ) (bs : List ℕ) → AreBytes bs → 4 * n ≤ length bs
    → flat_map (little_bytes 4) (words n bs) ≡ take (4 * n) bs
words-bytes zero bs h room = refl
words-bytes (suc n) bs h room =
    let head : little_bytes 4 (little_number 4 bs) ≡ take 4 bs = bytes_low_first-little_from 4 bs (omega arith) h in
    let tail = words-bytes n (drop 4 bs) (AreBytes-drop 4 bs h) (omega (arith, length-drop 4 bs)) in
    let size : 4 + 4 * n ≡ 4 * suc n = omega arith in
    ap (λ (r : List ℕ). r ++ flat_map (little_bytes 4) (words n (drop 4 bs))) head
    ∙ ap (λ (r : List ℕ). take 4 bs ++ r) tail ∙ sym (take-add 4 (4 * n) bs) ∙ ap (λ (k : ℕ). take k bs) size

bytes-words : (xs rest : List ℕ) → AreWords xs → words (length xs) (flat_map (little_bytes 4) xs ++ rest) ≡ xs
bytes-words [] rest h = refl
bytes-words (x ∷ xs) rest h =
    let head : little_number 4 (little_bytes 4 x ++ (flat_map (little_bytes 4) xs ++ rest)) ≡ x =
    little_number-reads_back 4 x (flat_map (little_bytes 4) xs ++ rest) (h 0) in
    let tail = bytes-words xs rest (λ i. h (suc i)) in
    ap (λ (r : ℕ). r ∷ words (length xs) (flat_map (little_bytes 4) xs ++ rest)) head ∙ ap (λ (r : List ℕ). x ∷ r) tail

pub length-word_bytes : (xs : List ℕ) → length (flat_map (little_bytes 4) xs) ≡ 4 * length xs
length-word_bytes [] = refl
length-word_bytes (x ∷ xs) = let ih = length-word_bytes xs in omega (arith, ih)

-- a SID has as many bytes as its size says
pub length-sid_bytes : (s : SecurityId) → length (sid_bytes s) ≡ sid_size s
length-sid_bytes s = let cells = length-word_bytes s.subs in omega (arith, cells)

abbrev sid_answer : ℕ → List ℕ → ℕ → Option (SecurityId × ℕ)
sid_answer a w n = Some (record { authority = a; subs = w }, n)

sid_at-front : (s : SecurityId) (rest : List ℕ) → IsSid s → sid_at (sid_bytes s ++ rest) ≡ Some (s, sid_size s)
unfolding sid_at
sid_at-front s rest i =
    let bytes = sid_bytes s ++ rest in
    let size = length-append (flat_map (little_bytes 4) s.subs) rest in
    let cells = length-word_bytes s.subs in
    let stands : SidStands bytes = record {
      header = omega (arith, size, cells);
      revision = refl;
      count = i.count;
      whole = omega (arith, size, cells);
    } in
    let authority : big_number 6 (big_bytes 6 s.authority ++ (flat_map (little_bytes 4) s.subs ++ rest)) ≡ s.authority =
    big_number-reads_back 6 s.authority (flat_map (little_bytes 4) s.subs ++ rest) i.authority in
    let subs = bytes-words s.subs rest i.subs in
    ap (λ (b : Bool). cond b (Some (sid_of bytes, sid_size s)) None) (test-Stands bytes stands)
    ∙ ap (λ (a : ℕ). sid_answer a (words (length s.subs) (flat_map (little_bytes 4) s.subs ++ rest))
    (sid_size s)) authority
    ∙ ap (λ (w : List ℕ). sid_answer s.authority w (sid_size s)) subs

-- the bytes of a SID read as it, whatever follows
pub sid_at-bytes : (bytes : List ℕ) (s : SecurityId) → BeginsWithSid bytes s → sid_at bytes ≡ Some (s, sid_size s)
sid_at-bytes bytes s h = ap sid_at h.shape ∙ sid_at-front s h.rest h.limits

after_count : (y : ℕ) (tail : List ℕ) → AreBytes tail → 6 + 4 * y ≤ length tail
    → big_bytes 6 (big_number 6 tail) ++ flat_map (little_bytes 4) (words y (drop 6 tail))
    ++ drop (4 * y) (drop 6 tail) ≡ tail
after_count y tail h room =
    let head : big_bytes 6 (big_number 6 tail) ≡ take 6 tail = bytes_high_first-big_from 6 tail (omega arith) h in
    let subs = words-bytes y (drop 6 tail) (AreBytes-drop 6 tail h) (omega (arith, length-drop 6 tail)) in
    ap (λ (r : List ℕ). r ++ flat_map (little_bytes 4) (words y (drop 6 tail)) ++ drop (4 * y) (drop 6 tail)) head
    ∙ ap (λ (r : List ℕ). take 6 tail ++ r ++ drop (4 * y) (drop 6 tail)) subs
    ∙ append_assoc (take 6 tail) (take (4 * y) (drop 6 tail)) (drop (4 * y) (drop 6 tail))
    ∙ ap (λ (r : List ℕ). take 6 tail ++ r) (take-append-drop (4 * y) (drop 6 tail)) ∙ take-append-drop 6 tail

-- what the test lets through begins with the SID
pub sid_of-stands : (bytes : List ℕ) → AreBytes bytes → SidStands bytes → BeginsWithSid bytes (sid_of bytes)
sid_of-stands [] h t = absurd (omega (arith, t.header))
sid_of-stands (x ∷ []) h t = absurd (omega (arith, t.header))
sid_of-stands (x ∷ y ∷ tail) h t =
    let count = length-words y (drop 6 tail) in
    let rest = drop (4 * y) (drop 6 tail) in
    let revision : x ≡ 1 = t.revision in
    let whole = after_count y tail (λ i. h (suc (suc i))) (omega (arith, t.whole)) in
    record {
      limits = record {
        authority = omega (arith, big_from-lt 0 6 tail (λ i. h (suc (suc i))));
        count = omega (arith, count, t.count);
        subs = AreWords-words y (drop 6 tail) (AreBytes-drop 6 tail (λ i. h (suc (suc i))));
      };
      rest = rest;
      shape = ap (λ (r : ℕ). r ∷ y ∷ tail) revision ∙ ap (λ (r : ℕ). 1 ∷ r ∷ tail) (sym count)
          ∙ ap (λ (r : List ℕ). 1 ∷ length (words y (drop 6 tail)) ∷ r) (sym whole);
    }

-- what the test lets through is found, with its size
pub sid_at-stands : (bytes : List ℕ) → AreBytes bytes → SidStands bytes
    → BeginsWithSid bytes (sid_of bytes) × (8 + 4 * slice_index bytes 1 ≡ sid_size (sid_of bytes))
    × (sid_at bytes ≡ Some (sid_of bytes, 8 + 4 * slice_index bytes 1))
unfolding sid_at
sid_at-stands bytes h t = (
  sid_of-stands bytes h t,
  ap (λ (k : ℕ). 8 + 4 * k) (sym (length-words (slice_index bytes 1) (drop 8 bytes))),
  rw (test-Stands bytes t) refl,
)

-- as many sub-authorities as the bytes say
pub subs-count : (bytes : List ℕ) (s : SecurityId) → sid_of bytes ≡ s → length s.subs ≡ slice_index bytes 1
subs-count bytes s e = ap (λ (t : SecurityId). length t.subs) (sym e)
    ∙ length-words (slice_index bytes 1) (drop 8 bytes)

-- what reads as a SID is its bytes
pub sid_at-found : (bytes : List ℕ) (s : SecurityId) (n : ℕ) → AreBytes bytes → sid_at bytes ≡ Some (s, n)
    → BeginsWithSid bytes s × (n ≡ sid_size s)
unfolding sid_at
sid_at-found bytes s n h e =
    let parts = cond_some (sid_stands bytes) (sid_of bytes, 8 + 4 * slice_index bytes 1) (s, n) e in
    let stands = Stands-test bytes parts.0 in
    let same : sid_of bytes ≡ s = ap (λ (p : SecurityId × ℕ). p.0) parts.1 in
    let size : 8 + 4 * slice_index bytes 1 ≡ n = ap (λ (p : SecurityId × ℕ). p.1) parts.1 in
    let count = subs-count bytes s same in
    (subst (λ (t : SecurityId). BeginsWithSid bytes t) same (sid_of-stands bytes h stands), omega (arith, size, count))

-- what begins with a SID has all of its bytes
pub begins-Stands : (bytes : List ℕ) (s : SecurityId) → BeginsWithSid bytes s → SidStands bytes
unfolding sid_at
begins-Stands bytes s h =
    let found = sid_at-bytes bytes s h in
    let parts = cond_some (sid_stands bytes) (sid_of bytes, 8 + 4 * slice_index bytes 1) (s, sid_size s) found in
    Stands-test bytes parts.0

-- the SID that is found is the one that the bytes give
pub sid_of-at : (bytes : List ℕ) (s : SecurityId) (n : ℕ) → sid_at bytes ≡ Some (s, n) → sid_of bytes ≡ s
unfolding sid_at
sid_of-at bytes s n e =
    let parts = cond_some (sid_stands bytes) (sid_of bytes, 8 + 4 * slice_index bytes 1) (s, n) e in
    ap (λ (p : SecurityId × ℕ). p.0) parts.1

-- one word more
pub words-more : (n m : ℕ) (bs : List ℕ) → m ≡ n + 1 → words m bs ≡ words n bs ++ little_number 4 (drop (4 * n) bs) ∷ []
words-more zero m bs e = rw e refl
words-more (suc n) zero bs e = absurd (omega arith)
words-more (suc n) (suc m) bs e =
    let ih = words-more n m (drop 4 bs) (omega arith) in
    let moved = drop-drop (4 * n) 4 bs in
    let place : 4 + 4 * n ≡ 4 * suc n = omega arith in
    ap (λ (r : List ℕ). little_number 4 bs ∷ r)
    (ih ∙ ap (λ (r : List ℕ). words n (drop 4 bs) ++ little_number 4 r ∷ [])
    (moved ∙ ap (λ (k : ℕ). drop k bs) place))
