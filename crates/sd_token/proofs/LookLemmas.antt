-- A search through entries: none before a place meets the SID, and then one there does, or the entries end.
use Rattle.std.proofs.Common.{◌≡◌, ◌<◌, ◌≤◌, ◌+◌, ◌-◌, ◌*◌, ◌/◌, ◌%◌, ◌^◌, ◌||◌, ℕ, suc, zero, Bool, true, false}
use Rattle.std.proofs.Common.{if◌then◌else◌, List, [], ◌∷◌, length, take, drop, get_or, ap, refl, sym, ◌∙◌, arith}
use Rattle.std.specs.Prelude.{nat_le}
use Rattle.std.proofs.Math.Seq.{take-add}
use Rattle.std.proofs.lemmas.Bool.{leb-false, leb-true}
use Rattle.std.proofs.lemmas.List.{take_all}
use Rattle.std.proofs.lemmas.List.Folds.{list_any-append}
use Rattle.sd_sid.specs.Sid.{SecurityId}
use Rattle.sd_token.specs.Inner.Search.{AreBlocks}
use Rattle.sd_token.specs.Token.{Asks, Entry, TokenShown, counted_by, entry_meets, in_blocks, looks, meets, searched}

abbrev pub Found : Bool → ℕ → ℕ → Type 0
Found met looked i = (met ≡ true) × (looked ≡ i + 1)

found_later : (b met none : Bool) (looked i : ℕ) → (b || none) ≡ false → (none ≡ false → Found met looked i)
    → Found (b || met) (if b then 1 else suc looked) (suc i)
found_later true met none looked i e later = absurd cc
found_later false met none looked i e later = let h = later e in (h.0, omega (arith, h.1))

pub found : (s : SecurityId) (deny : Bool) (entries : List Entry) (i : ℕ) (d : Entry) → i < length entries
    → meets s deny (take i entries) ≡ false → entry_meets s deny (get_or entries i d) ≡ true
    → Found (meets s deny entries) (looks s deny entries) i
found s deny [] i d within none here = absurd (omega (arith, within))
found s deny (e ∷ entries) zero d within none here = (rw here refl, rw here refl)
found s deny (e ∷ entries) (suc i) d within none here =
    found_later (entry_meets s deny e) (meets s deny entries) (meets s deny (take i entries)) (looks s deny entries) i
    none
    (λ later. found s deny entries i d (omega (arith, within)) later here)

all_later : (b none : Bool) (looked n : ℕ) → (b || none) ≡ false → (none ≡ false → looked ≡ n)
    → (if b then 1 else suc looked) ≡ suc n
all_later true none looked n e later = absurd cc
all_later false none looked n e later = ap suc (later e)

pub looked_at_all : (s : SecurityId) (deny : Bool) (entries : List Entry) → meets s deny entries ≡ false
    → looks s deny entries ≡ length entries
looked_at_all s deny [] none = refl
looked_at_all s deny (e ∷ entries) none =
    all_later (entry_meets s deny e) (meets s deny entries) (looks s deny entries) (length entries) none
    (looked_at_all s deny entries)

most_later : (b : Bool) (looked n : ℕ) → looked ≤ n → (if b then 1 else suc looked) ≤ suc n
most_later true looked n later = omega arith
most_later false looked n later = omega (arith, later)

pub looks_at_most : (s : SecurityId) (deny : Bool) (entries : List Entry) → looks s deny entries ≤ length entries
looks_at_most s deny [] = omega arith
looks_at_most s deny (e ∷ entries) =
    most_later (entry_meets s deny e) (looks s deny entries) (length entries) (looks_at_most s deny entries)

-- In blocks: none before a place meets the SID, and then one of the next few does.

neither : (first second : Bool) → first ≡ false → second ≡ false → (first || second) ≡ false
neither true second one other = one
neither false second one other = other

pub none_run : (s : SecurityId) (deny : Bool) (entries : List Entry) (from n : ℕ)
    → meets s deny (take from entries) ≡ false
    → meets s deny (take n (drop from entries)) ≡ false → meets s deny (take (from + n) entries) ≡ false
none_run s deny entries from n none more =
    ap (meets s deny) (take-add from n entries)
    ∙ list_any-append (entry_meets s deny) (take from entries) (take n (drop from entries))
    ∙ neither (meets s deny (take from entries)) (meets s deny (take n (drop from entries))) none more

-- none before the last of some blocks, and none of that one
pub none_before : (s : SecurityId) (deny : Bool) (entries : List Entry) (from to : ℕ)
    → AreBlocks from to (length entries)
    → meets s deny (take from entries) ≡ false → meets s deny (take (to - 16 - from) (drop from entries)) ≡ false
    → meets s deny (take (to - 16) entries) ≡ false
none_before s deny entries from to blocks none more =
    let front : from + (to - 16 - from) ≡ to - 16 = omega (arith, blocks.some) in
    rw front at (none_run s deny entries from (to - 16 - from) none more)

pub none_up_to : (s : SecurityId) (deny : Bool) (entries : List Entry) (from to : ℕ)
    → AreBlocks from to (length entries)
    → meets s deny (take (to - 16) entries) ≡ false → meets s deny (take 16 (drop (to - 16) entries)) ≡ false
    → meets s deny (take to entries) ≡ false
none_up_to s deny entries from to blocks none last =
    let all : to - 16 + 16 ≡ to = omega (arith, blocks.some) in
    rw all at (none_run s deny entries (to - 16) 16 none last)

abbrev FoundWithin : Bool → ℕ → ℕ → Type 0
FoundWithin met looked n = (met ≡ true) × (0 < looked) × (looked ≤ n)

within_later : (b met front : Bool) (looked n : ℕ) → (b || front) ≡ true → (front ≡ true → FoundWithin met looked n)
    → FoundWithin (b || met) (if b then 1 else suc looked) (suc n)
within_later true met front looked n some later = (refl, omega arith, omega arith)
within_later false met front looked n some later = let h = later some in (h.0, omega arith, omega (arith, h.2))

found_within : (s : SecurityId) (deny : Bool) (entries : List Entry) (n : ℕ) → meets s deny (take n entries) ≡ true
    → FoundWithin (meets s deny entries) (looks s deny entries) n
found_within s deny [] zero some = absurd cc
found_within s deny [] (suc n) some = absurd cc
found_within s deny (e ∷ entries) zero some = absurd cc
found_within s deny (e ∷ entries) (suc n) some =
    within_later (entry_meets s deny e) (meets s deny entries) (meets s deny (take n entries)) (looks s deny entries) n
    some
    (found_within s deny entries n)

abbrev Behind : Bool → Bool → ℕ → ℕ → ℕ → Type 0
Behind met rest looked behind from = (met ≡ rest) × (looked ≡ from + behind)

behind_later : (b met none rest : Bool) (looked behind from : ℕ) → (b || none) ≡ false
    → (none ≡ false → Behind met rest looked behind from)
    → Behind (b || met) rest (if b then 1 else suc looked) behind (suc from)
behind_later true met none rest looked behind from clear later = absurd cc
behind_later false met none rest looked behind from clear later = let h = later clear in (h.0, omega (arith, h.1))

behind : (s : SecurityId) (deny : Bool) (entries : List Entry) (from : ℕ) → from ≤ length entries
    → meets s deny (take from entries) ≡ false
    → Behind (meets s deny entries) (meets s deny (drop from entries)) (looks s deny entries)
    (looks s deny (drop from entries)) from
behind s deny entries zero within none = (refl, omega arith)
behind s deny [] (suc from) within none = absurd (omega (arith, within))
behind s deny (e ∷ entries) (suc from) within none =
    behind_later (entry_meets s deny e) (meets s deny entries) (meets s deny (take from entries))
    (meets s deny (drop from entries))
    (looks s deny entries) (looks s deny (drop from entries)) from none
    (behind s deny entries from (omega (arith, within)))

-- What a search compares.

as_searched : ℕ → ℕ → ℕ
as_searched n all = if nat_le (in_blocks n) all then in_blocks n else n

whole_blocks : (n all from : ℕ) → from % 16 ≡ 0 → from < n → n ≤ from + 16 → from + 16 ≤ all
    → as_searched n all ≡ from + 16
unfolding as_searched
whole_blocks n all from start low high room = by_test (nat_le (in_blocks n) all) refl
  where
    by_test : (b : Bool) → nat_le (in_blocks n) all ≡ b → (if b then in_blocks n else n) ≡ from + 16
    by_test true is = omega (arith, start, low, high)
    by_test false is = let more = leb-false (in_blocks n) all is in absurd (omega (arith, more, start, low, high, room))

one_by_one : (n all : ℕ) → all / 16 * 16 ≤ n → n ≤ all → as_searched n all ≡ n
unfolding as_searched
one_by_one n all low high = by_test (nat_le (in_blocks n) all) refl
  where
    by_test : (b : Bool) → nat_le (in_blocks n) all ≡ b → (if b then in_blocks n else n) ≡ n
    by_test true is = let most = leb-true (in_blocks n) all is in omega (arith, most, low, high)
    by_test false is = refl

abbrev pub Searched : SecurityId → Bool → List Entry → Bool → ℕ → Type 0
Searched s deny entries met n = (met ≡ meets s deny entries) × (searched s deny entries ≡ n)

pub searched_block : (s : SecurityId) (deny : Bool) (entries : List Entry) (from to : ℕ)
    → AreBlocks from to (length entries)
    → from % 16 ≡ 0 → meets s deny (take (to - 16) entries) ≡ false
    → meets s deny (take 16 (drop (to - 16) entries)) ≡ true → Searched s deny entries true to
unfolding as_searched
searched_block s deny entries from to blocks start none some =
    let rest = behind s deny entries (to - 16) (omega (arith, blocks.within)) none in
    let found = found_within s deny (drop (to - 16) entries) 16 some in
    let all : to - 16 + 16 ≡ to = omega (arith, blocks.some) in (
      sym (rest.0 ∙ found.0),
      whole_blocks (looks s deny entries) (length entries) (to - 16) (omega (arith, start, blocks.whole, blocks.some))
          (omega (arith, rest.1, found.1)) (omega (arith, rest.1, found.2)) (omega (arith, blocks.some, blocks.within))
          ∙ all,
    )

pub searched_one : (s : SecurityId) (deny : Bool) (entries : List Entry) (i : ℕ) (d : Entry)
    → length entries / 16 * 16 ≤ i → i < length entries → meets s deny (take i entries) ≡ false
    → entry_meets s deny (get_or entries i d) ≡ true → Searched s deny entries true (i + 1)
unfolding as_searched
searched_one s deny entries i d low within none here =
    let one = found s deny entries i d within none here in (
      sym one.0,
      ap (λ (n : ℕ). as_searched n (length entries)) one.1
          ∙ one_by_one (i + 1) (length entries) (omega (arith, low)) (omega (arith, within)),
    )

pub searched_all : (s : SecurityId) (deny : Bool) (entries : List Entry) (i : ℕ) → i ≡ length entries
    → meets s deny (take i entries) ≡ false → Searched s deny entries false i
unfolding as_searched
searched_all s deny entries i end none =
    let at_all : meets s deny entries ≡ false = rw (take_all i entries (omega (arith, end))) at none in (
      sym at_all,
      ap (λ (n : ℕ). as_searched n (length entries)) (looked_at_all s deny entries at_all ∙ sym end)
          ∙ one_by_one i (length entries) (omega (arith, end)) (omega (arith, end)),
    )

in_blocks_most : (n all : ℕ) → n ≤ all → as_searched n all ≤ all
unfolding as_searched
in_blocks_most n all most = by_test (nat_le (in_blocks n) all) refl
  where
    by_test : (b : Bool) → nat_le (in_blocks n) all ≡ b → (if b then in_blocks n else n) ≤ all
    by_test true is = leb-true (in_blocks n) all is
    by_test false is = most

pub searched_at_most : (s : SecurityId) (deny : Bool) (entries : List Entry) → searched s deny entries ≤ length entries
unfolding as_searched
searched_at_most s deny entries =
    in_blocks_most (looks s deny entries) (length entries) (looks_at_most s deny entries)

-- So each entry is compared at most once.
pub asks_once : (token token' : TokenShown) (s : SecurityId) (deny : Bool) → token'.holder ≡ token.holder
    → token.compared < 2 ^ 64 → token'.compared ≡ counted_by (searched s deny token.holder.entries) token.compared
    → Asks token token' 1
asks_once token token' s deny same limit counted =
    let most = searched_at_most s deny token.holder.entries in
    record {
      holder = same;
      compared = record { goes_on = omega (arith, limit, counted); at_most = omega (arith, counted, most) };
    }
