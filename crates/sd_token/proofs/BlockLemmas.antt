-- A block of entries, and the number that has a bit for each of its keys: it is set where the key is the one that is
-- looked for.
use Rattle.std.proofs.Common.{◌≡◌, ◌<◌, ◌≤◌, ◌+◌, ◌-◌, ◌*◌, ◌/◌, ◌%◌, ◌^◌, ℕ, suc, zero, Bool, true, false, ◌||◌}
use Rattle.std.proofs.Common.{if◌then◌else◌, List, [], ◌∷◌, length, take, drop, map, ap, refl, sym, ◌∙◌, arith}
use Rattle.std.specs.Prelude.{◌==◌}
use Rattle.std.proofs.Math.Nat.{pow-succ'}
use Rattle.std.proofs.lemmas.List.{drop-drop, length-map}
use Rattle.std.proofs.lemmas.Simd.{length-chunk, mask_l-lt}
use Rattle.std.specs.Int.Bits.{and_self, and_step, bit_and}
use Rattle.std.specs.Int.Count.{count_trailing_zeros, under}
use Rattle.std.specs.Simd.Lanes.{chunk, mask_l}
use Rattle.sd_sid.specs.Sid.{SecurityId}
use Rattle.sd_token.specs.Token.{Entry, entry_meets, meets}
use Rattle.sd_token.specs.Inner.Search.{LacksKey, marked_meets, same_bits}
use Rattle.sd_token.specs.TokenWords.{entries_of, entry_of, keyed, sid_key}
use Rattle.sd_token.proofs.LookLemmas.{none_run}
use Rattle.sd_token.proofs.TokenLemmas.{keyed_met}

-- 1. The entries whose bit is set are those that have the key.

low_bit : (b : Bool) (n : ℕ) → (((if b then 1 else 0) + 2 * n) % 2 == 1) ≡ b
low_bit true n =
    let bit : (1 + 2 * n) % 2 ≡ 1 = omega arith in
    rw bit refl
low_bit false n =
    let bit : (0 + 2 * n) % 2 ≡ 0 = omega arith in
    rw bit refl

half_without_bit : (b : Bool) (n : ℕ) → ((if b then 1 else 0) + 2 * n) / 2 ≡ n
half_without_bit true n = omega arith
half_without_bit false n = omega arith

marked_keys : (s : SecurityId) (deny : Bool) (key : ℕ) (keys words : List ℕ) → s.authority < 2 ^ 48 → key ≡ sid_key s
    → marked_meets s deny (length keys) (mask_l (map (λ k. k == key) keys)) words ≡ meets s deny (entries_of keys words)
unfolding marked_meets
marked_keys s deny key [] words small is = refl
marked_keys s deny key (k ∷ keys) words small is =
    let rest = mask_l (map (λ j. j == key) keys) in
    rw (
      low_bit (k == key) rest,
      half_without_bit (k == key) rest,
      keyed_met s deny k key (entry_of (take 19 words)) small is,
      marked_keys s deny key keys (drop 19 words) small is,
    ) refl

drop_entries : (n : ℕ) (keys words : List ℕ)
    → drop n (entries_of keys words) ≡ entries_of (drop n keys) (drop (19 * n) words)
drop_entries zero keys words = refl
drop_entries (suc n) [] words = refl
drop_entries (suc n) (key ∷ keys) words =
    let next : 19 + 19 * n ≡ 19 * suc n = omega arith in
    drop_entries n keys (drop 19 words)
    ∙ ap (entries_of (drop n keys)) (drop-drop (19 * n) 19 words ∙ ap (λ (k : ℕ). drop k words) next)

take_entries : (n : ℕ) (keys words : List ℕ) → take n (entries_of keys words) ≡ entries_of (take n keys) words
take_entries zero keys words = refl
take_entries (suc n) [] words = refl
take_entries (suc n) (key ∷ keys) words = ap (λ (es : List Entry). keyed key (entry_of (take 19 words)) ∷ es)
    (take_entries n keys (drop 19 words))

pub block_met : (s : SecurityId) (deny : Bool) (key at : ℕ) (keys words : List ℕ) → s.authority < 2 ^ 48
    → key ≡ sid_key s
    → at + 16 ≤ length keys
    → marked_meets s deny 16 (same_bits keys key at 16) (drop (19 * at) words)
    ≡ meets s deny (take 16 (drop at (entries_of keys words)))
block_met s deny key at keys words small is room =
    (rw (length-chunk at 16 keys room) at (marked_keys s deny key (chunk at 16 keys) (drop (19 * at) words) small is))
    ∙ ap (meets s deny) (sym (ap (take 16) (drop_entries at keys words)
    ∙ take_entries 16 (drop at keys) (drop (19 * at) words)))

pub same_bits-lt : (keys : List ℕ) (key at : ℕ) → at + 16 ≤ length keys → same_bits keys key at 16 < 2 ^ 16
same_bits-lt keys key at room =
    let bits = map (λ (k : ℕ). k == key) (chunk at 16 keys) in
    rw (length-map (chunk at 16 keys) (λ (k : ℕ). k == key) ∙ length-chunk at 16 keys room) at (mask_l-lt bits)

-- 2. Where no bit is set, none of them meets the SID.

pub none_marked : (s : SecurityId) (deny : Bool) (n : ℕ) (words : List ℕ) → marked_meets s deny n 0 words ≡ false
unfolding marked_meets
none_marked s deny zero words = refl
none_marked s deny (suc n) words = none_marked s deny n (drop 19 words)

-- So none of a block meets it either, and none of the blocks before.

pub lacks_none : (keys : List ℕ) (key from : ℕ) → LacksKey keys key from from
lacks_none keys key from s deny words small is =
    let none : from - from ≡ 0 = omega arith in
    rw none refl

pub lacks_more : (keys : List ℕ) (key from at : ℕ) → from ≤ at → at + 16 ≤ length keys → same_bits keys key at 16 ≡ 0
    → LacksKey keys key from at → LacksKey keys key from (at + 16)
lacks_more keys key from at low room none before s deny words small is =
    let more : at + 16 - from ≡ (at - from) + 16 = omega (arith, low) in
    let here : drop (at - from) (drop from (entries_of keys words)) ≡ drop at (entries_of keys words) =
    drop-drop (at - from) from (entries_of keys words)
    ∙ ap (λ (n : ℕ). drop n (entries_of keys words)) (omega (arith, low)) in
    rw more
    (none_run s deny (drop from (entries_of keys words)) (at - from) 16 (before s deny words small is)
    (rw here (sym (block_met s deny key at keys words small is room)
    ∙ ap (λ (bits : ℕ). marked_meets s deny 16 bits (drop (19 * at) words)) none
    ∙ none_marked s deny 16 (drop (19 * at) words))))

-- 3. Else the first whose bit is set meets it, or one behind that.

-- a number without its lowest bit
abbrev pub cleared : ℕ → ℕ
cleared bits = bit_and bits (bits - 1)

pub record Looks (s : SecurityId) (deny : Bool) (n bits : ℕ) (words : List ℕ) (k : ℕ) : Type 0 where
  pub within : k < n
  pub either : marked_meets s deny n bits words
      ≡ (entry_meets s deny (entry_of (take 19 (drop (19 * k) words))) || marked_meets s deny n (cleared bits) words)

-- the lowest bit is set
here : (s : SecurityId) (deny : Bool) (n bits : ℕ) (words : List ℕ) → bits % 2 ≡ 1 → Looks s deny (suc n) bits words 0
unfolding marked_meets
here s deny n bits words set =
    let low : (bits - 1) % 2 ≡ 0 = omega (arith, set) in
    let half : (bits - 1) / 2 ≡ bits / 2 = omega (arith, set) in
    let rest : cleared bits ≡ bits / 2 * 2 = and_step bits (bits - 1)
    ∙ rw (half, set, low, and_self (bits / 2)) (omega arith) in
    let even : cleared bits % 2 ≡ 0 = omega (arith, rest) in
    let more : cleared bits / 2 ≡ bits / 2 = omega (arith, rest) in
    record { within = omega arith; either = rw (set, even, more) refl }

-- or the first that is set is behind it
behind : (s : SecurityId) (deny : Bool) (n bits : ℕ) (words : List ℕ) (k : ℕ) → bits % 2 ≡ 0 → 0 < bits
    → Looks s deny n (bits / 2) (drop 19 words) k → Looks s deny (suc n) bits words (suc k)
unfolding marked_meets
behind s deny n bits words k clear some later =
    let low : (bits - 1) % 2 ≡ 1 = omega (arith, clear, some) in
    let half : (bits - 1) / 2 ≡ bits / 2 - 1 = omega (arith, clear, some) in
    let rest : cleared bits ≡ cleared (bits / 2) * 2 = and_step bits (bits - 1) ∙ rw (half, clear, low) (omega arith) in
    let even : cleared bits % 2 ≡ 0 = omega (arith, rest) in
    let more : cleared bits / 2 ≡ cleared (bits / 2) = omega (arith, rest) in
    let here : drop (19 * k) (drop 19 words) ≡ drop (19 * suc k) words = drop-drop (19 * k) 19 words
    ∙ ap (λ (m : ℕ). drop m words) (omega arith) in
    record { within = omega (arith, later.within); either = rw (clear, even, more, ← here) later.either }

by_bit : (s : SecurityId) (deny : Bool) (n bits : ℕ) (words : List ℕ) (k r : ℕ) → bits % 2 ≡ r → 0 < bits
    → (r ≡ 0 → Looks s deny n (bits / 2) (drop 19 words) k) → Looks s deny (suc n) bits words (under r k)
by_bit s deny n bits words k zero is some later = behind s deny n bits words k is some (later refl)
by_bit s deny n bits words k (suc zero) is some later = here s deny n bits words is
by_bit s deny n bits words k (suc (suc r)) is some later = absurd (omega (arith, is))

pub looks_at : (s : SecurityId) (deny : Bool) (n width bits : ℕ) (words : List ℕ) → n ≤ width → 0 < bits → bits < 2 ^ n
    → Looks s deny n bits words (count_trailing_zeros width bits)
unfolding count_trailing_zeros
looks_at s deny zero width bits words few some less = absurd (omega (arith, some, less))
looks_at s deny (suc n) zero bits words few some less = absurd (omega (arith, few))
looks_at s deny (suc n) (suc width) bits words few some less =
    let room : 2 ^ suc n ≡ 2 * 2 ^ n = pow-succ' 2 n in
    by_bit s deny n bits words (count_trailing_zeros width (bits / 2)) (bits % 2) refl some
    (λ clear. looks_at s deny n width (bits / 2) (drop 19 words) (omega (arith, few)) (omega (arith, some, clear))
    (omega (arith, less, room)))
