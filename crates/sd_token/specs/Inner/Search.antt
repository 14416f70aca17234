-- A search through entries.
use Rattle.std.specs.Prelude.{◌≡◌, ◌≤◌, ◌<◌, ℕ, zero, suc, ◌+◌, ◌-◌, ◌^◌, ◌/◌, ◌%◌, ◌==◌, ◌&&◌, ◌||◌, Bool, false, List}
use Rattle.std.specs.Prelude.{map, take, drop}
use Rattle.std.specs.Simd.Lanes.{chunk, mask_l}
use Rattle.sd_sid.specs.Sid.{SecurityId}
use Rattle.sd_token.specs.Token.{Entry, entry_meets, meets}
use Rattle.sd_token.specs.TokenWords.{entries_of, entry_of, entry_words, sid_key}

-- what the private calls see of a token's entries
pub record EntriesShown : Type 0 where
  pub entries : List Entry
  -- how often an entry was compared
  pub compared : ℕ
  -- the entry that is compared next
  pub place : ℕ
  -- how many entries have memory
  pub room : ℕ

-- n keys from a place on as a number that has a bit for each, the lowest for the first. It is set where the key is this
-- one.
abbrev pub same_bits : List ℕ → ℕ → ℕ → ℕ → ℕ
same_bits keys key from n = mask_l (map (λ k. k == key) (chunk from n keys))

-- whole blocks from a place on up to another, at least one
pub record AreBlocks (from to all : ℕ) : Type 0 where
  pub some : from + 16 ≤ to
  pub whole : (to - from) % 16 ≡ 0
  pub within : to ≤ all

-- None of the entries from a place up to another meets a SID with this key, since none of their keys is that one.
abbrev pub LacksKey : List ℕ → ℕ → ℕ → ℕ → Type 0
LacksKey keys key from to = (s : SecurityId) (deny : Bool) (words : List ℕ) → s.authority < 2 ^ 48 → key ≡ sid_key s
    → meets s deny (take (to - from) (drop from (entries_of keys words))) ≡ false

-- of the first n entries one meets the SID whose bit is set
unfoldable pub marked_meets : SecurityId → Bool → ℕ → ℕ → List ℕ → Bool
marked_meets s deny zero bits words = false
marked_meets s deny (suc n) bits words =
    (bits % 2 == 1 && entry_meets s deny (entry_of (take entry_words words)))
    || marked_meets s deny n (bits / 2) (drop entry_words words)
