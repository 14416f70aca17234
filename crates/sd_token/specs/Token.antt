-- Tokens (MS-DTYP 2.5.2): what contracts see of one, and which SIDs it meets.
use Rattle.std.specs.Prelude.{◌≡◌, ◌≤◌, ℕ, suc, ◌+◌, ◌-◌, ◌*◌, ◌/◌, ◌^◌, min, nat_le, Bool, true, false, ◌&&◌, ◌||◌}
use Rattle.std.specs.Prelude.{if◌then◌else◌, List, [], ◌∷◌, Option, length}
use Rattle.std.specs.List.{list_any}
use Rattle.sd_sid.specs.Sid.{SecurityId}
use Rattle.sd_sid.specs.SidText.{same_sid}
use Rattle.sd_token.specs.declared.token.EntryKind.{EntryKind}
use Rattle.sd_token.specs.declared.token.EntryKind.TheVariants.{Enabled, DenyOnly}

-- a SID, and whether it is enabled or deny-only
abbrev pub Entry : Type 0
Entry = SecurityId × EntryKind

-- who asks for access: the SIDs, and the integrity level where there is one
pub record Holder : Type 0 where
  pub entries : List Entry
  pub level : Option ℕ

pub record TokenShown : Type 0 where
  pub holder : Holder
  -- how often an entry was compared
  pub compared : ℕ
  -- how many entries have memory
  pub room : ℕ

abbrev pub is_enabled : EntryKind → Bool
is_enabled Enabled = true
is_enabled DenyOnly = false

-- the entry has the SID, and is enabled or may be deny-only
abbrev pub entry_meets : SecurityId → Bool → Entry → Bool
entry_meets s deny e = same_sid e.0 s && (is_enabled e.1 || deny)

-- some entry meets the SID
abbrev pub meets : SecurityId → Bool → List Entry → Bool
meets s deny entries = list_any (entry_meets s deny) entries

-- how many entries are compared, from the first on, until one meets the SID
abbrev pub looks : SecurityId → Bool → List Entry → ℕ
looks s deny [] = 0
looks s deny (e ∷ entries) = if entry_meets s deny e then 1 else suc (looks s deny entries)

-- the keys of so many entries are compared in one step
abbrev pub block : ℕ
block = 16

-- n looks in whole blocks
abbrev pub in_blocks : ℕ → ℕ
in_blocks n = (n + (block - 1)) / block * block

-- how many entries a search compares: whole blocks, up to the one with the first entry that meets the SID, or one by
-- one where the entries end before such a block does
abbrev pub searched : SecurityId → Bool → List Entry → ℕ
searched s deny entries =
    if nat_le (in_blocks (looks s deny entries)) (length entries) then in_blocks (looks s deny entries)
    else looks s deny entries

-- a count of 64 bits that goes on by n, and stays at its end
abbrev pub counted_by : ℕ → ℕ → ℕ
counted_by n count = min (count + n) (2 ^ 64 - 1)

-- the count of comparisons goes on, by at most n
pub record Compares (token token' : TokenShown) (n : ℕ) : Type 0 where
  pub goes_on : token.compared ≤ token'.compared
  pub at_most : token'.compared ≤ token.compared + n

-- the holder stays, and each entry is compared n times at most
pub record Asks (token token' : TokenShown) (n : ℕ) : Type 0 where
  pub holder : token'.holder ≡ token.holder
  pub compared : Compares token token' (n * length token.holder.entries)
