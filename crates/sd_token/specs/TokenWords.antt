-- A token as numbers of 32 bits, as memory holds one: a key for each entry, and 19 numbers for each.
use Rattle.std.specs.Prelude.{ℕ, ◌+◌, ◌-◌, ◌*◌, ◌^◌, ◌%◌, ◌==◌, if◌then◌else◌, List, [], ◌∷◌, length, take, drop}
use Rattle.std.specs.Prelude.{slice_index}
use Rattle.sd_sid.specs.Sid.{SecurityId}
use Rattle.sd_token.specs.Token.{Entry}
use Rattle.sd_token.specs.declared.token.EntryKind.{EntryKind}
use Rattle.sd_token.specs.declared.token.EntryKind.TheVariants.{Enabled, DenyOnly}

-- A number in which most SIDs differ: the last sub-authority (0 where there is none), and how many there are.
abbrev pub subs_key : List ℕ → ℕ
subs_key subs = (length subs * 2 ^ 28 + slice_index subs (length subs - 1)) % 2 ^ 32

abbrev pub sid_key : SecurityId → ℕ
sid_key s = subs_key s.subs

abbrev pub kind_of : ℕ → EntryKind
kind_of number = if number == 0 then Enabled else DenyOnly

-- 19 numbers: the authority in two, the count of sub-authorities, the kind, and 15 sub-authorities
abbrev pub entry_words : ℕ
entry_words = 19

abbrev pub entry_of : List ℕ → Entry
entry_of words = (
  record {
    authority = slice_index words 0 * 2 ^ 32 + slice_index words 1;
    subs = take (slice_index words 2) (drop 4 words);
  },
  kind_of (slice_index words 3),
)

-- an entry that meets no SID: no authority is so large
abbrev pub nobody : Entry
nobody = (record { authority = 2 ^ 48; subs = [] }, DenyOnly)

-- An entry counts only with the key of its SID.
abbrev pub keyed : ℕ → Entry → Entry
keyed key e = if key == sid_key e.0 then e else nobody

-- the entries, one for each key
abbrev pub entries_of : List ℕ → List ℕ → List Entry
entries_of [] words = []
entries_of (key ∷ keys) words = keyed key (entry_of (take entry_words words)) ∷ entries_of keys (drop entry_words words)

-- a token's numbers, and for how many entries there is memory
pub record Numbers : Type 0 where
  pub keys : List ℕ
  pub words : List ℕ
  pub room : ℕ

abbrev pub entries_in : Numbers → List Entry
entries_in n = entries_of n.keys n.words
