-- Security identifiers (MS-DTYP 2.4.2): what one is, its bytes, and which bytes begin with one.
use Rattle.std.specs.Prelude.{◌≡◌, ◌≤◌, ◌<◌, ℕ, zero, suc, ◌+◌, ◌*◌, ◌^◌, ◌==◌, ◌&&◌, nat_le, Bool, if◌then◌else◌, List}
use Rattle.std.specs.Prelude.{[], ◌∷◌, ◌++◌, length, drop, slice_index, Option, Some, None}
use Rattle.std.specs.List.{flat_map}
use Rattle.sd_text.specs.Limits.{most_subs}
use Rattle.byteorder.specs.Endian.{big_bytes, big_number, little_bytes, little_number}

-- an identifier authority and its sub-authorities
pub record SecurityId : Type 0 where
  pub authority : ℕ
  pub subs : List ℕ

-- every element is a number of 32 bits
abbrev pub AreWords : List ℕ → Type 0
AreWords xs = (i : ℕ) → slice_index xs i < 2 ^ 32

-- the limits of the parts
pub record IsSid (s : SecurityId) : Type 0 where
  pub authority : s.authority < 2 ^ 48
  pub count : length s.subs ≤ most_subs
  pub subs : AreWords s.subs

abbrev pub sid_size : SecurityId → ℕ
sid_size s = 8 + 4 * length s.subs

-- 2.4.2.2: revision, count, authority (high byte first), sub-authorities (low byte first)
abbrev pub sid_bytes : SecurityId → List ℕ
sid_bytes s = 1 ∷ length s.subs ∷ big_bytes 6 s.authority ++ flat_map (little_bytes 4) s.subs

-- a SID stands at the front of the bytes
pub record BeginsWithSid (bytes : List ℕ) (s : SecurityId) : Type 0 where
  pub limits : IsSid s
  pub rest : List ℕ
  pub shape : bytes ≡ sid_bytes s ++ rest

-- The same as a function: `Sid::read` promises that the two agree.

-- n numbers of four bytes, one after the other
abbrev pub words : ℕ → List ℕ → List ℕ
words zero bytes = []
words (suc n) bytes = little_number 4 bytes ∷ words n (drop 4 bytes)

-- the bytes begin with a SID: revision 1, a count of at most 15, and all of its bytes
abbrev pub sid_stands : List ℕ → Bool
sid_stands bytes =
    nat_le 8 (length bytes) && slice_index bytes 0 == 1 && nat_le (slice_index bytes 1) most_subs
    && nat_le (8 + 4 * slice_index bytes 1) (length bytes)

-- the SID that they begin with
abbrev pub sid_of : List ℕ → SecurityId
sid_of bytes = record {
  authority = big_number 6 (drop 2 bytes);
  subs = words (slice_index bytes 1) (drop 8 bytes);
}

-- the SID at the front and its size
unfoldable pub sid_at : List ℕ → Option (SecurityId × ℕ)
sid_at bytes = if sid_stands bytes then Some (sid_of bytes, 8 + 4 * slice_index bytes 1) else None
