-- Access control lists as bytes (MS-DTYP 2.4.5): which extent shows which.
use Rattle.std.specs.Prelude.{◌≡◌, ◌≤◌, ◌<◌, ℕ, ◌+◌, ◌^◌, ◌⊎◌, Bool, List, [], ◌∷◌, ◌++◌, length, drop, slice_index}
use Rattle.std.specs.List.{list_any, AllByRecursion}
use Rattle.sd_ace.specs.Ace.{AccessControlEntry, IsAce, ace_size}
use Rattle.sd_kinds.specs.Kinds.{is_object}
use Rattle.sd_acl_view.specs.Ace.{ShowsAce}
use Rattle.sd_acl_view.specs.Bytes.{u16_at}

-- ACE extents that follow each other; what stands after the last is free
abbrev pub ShowsAces : List ℕ → List AccessControlEntry → Type 0
ShowsAces bytes [] = Unit {0}
ShowsAces bytes (a ∷ others) = (extent rest : List ℕ) × (bytes ≡ extent ++ rest) × ShowsAce extent a
    × ShowsAces rest others

-- An ACL's extent is as long as its size field says, and has as many ACEs as its count says.
pub record ShowsAcl (extent : List ℕ) (aces : List AccessControlEntry) : Type 0 where
  pub revision : (slice_index extent 0 ≡ 2) ⊎ (slice_index extent 0 ≡ 4)
  pub header : 8 ≤ length extent
  pub size : u16_at 2 extent ≡ length extent
  pub count : u16_at 4 extent ≡ length aces
  pub extents : ShowsAces (drop 8 extent) aces

-- an ACL stands at the front of the bytes
abbrev pub BeginsWithAcl : List ℕ → List AccessControlEntry → Type 0
BeginsWithAcl bytes aces = (extent rest : List ℕ) × (bytes ≡ extent ++ rest) × ShowsAcl extent aces

-- the written size
abbrev pub aces_size : List AccessControlEntry → ℕ
aces_size [] = 0
aces_size (a ∷ others) = ace_size a + aces_size others

abbrev pub acl_size : List AccessControlEntry → ℕ
acl_size aces = 8 + aces_size aces

-- whether an object ACE stands in the list
abbrev pub has_object : List AccessControlEntry → Bool
has_object aces = list_any (λ a. is_object a.kind) aces

-- the limits of an ACL
pub record IsAcl (aces : List AccessControlEntry) : Type 0 where
  pub each : AllByRecursion IsAce aces
  pub fits : acl_size aces < 2 ^ 16
