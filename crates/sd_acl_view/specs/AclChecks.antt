-- What a check of an ACL answers, and what a view of one needs of its extent. Only contracts between crates cite these
-- words; they promise nothing to a caller of the library.
use Rattle.std.specs.Prelude.{◌≡◌, ◌≤◌, ℕ, List, length, drop, Option, Some, None, Result, MatchResult}
use Rattle.sd_acl_view.specs.Acl.{IsAcl}
use Rattle.sd_acl_view.specs.AclReading.{aces_fault, acl_of}
use Rattle.sd_acl_view.specs.Bytes.{u16_at}

-- a check fails by this fault, and passes where there is none
abbrev pub FailsBy : {A F : Type 0} → Option F → Result A F → Type 0
FailsBy fault result = MatchResult result (λ _. fault ≡ None) (λ f. fault ≡ Some f)

-- what a reader of an ACL's extent needs
pub record IsReadableAcl (extent : List ℕ) : Type 0 where
  pub room : 8 ≤ length extent
  pub small : length extent ≤ 65535
  pub size : u16_at 2 extent ≡ length extent
  pub sound : aces_fault (u16_at 4 extent) (drop 8 extent) ≡ None
  pub limits : IsAcl (acl_of extent)
