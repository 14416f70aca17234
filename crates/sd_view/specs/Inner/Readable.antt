-- What a view of a descriptor needs of its bytes. Private contracts and the view's invariant alone cite these words;
-- they promise nothing to a caller.
use Rattle.std.specs.Prelude.{◌≡◌, ◌≤◌, ℕ, ◌+◌, Bool, true, List, length, drop, None}
use Rattle.sd_sid.specs.Sid.{sid_stands}
use Rattle.sd_acl_view.specs.AclReading.{acl_at_front}
use Rattle.sd_acl_view.specs.Bytes.{u16_at}
use Rattle.sd_view.specs.Descriptor.{IsDescriptor, control_at, dacl_at, group_at, owner_at, sacl_at}
use Rattle.sd_parts.specs.Control.{dacl_present, sacl_present}
use Rattle.sd_acl_view.specs.AclChecks.{IsReadableAcl}
use Rattle.sd_view.specs.Reading.{fault, shown}

-- where a SID is meant, one stands
pub record IsSidAt (bytes : List ℕ) (offset : ℕ) : Type 0 where
  pub within : offset ≤ length bytes
  pub stands : (offset ≡ 0 → ⊥) → sid_stands (drop offset bytes) ≡ true

-- where an ACL is meant, one stands
pub record IsAclAt (bytes : List ℕ) (present : Bool) (offset : ℕ) : Type 0 where
  pub within : present ≡ true → (offset ≡ 0 → ⊥) → offset + 8 ≤ length bytes
  pub whole : present ≡ true → (offset ≡ 0 → ⊥) → u16_at 2 (drop offset bytes) ≤ length (drop offset bytes)
  pub extent : present ≡ true → (offset ≡ 0 → ⊥) → IsReadableAcl (acl_at_front (drop offset bytes))

-- bytes without a fault, with what a reader of their parts needs
pub record Readable (bytes : List ℕ) : Type 0 where
  pub sound : fault bytes ≡ None
  pub header : 20 ≤ length bytes
  pub owner : IsSidAt bytes (owner_at bytes)
  pub group : IsSidAt bytes (group_at bytes)
  pub sacl : IsAclAt bytes (sacl_present (control_at bytes)) (sacl_at bytes)
  pub dacl : IsAclAt bytes (dacl_present (control_at bytes)) (dacl_at bytes)
  pub limits : IsDescriptor (shown bytes)
