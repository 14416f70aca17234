-- What a view of an ACE needs of its extent. Private contracts and the view's invariant alone cite this; it promises
-- nothing to a caller.
use Rattle.std.specs.Prelude.{◌≡◌, ◌≤◌, ℕ, ◌+◌, List, length, drop, None}
use Rattle.sd_ace.specs.Ace.{IsAce}
use Rattle.sd_sid.specs.Sid.{BeginsWithSid, sid_of}
use Rattle.sd_acl_view.specs.AclReading.{ace_of, extent_fault, sid_offset_in}

-- what a reader of an ACE's extent needs
pub record IsReadableAce (extent : List ℕ) : Type 0 where
  pub room : 16 ≤ length extent
  pub sound : extent_fault extent ≡ None
  pub front : sid_offset_in extent + 8 ≤ length extent
  pub sid : BeginsWithSid (drop (sid_offset_in extent) extent) (sid_of (drop (sid_offset_in extent) extent))
  pub limits : IsAce (ace_of extent)
