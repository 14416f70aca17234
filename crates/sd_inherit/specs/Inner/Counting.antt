-- How far the code that counts ACEs and writes origins has come. No definition of an origin rests on it.
use Rattle.std.specs.Prelude.{◌≡◌, ◌≤◌, ◌<◌, ℕ, ◌+◌, ◌*◌, ◌^◌, ◌↔◌, Bool, true, false, List, ◌++◌, length, take}
use Rattle.std.specs.List.{flat_map}
use Rattle.sd_ace.specs.Ace.{AccessControlEntry}
use Rattle.sd_acl_view.specs.Acl.{aces_size}
use Rattle.sd_inherit.specs.Origins.{gives, giving, origins_from}
use Rattle.sd_inherit.specs.declared.inherited.AceSource.{AceSource}
use Rattle.sd_inherit.specs.declared.inherited.AclSources.{AclSources}
use Rattle.sd_inherit.specs.declared.origin.AceOrigin.{AceOrigin}
use Rattle.sd_inherit.specs.declared.origin.Giver.{Giver}
use Rattle.sd_inherit.specs.declared.origin.Giver.TheVariants as giver
use Rattle.sd_inherit.specs.declared.tally.Tally.{Tally}

-- an ACL has a header of 8 bytes, and each ACE at least 16
pub record IsTally (t : Tally) : Type 0 where
  pub least : 8 + 16 * t.count ≤ t.size
  pub fits : t.size < 2 ^ 16

-- these ACEs are counted, unless the ACL would be too large with them
pub record Counts (aces : List AccessControlEntry) (old new : Tally) (failed : Bool) : Type 0 where
  pub full : (failed ≡ true) ↔ (2 ^ 16 ≤ old.size + aces_size aces)
  pub count : failed ≡ false → new.count ≡ old.count + length aces
  pub size : failed ≡ false → new.size ≡ old.size + aces_size aces
  pub tally : failed ≡ false → IsTally new

-- the ACEs of one descriptor that the new ACL is made of
abbrev pub givers : Giver → AclSources → List AccessControlEntry
givers g s = giving g s.creators s.parents

-- what they give
abbrev pub given_beside : Giver → AclSources → List AccessControlEntry
given_beside g s = flat_map (gives g s.plan.now) (givers g s)

-- its origins
abbrev pub given_origins : Giver → AclSources → List AceOrigin
given_origins g s = origins_from g s.plan.now 0 (givers g s)

abbrev pub gathered_origins : AclSources → List AceOrigin
gathered_origins s = given_origins giver.Creator s ++ given_origins giver.Parent s

-- the origins of what these ACEs give
abbrev pub all_origins : AceSource → List AceOrigin
all_origins s = origins_from s.giver s.plan.now 0 s.aces

-- the origins follow those that are at the front of the cells
pub record Writes (origins : List AceOrigin) (at : ℕ) (old : List AceOrigin) (end : ℕ)
    (new : List AceOrigin) : Type 0 where
  pub end_is : end ≡ at + length origins
  pub front : take end new ≡ take at old ++ origins
  pub same : length new ≡ length old
