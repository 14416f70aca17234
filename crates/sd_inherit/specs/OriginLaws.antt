-- What holds of the origins of a new ACL's ACEs, whatever they are made of.
use Rattle.std.specs.Prelude.{◌≡◌, ◌<◌, ◌⊎◌, ℕ, ◌==◌, Bool, true, false, not, ◌&&◌, if◌then◌else◌, List, [], ◌∷◌}
use Rattle.std.specs.Prelude.{length, map, count_by, slice_get, Option, Some, None}
use Rattle.std.specs.List.{AllByRecursion, find}
use Rattle.sd_ace.specs.Ace.{AccessControlEntry}
use Rattle.sd_view.specs.Descriptor.{Descriptor}
use Rattle.sd_parts.specs.declared.part.Which.{Which}
use Rattle.sd_inherit.specs.Derived.{acl_of, derived}
use Rattle.sd_inherit.specs.Origins.{aces_in, givers_aces, gives, is_creator, new_origins}
use Rattle.sd_inherit.specs.Taken.{is_inherit_only}
use Rattle.sd_inherit.specs.declared.origin.AceOrigin.{AceOrigin}
use Rattle.sd_inherit.specs.declared.origin.Giver.{Giver}
use Rattle.sd_inherit.specs.declared.origin.Giver.TheVariants as giver
use Rattle.sd_inherit.specs.declared.plan.Plan.{Plan}

-- 1. The ACE at a place is the copy that its origin names.

abbrev pub same_truth : Bool → Bool → Bool
same_truth b c = if b then c else not c

abbrev pub giver_of : AceOrigin → Giver
giver_of o = if o.from_creator then giver.Creator else giver.Parent

-- what the ACE at a place gives: past the last one nothing
abbrev pub given_at : Giver → Plan → Option AccessControlEntry → List AccessControlEntry
given_at g plan None = []
given_at g plan (Some a) = gives g plan a

-- of what the ACE at its place gives, the one that is inherit-only or not, as it says
abbrev pub named : Which → Descriptor → Option Descriptor → Plan → AceOrigin → Option AccessControlEntry
named w d creator plan o =
    find (λ c. same_truth o.inherit_only (is_inherit_only c))
    (given_at (giver_of o) plan (slice_get (givers_aces (giver_of o) w d creator) o.place))

abbrev pub Copied : Which → Descriptor → Option Descriptor → Plan → Type 0
Copied w d creator plan =
    map (named w d creator plan) (new_origins w d creator plan) ≡ map Some (aces_in (acl_of w (derived d creator plan)))

-- 2. Origins rise: the creator's come before the parent's, then places count, and then the effective copy comes first.

abbrev pub Precedes : AceOrigin → AceOrigin → Type 0
Precedes o p =
    ((o.from_creator ≡ true) × (p.from_creator ≡ false))
    ⊎ (((o.from_creator ≡ p.from_creator) × (o.place < p.place))
    ⊎ ((o.from_creator ≡ p.from_creator) × (o.place ≡ p.place) × (o.inherit_only ≡ false) × (p.inherit_only ≡ true)))

abbrev pub Rise : List AceOrigin → Type 0
Rise [] = Unit {0}
Rise (o ∷ others) = AllByRecursion (Precedes o) others × Rise others

abbrev pub Rising : Which → Descriptor → Option Descriptor → Plan → Type 0
Rising w d creator plan = Rise (new_origins w d creator plan)

-- 3. Each place has as many as its ACE gives.

abbrev pub is_at : Giver → ℕ → AceOrigin → Bool
is_at g place o = same_truth (is_creator g) o.from_creator && o.place == place

abbrev pub Counted : Which → Descriptor → Option Descriptor → Plan → Type 0
Counted w d creator plan =
    (g : Giver) (place : ℕ) → count_by (is_at g place) (new_origins w d creator plan)
    ≡ length (given_at g plan (slice_get (givers_aces g w d creator) place))
