-- Which entry names a SID everywhere. Only contracts between rooms cite this: `known_alias` of sd_sid says which name a
-- SID has.
use Rattle.std.specs.Prelude.{ℕ, ◌-◌, Bool, ◌==◌, ◌&&◌, if◌then◌else◌, List, length, take, slice_index, Option, Some}
use Rattle.std.specs.Prelude.{None}
use Rattle.std.specs.Str.{bytes_eq}
use Rattle.sd_alias.specs.declared.table.WellKnown.{WellKnown}

-- the SID that it names everywhere has this authority and these sub-authorities
abbrev pub is_name_of : ℕ → List ℕ → WellKnown → Bool
is_name_of authority subs e = e.authority == authority && bytes_eq (take e.count e.subs) subs

-- the last sub-authority, and 0 where there is none
abbrev pub last_of : List ℕ → ℕ
last_of subs = slice_index subs (length subs - 1)

-- what passes a test
abbrev pub passing : {X : Type 0} → (X → Bool) → Option X → Option X
passing p None = None
passing p (Some x) = if p x then Some x else None
