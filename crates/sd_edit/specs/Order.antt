-- The order of the ACEs of an ACL: what denies before what grants, and what is inherited last (MS-DTYP 2.4.5).
use Rattle.std.specs.Prelude.{◌≡◌, ℕ, ◌+◌, Bool, true, false, not, ◌==◌, ◌||◌, nat_lt, if◌then◌else◌, List, []}
use Rattle.std.specs.Prelude.{◌∷◌, ◌++◌, length, map, Option, Some, None, option_map}
use Rattle.std.specs.List.{filter, list_any}
use Rattle.sd_ace.specs.Ace.{AccessControlEntry}
use Rattle.sd_kinds.specs.declared.flags.TheConstants.{INHERITED}
use Rattle.sd_kinds.specs.declared.kinds.AceKind.{AceKind}
use Rattle.sd_kinds.specs.declared.kinds.AceKind.TheVariants as kinds
use Rattle.sd_parts.specs.declared.part.Which.{Which}
use Rattle.sd_parts.specs.declared.part.Which.TheVariants as which
use Rattle.sd_text.specs.Bits.{has_bit}
use Rattle.sd_edit.specs.declared.rank.Order.{Order}

-- 1. The rank of an ACE.

abbrev pub is_deny : AceKind → Bool
is_deny kinds.Deny = true
is_deny kinds.ObjectDeny = true
is_deny other = false

-- in a DACL what denies stands first; in a SACL nothing does
abbrev pub own_rank : Which → AceKind → ℕ
own_rank which.Sacl kind = 0
own_rank which.Dacl kind = if is_deny kind then 0 else 1

-- what is inherited stands last, in whatever order: no ACE tells its generation
abbrev pub rank_by : Which → AceKind → ℕ → ℕ
rank_by w kind flags = if has_bit INHERITED flags then 2 else own_rank w kind

abbrev pub rank : Which → AccessControlEntry → ℕ
rank w a = rank_by w a.kind a.flags

abbrev pub ranks : Which → List AccessControlEntry → List ℕ
ranks w aces = map (rank w) aces

-- 2. The first number that is below the one before.

abbrev pub first_fall : List ℕ → Option ℕ
first_fall [] = None
first_fall (n ∷ []) = None
first_fall (n ∷ m ∷ others) = if nat_lt m n then Some 1 else option_map (λ k. 1 + k) (first_fall (m ∷ others))

-- 3. In order, and each rank in the order that was.

abbrev pub of_rank : Which → ℕ → List AccessControlEntry → List AccessControlEntry
of_rank w n aces = filter (λ a. rank w a == n) aces

abbrev pub ordered : Which → List AccessControlEntry → List AccessControlEntry
ordered w aces = of_rank w 0 aces ++ (of_rank w 1 aces ++ of_rank w 2 aces)

-- 4. Where an ACE goes: behind the last one of no higher rank, and to the front where there is none.

abbrev pub behind_last : (AccessControlEntry → Bool) → List AccessControlEntry → ℕ
behind_last passes [] = 0
behind_last passes (a ∷ others) = if passes a || list_any passes others then 1 + behind_last passes others else 0

abbrev pub no_higher : Which → AccessControlEntry → AccessControlEntry → Bool
no_higher w a other = not (nat_lt (rank w a) (rank w other))

-- 5. What the code knows of the ranks that it has seen. No definition above rests on it.

abbrev pub last_of : List ℕ → ℕ
last_of [] = 0
last_of (n ∷ []) = n
last_of (n ∷ m ∷ others) = last_of (m ∷ others)

pub record Seen (ns : List ℕ) (o : Order) : Type 0 where
  pub fall : o.fall ≡ first_fall ns
  pub last : o.last ≡ last_of ns
  pub count : o.count ≡ length ns
