-- How many comparisons a check may need.
use Rattle.std.specs.Prelude.{ℕ, zero, suc, ◌+◌, ◌*◌, ◌==◌, Bool, true, not, ◌&&◌, ◌||◌, if◌then◌else◌, List, length}
use Rattle.std.specs.Prelude.{take}
use Rattle.std.specs.List.{list_any}
use Rattle.sd_ace.specs.Ace.{AccessControlEntry}
use Rattle.sd_rights.specs.Mapping.{carries}
use Rattle.sd_token.specs.Token.{Entry}
use Rattle.sd_view.specs.Descriptor.{Descriptor}
use Rattle.sd_rights.specs.AccessRights.{read_control, system_security, write_dac}
use Rattle.sd_check.specs.Acl.{listed_aces}
use Rattle.sd_check.specs.Ask.{Asked}
use Rattle.sd_check.specs.Granted.{decides, is_open, needs_no_ace}

-- each ACE of the DACL, and the owner, against each entry of the token
abbrev pub check_bound : Descriptor → ℕ → ℕ
check_bound d entries = (length (listed_aces d.dacl) + 1) * entries

-- the right is wanted or, with maximum, one of the mapping's
abbrev pub in_question : ℕ → Asked → Bool
in_question right ask = carries ask.wanted right || (ask.maximum && carries ask.mapping.all right)

-- it matters who the owner is: a right that an owner has is in question, and the DACL does not grant it by being null
-- or absent
abbrev pub owner_matters : Descriptor → Asked → Bool
owner_matters d ask = not (is_open d.dacl) && (in_question read_control ask || in_question write_dac ask)

-- The right needs no ACE beside these: it is right 24, or is granted without one, or one of these decides it. No
-- label is looked at.
abbrev pub is_settled : ℕ → Descriptor → List Entry → Asked → List AccessControlEntry → Bool
is_settled right d token ask aces =
    right == system_security || needs_no_ace right d token ask || list_any (decides right d token ask) aces

-- every number below n passes
unfoldable pub all_below : ℕ → (ℕ → Bool) → Bool
all_below zero test = true
all_below (suc n) test = test n && all_below n test

-- each right in question is settled
abbrev pub are_settled : Descriptor → List Entry → Asked → List AccessControlEntry → Bool
are_settled d token ask aces =
    all_below 25 (λ right. not (in_question right ask) || is_settled right d token ask aces)

-- the least number below n that passes, or else n
unfoldable pub least : (ℕ → Bool) → ℕ → ℕ
least test zero = zero
least test (suc n) = if test zero then zero else suc (least (λ k. test (suc k)) n)

-- the least number of the DACL's first ACEs that settle each right in question, or else all of them
unfoldable pub need : Descriptor → List Entry → Asked → ℕ
need d token ask = least (λ n. are_settled d token ask (take n (listed_aces d.dacl))) (length (listed_aces d.dacl))
