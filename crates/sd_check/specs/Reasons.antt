-- Why a right is granted or denied: one right by itself, in the order of the definition of what is granted (MS-DTYP
-- 2.5.3.2).
use Rattle.std.specs.Prelude.{◌≡◌, ◌<◌, ℕ, ◌==◌, Bool, true, false, not, ◌&&◌, ◌||◌, if◌then◌else◌, List, length, map}
use Rattle.std.specs.Prelude.{take, slice_get, Option, Some}
use Rattle.std.specs.List.{find, list_any, position, range_with_len}
use Rattle.sd_ace.specs.Ace.{AccessControlEntry}
use Rattle.sd_kinds.specs.declared.kinds.AceKind.{AceKind}
use Rattle.sd_rights.specs.Mapping.{carries, mapped}
use Rattle.sd_rights.specs.AccessRights.{read_control, system_security, write_dac, write_owner}
use Rattle.sd_token.specs.Token.{Entry, Holder}
use Rattle.sd_view.specs.Descriptor.{Descriptor}
use Rattle.sd_check.specs.Acl.{listed_aces}
use Rattle.sd_check.specs.Applies.{applies, is_allow, is_deny}
use Rattle.sd_check.specs.Ask.{Asked}
use Rattle.sd_check.specs.Granted.{decides, is_open, is_owned, needs_no_ace}
use Rattle.sd_check.specs.Label.{is_mandatory_label, label_allows}
use Rattle.sd_check.specs.Need.{all_below, least}
use Rattle.sd_check.specs.declared.reason.Reason.{Reason}
use Rattle.sd_check.specs.declared.reason.Reason.TheVariants as reason

-- 1. The reason for a right.

-- the place of the first label among all ACEs of the SACL; none where no ACE is a label, and the default counts
abbrev pub label_place : Descriptor → Option ℕ
label_place d = position is_mandatory_label (listed_aces d.sacl)

-- an ACE decides, at a place among all ACEs of the DACL; where none does, nothing grants
abbrev pub by_ace : Option ℕ → Option AccessControlEntry → Reason
by_ace (Some place) (Some a) = if is_allow a.kind then reason.Granted place else reason.Denied place
by_ace place a = reason.Nothing

-- the first ACE of a list that decides
abbrev pub by_first : (AccessControlEntry → Bool) → List AccessControlEntry → Reason
by_first test aces = by_ace (position test aces) (find test aces)

-- The wanted mask and the maximum are not looked at.
unfoldable pub reason_of : ℕ → Descriptor → Holder → Asked → Reason
reason_of right d holder ask =
    if right == system_security then if ask.security then reason.Privilege else reason.Nothing
    else if not (label_allows right d holder ask) then reason.Label (label_place d)
    else if is_open d.dacl then reason.NoDacl
    else if (right == read_control || right == write_dac) && is_owned d holder.entries then reason.Owner
    else if right == write_owner && ask.take_ownership then reason.Privilege
    else by_first (decides right d holder.entries ask) (listed_aces d.dacl)

-- those for the rights 0 to 24, in this order
unfoldable pub reasons : Descriptor → Holder → Asked → List Reason
reasons d holder ask = map (λ right. reason_of right d holder ask) (range_with_len 0 25)

-- 2. What they say.

-- the reason is one that grants the right
abbrev pub grants : Reason → Bool
grants reason.NoDacl = true
grants reason.Owner = true
grants reason.Privilege = true
grants (reason.Granted place) = true
grants other = false

-- The ACE at this place among all ACEs of the DACL decides the right, and none before it does. It is of a kind that
-- grants or denies.
pub record DecidesFirst (right : ℕ) (d : Descriptor) (token : List Entry) (ask : Asked) (of_kind : AceKind → Bool)
    (place : ℕ)
    : Type 0 where
  pub ace : AccessControlEntry
  pub here : slice_get (listed_aces d.dacl) place ≡ Some ace
  pub applies : applies ace d token ask ≡ true
  pub carried : carries (mapped ask.mapping ace.mask) right ≡ true
  pub kind : of_kind ace.kind ≡ true
  pub first : (k : ℕ) (other : AccessControlEntry) → k < place → slice_get (listed_aces d.dacl) k ≡ Some other
      → decides right d token ask other ≡ false

-- The ACE at this place among all ACEs of the SACL is the label, and does not allow the right.
pub record IsRefusedAt (right : ℕ) (d : Descriptor) (holder : Holder) (ask : Asked) (place : ℕ) : Type 0 where
  pub ace : AccessControlEntry
  pub here : slice_get (listed_aces d.sacl) place ≡ Some ace
  pub label : is_mandatory_label ace ≡ true
  pub first : (k : ℕ) (other : AccessControlEntry) → k < place → slice_get (listed_aces d.sacl) k ≡ Some other
      → is_mandatory_label other ≡ false
  pub refused : label_allows right d holder ask ≡ false

-- what a reason that names an ACE says of it
abbrev pub NamesAce : ℕ → Descriptor → Holder → Asked → Reason → Type 0
NamesAce right d holder ask (reason.Granted place) = DecidesFirst right d holder.entries ask is_allow place
NamesAce right d holder ask (reason.Denied place) = DecidesFirst right d holder.entries ask is_deny place
NamesAce right d holder ask (reason.Label (Some place)) = IsRefusedAt right d holder ask place
NamesAce right d holder ask other = Unit {0}

-- 3. How many comparisons the reasons may need.

-- The right needs no ACE beside these: the label refuses it, or it is granted without one, or one of these decides it.
abbrev pub has_reason : ℕ → Descriptor → Holder → Asked → List AccessControlEntry → Bool
has_reason right d holder ask aces =
    not (label_allows right d holder ask) || needs_no_ace right d holder.entries ask
    || list_any (decides right d holder.entries ask) aces

-- the least number of the DACL's first ACEs that settle each right below 24, or else all of them
unfoldable pub reasons_need : Descriptor → Holder → Asked → ℕ
reasons_need d holder ask =
    least (λ n. all_below system_security (λ right. has_reason right d holder ask (take n (listed_aces d.dacl))))
    (length (listed_aces d.dacl))
