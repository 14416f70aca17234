-- What a change makes of the ACEs of an ACL that is a list.
use Rattle.std.specs.Prelude.{◌≡◌, ℕ, not, nat_lt, if◌then◌else◌, List, length, map, count_by, slice_set}
use Rattle.std.specs.Prelude.{Option, Some, None, is_some, option_map}
use Rattle.std.specs.List.{filter, insert, remove}
use Rattle.sd_ace.specs.Ace.{AccessControlEntry}
use Rattle.sd_parts.specs.declared.part.Which.{Which}
use Rattle.sd_edit.specs.Matching.{matches}
use Rattle.sd_edit.specs.Order.{behind_last, first_fall, no_higher, ranks}
use Rattle.sd_edit.specs.Setting.{with_setting}
use Rattle.sd_edit.specs.declared.change.ListChange.{ListChange}
use Rattle.sd_edit.specs.declared.change.ListChange.TheVariants as lists
use Rattle.sd_edit.specs.declared.change.Place.{Place}
use Rattle.sd_edit.specs.declared.change.Place.TheVariants as place
use Rattle.sd_edit.specs.declared.matching.Match.{Match}
use Rattle.sd_edit.specs.declared.setting.Setting.{Setting}

-- where an ACE is put: at a place up to the number of ACEs, at the end, or by order, if the ACEs are in order
abbrev pub place_for : Which → Place → AccessControlEntry → List AccessControlEntry → Option ℕ
place_for w (place.At n) new aces = if nat_lt (length aces) n then None else Some n
place_for w place.End new aces = Some (length aces)
place_for w place.ByOrder new aces =
    if is_some (first_fall (ranks w aces)) then None else Some (behind_last (no_higher w new) aces)

abbrev pub set_where : Match → Setting → AccessControlEntry → AccessControlEntry
set_where m s a = if matches m a then with_setting s a else a

-- the ACEs, and how many were put, taken or set; None where there is no such place
unfoldable pub list_edited : Which → ListChange → List AccessControlEntry → Option (List AccessControlEntry × ℕ)
list_edited w (lists.Put place new) aces = option_map (λ n. (insert aces n new, 1)) (place_for w place new aces)
list_edited w (lists.Take n) aces = if nat_lt n (length aces) then Some (remove aces n, 1) else None
list_edited w (lists.Replace n new) aces = if nat_lt n (length aces) then Some (slice_set aces n new, 1) else None
list_edited w (lists.TakeEach m) aces = Some (filter (λ a. not (matches m a)) aces, count_by (matches m) aces)
list_edited w (lists.SetEach m s) aces = Some (map (set_where m s) aces, count_by (matches m) aces)

-- the code has made this of the ACEs
abbrev pub Changes : Option (List AccessControlEntry × ℕ) → List AccessControlEntry → Option ℕ → Type 0
Changes expected aces None = expected ≡ None
Changes expected aces (Some count) = expected ≡ Some (aces, count)
