-- The masks of the code that scans a DACL. No definition of what is granted rests on them.
use Rattle.std.specs.Prelude.{◌≡◌, ◌<◌, ℕ, ◌-◌, ◌^◌, ◌==◌, Bool, true, not, ◌&&◌, ◌||◌, if◌then◌else◌, List, length}
use Rattle.std.specs.Prelude.{take, bit_and, bit_or}
use Rattle.std.specs.List.{list_any}
use Rattle.sd_ace.specs.Ace.{AccessControlEntry}
use Rattle.sd_rights.specs.Mapping.{GenericMapping, carries, mask_if}
use Rattle.sd_token.specs.Token.{Entry, Holder}
use Rattle.sd_view.specs.Descriptor.{Descriptor}
use Rattle.sd_view.specs.declared.acl_part.AclPart.{AclPart}
use Rattle.sd_rights.specs.AccessRights.{below_system_security, every_right, owner_mask, system_security_mask}
use Rattle.sd_rights.specs.AccessRights.{write_owner_mask}
use Rattle.sd_check.specs.Ask.{Asked}
use Rattle.sd_check.specs.Granted.{decides, granted, is_open, is_owned}
use Rattle.sd_check.specs.Label.{is_lower, label, no_execute_up, no_read_up, no_write_up}
use Rattle.sd_check.specs.declared.label.Label.{Label}
use Rattle.sd_check.specs.Need.{all_below, in_question, least}

-- of these rights in question an owner has one, and the DACL does not grant it by being null or absent
abbrev pub asks_owner : ℕ → AclPart → Bool
asks_owner question dacl = not (is_open dacl) && not (bit_and question owner_mask == 0)

-- the rights that are granted without an ACE, right 24 among them; those of an owner only where they are asked for
unfoldable pub without_ace_mask : ℕ → Descriptor → List Entry → Asked → ℕ
without_ace_mask question d token ask =
    bit_or (bit_or (bit_or (mask_if ask.security system_security_mask) (mask_if ask.take_ownership write_owner_mask))
    (mask_if (asks_owner question d.dacl && is_owned d token) owner_mask))
    (mask_if (is_open d.dacl) below_system_security)

-- the rights in question
abbrev pub question_of : Asked → ℕ
question_of ask = bit_or ask.wanted (mask_if ask.maximum ask.mapping.all)

-- what a label leaves to a holder of a lower level, right 24 among it
abbrev pub left_mask : Label → GenericMapping → ℕ
left_mask label m =
    bit_or system_security_mask
    (bit_or
    (bit_or (mask_if (not (carries label.policy no_read_up)) m.read)
    (mask_if (not (carries label.policy no_write_up)) m.write))
    (mask_if (not (carries label.policy no_execute_up)) m.execute))

-- the rights that the label allows
unfoldable pub permitted_mask : Descriptor → Holder → Asked → ℕ
permitted_mask d holder ask =
    if is_lower holder.level (label d) then left_mask (label d) ask.mapping else every_right

-- those of the rights in question that the ACEs alone can decide, and that the label allows; what is granted without an
-- ACE is taken away whether the label allows it or not
abbrev pub undecided_of : Descriptor → Holder → Asked → ℕ
undecided_of d holder ask =
    bit_and (bit_and (question_of ask) (permitted_mask d holder ask))
    (2 ^ 32 - 1 - bit_or (without_ace_mask (question_of ask) d holder.entries ask) system_security_mask)

-- these ACEs decide each right of a mask
abbrev pub are_decided : ℕ → Descriptor → List Entry → Asked → List AccessControlEntry → Bool
are_decided mask d token ask aces =
    all_below 25 (λ right. not (carries mask right) || list_any (decides right d token ask) aces)

-- the least number of first ACEs that decide each right of a mask, or else all of them
unfoldable pub scan_need : ℕ → Descriptor → List Entry → Asked → List AccessControlEntry → ℕ
scan_need mask d token ask aces = least (λ n. are_decided mask d token ask (take n aces)) (length aces)

-- of the rights in question, the mask has those that are granted
abbrev pub HasGranted : Descriptor → Holder → Asked → ℕ → Type 0
HasGranted d holder ask mask =
    (right : ℕ) → right < 25 → in_question right ask ≡ true → carries mask right ≡ granted right d holder ask
