-- What a change gives the ACEs that it is for.
use Rattle.std.specs.Prelude.{ℕ, ◌-◌, unwrap_or}
use Rattle.std.specs.Int.RustNames.{bit_and, bit_or}
use Rattle.sd_ace.specs.Ace.{AccessControlEntry}
use Rattle.sd_sid.specs.Sid.{SecurityId}
use Rattle.sd_text.specs.Bits.{bit_of}
use Rattle.sd_edit.specs.declared.setting.Setting.{Setting}

-- a word with some bits cleared, and others set
abbrev pub with_bits : ℕ → ℕ → ℕ → ℕ
with_bits set clear word = bit_or (word - bit_and word clear) set

abbrev pub new_sid : Setting → SecurityId → SecurityId
new_sid s sid = unwrap_or s.sid sid

abbrev pub new_mask : Setting → ℕ → ℕ
new_mask s mask = with_bits s.set_mask s.clear_mask mask

-- 2.4.4.1 does not name flag 0x20, and it stays clear
abbrev pub new_flags : Setting → ℕ → ℕ
new_flags s flags =
    with_bits s.set_flags s.clear_flags flags - bit_of 0x20 (with_bits s.set_flags s.clear_flags flags)

-- kind and object types stay
abbrev pub with_setting : Setting → AccessControlEntry → AccessControlEntry
with_setting s a =
    record a { sid = new_sid s a.sid; mask = new_mask s a.mask; flags = new_flags s a.flags }
