-- The limits of the definitions and of the code, written out, each with the calculation behind it.
use Rattle.std.specs.Prelude.{◌≡◌, ◌+◌, ◌-◌, ◌*◌, ◌/◌, ◌^◌}
use Rattle.sd_text.specs.Limits.{most_acl, most_base64_text, most_field, most_hex_text, most_sddl_text, most_subs}
use Rattle.sd_text.specs.declared.limits.TheConstants.{MOST_BASE64_TEXT, MOST_FIELD_SIZE, MOST_HEX_TEXT}
use Rattle.sd_text.specs.declared.limits.TheConstants.{MOST_SDDL_TEXT, MOST_SUBS}

unfoldable pub LimitValues : Type 0
LimitValues =
    (most_subs ≡ 15)
    × (MOST_SUBS ≡ 15)
    × (most_acl ≡ 2 ^ 16 - 1)
    -- S-1-, 0x and twelve digits, and 15 times a dash and ten digits
    × (most_field ≡ 4 + 14 + 15 * 11)
    × (MOST_FIELD_SIZE ≡ 4 + 14 + 15 * 11)
    -- the digits of 131,226 bytes
    × (most_hex_text ≡ 2 * 131226)
    × (MOST_HEX_TEXT ≡ 2 * 131226)
    × (most_base64_text ≡ 4 * (131226 / 3))
    × (MOST_BASE64_TEXT ≡ 4 * (131226 / 3))
    -- eight characters for each of them, and 64
    × (most_sddl_text ≡ 8 * 131226 + 64)
    × (MOST_SDDL_TEXT ≡ 8 * 131226 + 64)
