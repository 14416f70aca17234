-- The limits that definitions and clauses cite, each by its name; the code has those that it looks at in limits.rt.
use Rattle.std.specs.Prelude.{ℕ}

-- the bytes of a field of SDDL, and of the longest text of a SID: S-1-, an authority in hex, and 15 times a dash and
-- ten digits
abbrev pub most_field : ℕ
most_field = 183

-- the sub-authorities of a SID (MS-DTYP 2.4.2)
abbrev pub most_subs : ℕ
most_subs = 15

-- the bytes of an ACL, whose size has 16 bits (MS-DTYP 2.4.5)
abbrev pub most_acl : ℕ
most_acl = 65535

-- the characters of a line, without its LF and a dropped CR: for a descriptor of 131,226 bytes (`CAPACITY` of
-- sd_parts) two hex digits a byte, four characters of base64 for three bytes, and in SDDL eight a byte and 64
abbrev pub most_hex_text : ℕ
most_hex_text = 262452

abbrev pub most_base64_text : ℕ
most_base64_text = 174968

abbrev pub most_sddl_text : ℕ
most_sddl_text = 1049872
