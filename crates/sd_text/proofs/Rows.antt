-- The limits, each in numbers that were worked out by hand.
use Rattle.std.proofs.Common.{◌≡◌, rules}
use Rattle.sd_text.specs.Limits.{most_acl, most_base64_text, most_field, most_hex_text, most_sddl_text, most_subs}

sub_authorities_and_more : record {
  -- MS-DTYP 2.4.2.2: the count of sub-authorities is at most 15
  sub_authorities : most_subs ≡ 15;
  -- MS-DTYP 2.4.5: a size of 16 bits
  acl_bytes : most_acl ≡ 65535;
  -- "S-1-0x", twelve digits, and fifteen times "-4294967295"
  field_bytes : most_field ≡ 183;
  -- 20 + 68 + 68 + 65,535 + 65,535 bytes of a descriptor are 131,226
  hex_characters : most_hex_text ≡ 262452;
  base64_characters : most_base64_text ≡ 174968;
  sddl_bytes : most_sddl_text ≡ 1049872;
}
sub_authorities_and_more = search rules
