-- The texts of SIDs (MS-DTYP 2.4.2.1) and their two-letter names (2.5.1.1).
use Rattle.std.specs.Prelude.{ℕ, ◌+◌, ◌^◌, Bool, ◌==◌, ◌&&◌, ◌||◌, nat_lt, nat_le, if◌then◌else◌, List, [], ◌∷◌, ◌++◌}
use Rattle.std.specs.Prelude.{length, take, drop, slice_index, codes, Option, Some, None, Result, Ok, Err}
use Rattle.std.specs.Char.{is_digit, is_ascii_alphabetic, is_ascii_alphanumeric, to_ascii_lowercase, to_ascii_uppercase}
use Rattle.std.specs.Fmt.{decimal}
use Rattle.std.specs.List.{find, flat_map, list_all, take_while}
use Rattle.std.specs.Option.{option_and_then, option_map, option_or, ok_or}
use Rattle.std.specs.Str.{byte as char, bytes_eq}
use Rattle.sd_text.specs.Chains.{all_read}
use Rattle.sd_text.specs.Cuts.{Cuts, cut_at}
use Rattle.sd_text.specs.Limits.{most_field, most_subs}
use Rattle.sd_text.specs.Numbers.{hex_digits, number}
use Rattle.sd_sid.specs.Sid.{SecurityId}
use Rattle.sd_alias.specs.Names.{known_named, relative_named}
use Rattle.sd_alias.specs.declared.table.WellKnown.{WellKnown}
use Rattle.sd_alias.specs.declared.table.DomainRelative.{DomainRelative}
use Rattle.sd_alias.specs.declared.table.TheConstants.{WELL_KNOWN, DOMAIN_RELATIVE}
use Rattle.sd_sid.specs.declared.sid_text.SidFault.{SidFault}
use Rattle.sd_sid.specs.declared.sid_text.SidFault.TheVariants as faults

-- 1. The text.

-- decimal below 2 ^ 32, and else twelve hex digits
abbrev pub authority_text : ℕ → List ℕ
authority_text a = if nat_lt a (2 ^ 32) then decimal a else codes "0x" ++ hex_digits 12 a

abbrev pub sub_text : ℕ → List ℕ
sub_text n = codes "-" ++ decimal n

-- S-1-, the authority, and a dash and a number for each sub-authority
abbrev pub sid_text : SecurityId → List ℕ
sid_text s = codes "S-1-" ++ authority_text s.authority ++ flat_map sub_text s.subs

-- what stands in the text of a SID: letters, digits and dashes
abbrev pub is_sid_byte : ℕ → Bool
is_sid_byte b = is_ascii_alphanumeric b || b == char "-"

-- the letters, digits and dashes at the front of a text
abbrev pub sid_front : List ℕ → List ℕ
sid_front text = take_while is_sid_byte text

-- 2. The aliases. No SID has two.

abbrev pub same_sid : SecurityId → SecurityId → Bool
same_sid s t = s.authority == t.authority && bytes_eq s.subs t.subs

abbrev pub known_sid : WellKnown → SecurityId
known_sid e = record { authority = e.authority; subs = take e.count e.subs }

-- the domain with one more sub-authority
abbrev pub sid_in : SecurityId → DomainRelative → SecurityId
sid_in d e = record { authority = d.authority; subs = d.subs ++ e.last ∷ [] }

-- a domain of 15 sub-authorities counts as none
abbrev pub usable : Option SecurityId → Option SecurityId
usable domain = option_and_then (λ d. if nat_lt (length d.subs) most_subs then Some d else None) domain

abbrev pub known_alias : SecurityId → Option (List ℕ)
known_alias s = option_map (λ e. e.first ∷ e.second ∷ []) (find (λ e. same_sid (known_sid e) s) WELL_KNOWN)

abbrev pub relative_alias : SecurityId → SecurityId → Option (List ℕ)
relative_alias s d = option_map (λ e. e.first ∷ e.second ∷ []) (find (λ e. same_sid (sid_in d e) s) DOMAIN_RELATIVE)

-- the alias of a SID, under a domain
unfoldable pub alias_of : SecurityId → Option SecurityId → Option (List ℕ)
alias_of s domain = option_or (known_alias s) (option_and_then (relative_alias s) (usable domain))

-- 3. What two letters name, in either case.

abbrev pub relative_reads : DomainRelative → Option SecurityId → Result SecurityId SidFault
relative_reads e None = Err faults.NeedsDomain
relative_reads e (Some d) = Ok (sid_in d e)

abbrev pub name_reads : Option WellKnown → Option DomainRelative → Option SecurityId → Result SecurityId SidFault
name_reads (Some e) other domain = Ok (known_sid e)
name_reads None (Some e) domain = relative_reads e domain
name_reads None None domain = Err faults.Alias

unfoldable pub letters_read : ℕ → ℕ → Option SecurityId → Result SecurityId SidFault
letters_read a b domain = name_reads (known_named a b) (relative_named a b) (usable domain)

-- 4. The shape of any other text.

abbrev pub cut_at_dashes : List ℕ → Cuts
cut_at_dashes text = cut_at (char "-") text

-- one decimal digit or more
abbrev pub is_decimal : List ℕ → Bool
is_decimal text = nat_lt 0 (length text) && list_all (λ b. is_digit b 10) text

-- 0x and twelve hex digits
abbrev pub is_hex : List ℕ → Bool
is_hex text =
    length text == 14 && slice_index text 0 == char "0" && to_ascii_lowercase (slice_index text 1) == char "x"
    && list_all (λ b. is_digit b 16) (drop 2 text)

abbrev pub begins_with_s1 : List ℕ → Bool
begins_with_s1 text =
    to_ascii_uppercase (slice_index text 0) == char "S" && slice_index text 1 == char "-"
    && slice_index text 2 == char "1" && slice_index text 3 == char "-"

-- decimal numbers, at most 15 of them and n others
abbrev pub are_subs : ℕ → List (List ℕ) → Bool
are_subs n texts = nat_le (n + length texts) most_subs && list_all is_decimal texts

abbrev pub are_numbers : Cuts → Bool
are_numbers p = (is_hex p.first || is_decimal p.first) && are_subs 0 p.others

-- S-1-, an authority, and at most 15 times a dash and a decimal number; at most 183 bytes
unfoldable pub has_form : List ℕ → Bool
has_form text = nat_le (length text) most_field && begins_with_s1 text && are_numbers (cut_at_dashes (drop 4 text))

-- 5. Its numbers.

-- at most ten digits, of a number below 2 ^ 32
abbrev pub decimal_reads : List ℕ → Option ℕ
decimal_reads text = if nat_le (length text) 10 then number 10 (2 ^ 32) text else None

-- twelve hex digits are below 2 ^ 48
abbrev pub authority_reads : List ℕ → Option ℕ
authority_reads text = if is_hex text then number 16 (2 ^ 48) (drop 2 text) else decimal_reads text

-- the numbers of texts, if all of them read
abbrev pub decimals_read : List (List ℕ) → Option (List ℕ)
decimals_read texts = all_read decimal_reads texts

abbrev pub sid_of_numbers : Option ℕ → Option (List ℕ) → Option SecurityId
sid_of_numbers (Some a) (Some ns) = Some (record { authority = a; subs = ns })
sid_of_numbers None other = None
sid_of_numbers (Some a) None = None

unfoldable pub numbers_read : Cuts → Option SecurityId
numbers_read p = sid_of_numbers (authority_reads p.first) (decimals_read p.others)

-- 6. The three rules, in their order.

abbrev pub or_number_fault : Option SecurityId → Result SecurityId SidFault
or_number_fault sid = ok_or sid faults.Number

-- exactly two letters
abbrev pub are_letters : List ℕ → Bool
are_letters text =
    length text == 2 && is_ascii_alphabetic (slice_index text 0) && is_ascii_alphabetic (slice_index text 1)

unfoldable pub sid_reads : List ℕ → Option SecurityId → Result SecurityId SidFault
sid_reads text domain =
    if are_letters text then letters_read (slice_index text 0) (slice_index text 1) domain
    else (if has_form text then or_number_fault (numbers_read (cut_at_dashes (drop 4 text))) else Err faults.SidForm)
