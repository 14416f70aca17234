-- The texts of access rights (MS-DTYP 2.5.1.1, ace-rights).
use Rattle.std.specs.Prelude.{ℕ, ◌^◌, Bool, true, false, ◌&&◌, ◌||◌, ◌==◌, nat_lt, if◌then◌else◌, List, [], ◌∷◌, ◌++◌}
use Rattle.std.specs.Prelude.{length, codes, Option, Some, None, option_map, unwrap_or}
use Rattle.std.specs.List.{find, list_all}
use Rattle.std.specs.Char.{is_digit}
use Rattle.std.specs.Fmt.{digits}
use Rattle.std.specs.Str.Parse.{digits_value}
use Rattle.std.specs.Str.{byte as char}
use Rattle.sd_text.specs.Limits.{most_field}
use Rattle.sd_text.specs.Names.{run_of, names_of, named_bits}
use Rattle.sd_kinds.specs.declared.kinds.AceKind.{AceKind}
use Rattle.sd_kinds.specs.declared.kinds.AceKind.TheVariants as kinds
use Rattle.sd_text.specs.declared.names.NamedBits.{NamedBits}
use Rattle.sd_rights.specs.declared.rights_table.TheConstants.{SINGLES, COMPOUNDS, LABELS}

-- 1. Reading.

-- every name is read in every kind of ACE
abbrev pub all_rights : List NamedBits
all_rights = COMPOUNDS ++ (SINGLES ++ LABELS)

-- one digit of a base or more, and nothing else
abbrev pub is_numeral : ℕ → List ℕ → Bool
is_numeral base text = nat_lt 0 (length text) && list_all (λ c. is_digit c base) text

-- the number below 2 ^ 32 that the digits of a base write
abbrev pub mask_reads : ℕ → List ℕ → Option ℕ
mask_reads base text =
    if is_numeral base text && nat_lt (digits_value base text) (2 ^ 32) then Some (digits_value base text) else None

-- what follows a zero: x and hex digits, or octal digits, or nothing
abbrev pub after_zero : List ℕ → Option ℕ
after_zero [] = Some 0
after_zero (c ∷ cs) = if c == char "x" || c == char "X" then mask_reads 16 cs else mask_reads 8 (c ∷ cs)

-- nothing, a number, or a run of names
abbrev pub short_rights_reads : List ℕ → Option ℕ
short_rights_reads [] = Some 0
short_rights_reads (c ∷ cs) =
    if is_digit c 10 then (if c == char "0" then after_zero cs else mask_reads 10 (c ∷ cs))
    else run_of all_rights (c ∷ cs)

-- the mask that the text of a field gives
unfoldable pub rights_reads : List ℕ → Option ℕ
rights_reads text = if nat_lt most_field (length text) then None else short_rights_reads text

-- 2. Printing.

abbrev pub is_label : AceKind → Bool
is_label kinds.Label = true
is_label other = false

abbrev pub hex_text : ℕ → List ℕ
hex_text mask = codes "0x" ++ digits 16 false mask

-- the names of a mask that is made of bits with names, and else its hex text
abbrev pub names_or_hex : List NamedBits → ℕ → List ℕ
names_or_hex table mask = if named_bits table mask == mask then names_of table mask else hex_text mask

-- the two letters of a name
abbrev pub name_letters : NamedBits → List ℕ
name_letters e = e.first ∷ e.second ∷ []

unfoldable pub rights_text : AceKind → ℕ → List ℕ
rights_text kind mask =
    if mask == 0 then hex_text 0
    else (if is_label kind then names_or_hex LABELS mask
    else unwrap_or (option_map name_letters (find (λ e. e.bits == mask) COMPOUNDS)) (names_or_hex SINGLES mask))
