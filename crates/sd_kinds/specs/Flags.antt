-- The flags of an ACE (MS-DTYP 2.4.4.1), and their texts (2.5.1.1, ace-flag-string).
use Rattle.std.specs.Prelude.{ℕ, Bool, ◌==◌, nat_lt, if◌then◌else◌, List, length, Option, None}
use Rattle.std.specs.List.{list_any}
use Rattle.sd_text.specs.Limits.{most_field}
use Rattle.sd_text.specs.Names.{run_of, names_of}
use Rattle.sd_kinds.specs.declared.flags.TheConstants.{FLAGS}

-- a flag of the table
abbrev pub is_flag : ℕ → Bool
is_flag flag = list_any (λ e. e.bits == flag) FLAGS

-- the flags that the text of a field gives: a run of names in any order, also repeated
unfoldable pub flags_reads : List ℕ → Option ℕ
flags_reads text = if nat_lt most_field (length text) then None else run_of FLAGS text

-- the names of the flags, in the order of the table
unfoldable pub flags_text : ℕ → List ℕ
flags_text flags = names_of FLAGS flags
