-- Words that the program takes and refuses, by hand from docs/sdtool.1 and tests/rows/words.json.
use Rattle.std.proofs.Common.{◌≡◌, inl, inr, ◌++◌, List, [], ◌∷◌, Some, None, Bool, true, false, map, codes, refl}
use Rattle.std.proofs.Common.{String, Global, rules}
use Rattle.std.specs.Borrow.{Bor}
use Rattle.clap.specs.Words.{Text, fault_of, takes}
use Rattle.clap.specs.declared.error.ErrorKind.TheVariants as kind
use Rattle.clap.proofs.OnLiterals.{clap_on_literals}
use Rattle.sd_command.specs.CommandLine.{bare_line, check_line, convert_line, derive_line, explain_line, line}
use Rattle.sd_command.specs.CommandLine.{option_rule, option_text, row_rule, rule_with}
use Rattle.sd_command.specs.FaultLines.{fault_line, value_line}
use Rattle.sd_command.specs.EarlyEnds.{AllowsEnd, is_mistake}
use Rattle.sd_command.specs.declared.options.OptionName.TheVariants as name
use Rattle.sd_command.specs.declared.options.OptionRow.{OptionRow}
use Rattle.sd_command.specs.declared.parse.EarlyEnd.{EarlyEnd}
use Rattle.sd_command.specs.declared.parse.EarlyEnd.TheVariants.{Help, NoMemory, Usage}
use Rattle.sd_command.specs.declared.statuses.TheConstants.{ANSWERED_STATUS, FAILED_STATUS, FAULTY_STATUS}
use Rattle.sd_command.specs.declared.statuses.TheConstants.{NO_MEMORY_STATUS, USAGE_STATUS}

abbrev taken : List Text → Bool
taken words = takes line (codes "sdtool" ∷ words)

-- the table of options in docs/sdtool.1, in its order, each with some value
abbrev each_option : List (List Text)
each_option =
    (codes "--from" ∷ codes "v" ∷ []) ∷ (codes "--to" ∷ codes "v" ∷ []) ∷ (codes "--domain" ∷ codes "v" ∷ [])
    ∷ (codes "--numeric" ∷ []) ∷ (codes "--token" ∷ codes "v" ∷ []) ∷ (codes "--want" ∷ codes "v" ∷ [])
    ∷ (codes "--maximum" ∷ []) ∷ (codes "--type" ∷ codes "v" ∷ []) ∷ (codes "--object" ∷ codes "v" ∷ [])
    ∷ (codes "--self" ∷ codes "v" ∷ []) ∷ (codes "--level" ∷ codes "v" ∷ []) ∷ (codes "--security" ∷ [])
    ∷ (codes "--take-ownership" ∷ []) ∷ (codes "--kind" ∷ codes "v" ∷ []) ∷ (codes "--owner" ∷ codes "v" ∷ [])
    ∷ (codes "--group" ∷ codes "v" ∷ []) ∷ (codes "--creator" ∷ codes "v" ∷ []) ∷ []

-- its column of commands

abbrev derive_file : List Text
derive_file =
    codes "derive" ∷ codes "--kind" ∷ codes "file" ∷ codes "--owner" ∷ codes "BA" ∷ codes "--group" ∷ codes "SY" ∷ []

columns_of_commands : record {
  options_of_convert : map (λ option. taken (codes "convert" ∷ option)) each_option
      ≡ true ∷ true ∷ true ∷ true ∷ false ∷ false ∷ false ∷ false ∷ false ∷ false ∷ false ∷ false ∷ false ∷ false
      ∷ false
      ∷ false ∷ false ∷ [];
  options_of_explain : map (λ option. taken (codes "explain" ∷ option)) each_option
      ≡ true ∷ false ∷ true ∷ true ∷ false ∷ false ∷ false ∷ false ∷ false ∷ false ∷ false ∷ false ∷ false ∷ false
      ∷ false ∷ false ∷ false ∷ [];
  -- The token is given, and no option may be given twice.
  options_of_check : map (λ option. taken (codes "check" ∷ codes "--token" ∷ codes "WD" ∷ option)) each_option
      ≡ true ∷ false ∷ true ∷ false ∷ false ∷ true ∷ true ∷ true ∷ true ∷ true ∷ true ∷ true ∷ true ∷ false ∷ false
      ∷ false ∷ false ∷ [];
  options_of_derive : map (λ option. taken (derive_file ++ option)) each_option
      ≡ true ∷ true ∷ true ∷ true ∷ false ∷ false ∷ false ∷ true ∷ false ∷ false ∷ false ∷ false ∷ false ∷ false ∷ false
      ∷ false ∷ true ∷ [];
}
unfolding line bare_line convert_line explain_line check_line derive_line clap_on_literals
columns_of_commands = search rules

-- its column of defaults: which options may be left out

-- the names that help shows
names : (line.top.name ≡ codes "sdtool")
    × (map (λ command. command.name) line.subs
    ≡ codes "convert" ∷ codes "explain" ∷ codes "check" ∷ codes "derive" ∷ [])
unfolding line bare_line convert_line explain_line check_line derive_line
names = (refl, refl)

columns_of_defaults : record {
  nothing_required : map taken ((codes "convert" ∷ []) ∷ (codes "explain" ∷ []) ∷ []) ≡ true ∷ true ∷ [];
  token_required : map taken
      ((codes "check" ∷ []) ∷ (codes "check" ∷ codes "--maximum" ∷ [])
      ∷ (codes "check" ∷ codes "--token" ∷ codes "WD" ∷ []) ∷ [])
      ≡ false ∷ false ∷ true ∷ [];
  three_required : map taken
      (derive_file
      ∷ (codes "derive" ∷ codes "--owner" ∷ codes "BA" ∷ codes "--group" ∷ codes "SY" ∷ [])
      ∷ (codes "derive" ∷ codes "--kind" ∷ codes "file" ∷ codes "--group" ∷ codes "SY" ∷ [])
      ∷ (codes "derive" ∷ codes "--kind" ∷ codes "file" ∷ codes "--owner" ∷ codes "BA" ∷ []) ∷ [])
      ≡ true ∷ false ∷ false ∷ false ∷ [];
  -- a value that is missing, empty, behind an equals sign, and one too many; an option that is given twice
  values : map (λ rest. taken (codes "convert" ∷ rest))
      ((codes "--to" ∷ []) ∷ (codes "--to" ∷ [] ∷ []) ∷ (codes "--to=hex" ∷ [])
      ∷ (codes "--to" ∷ codes "hex" ∷ codes "hex" ∷ []) ∷ (codes "--to" ∷ codes "hex" ∷ codes "--to" ∷ codes "hex" ∷ [])
      ∷ [])
      ≡ false ∷ true ∷ true ∷ false ∷ false ∷ [];
  -- A flag has no value.
  flags : map (λ rest. taken (codes "convert" ∷ rest))
      ((codes "--numeric=v" ∷ []) ∷ (codes "--numeric" ∷ codes "v" ∷ [])
      ∷ (codes "--numeric" ∷ codes "--numeric" ∷ []) ∷ [])
      ≡ false ∷ false ∷ false ∷ [];
  -- what is no command, and no command at all
  no_commands : map taken
      ([] ∷ ([] ∷ []) ∷ (codes "frobnicate" ∷ []) ∷ (codes "CONVERT" ∷ []) ∷ (codes "sdtool" ∷ [])
      ∷ (codes "--to" ∷ codes "hex" ∷ []) ∷ (codes "--version" ∷ []) ∷ [])
      ≡ false ∷ false ∷ false ∷ false ∷ false ∷ false ∷ false ∷ [];
}
unfolding line bare_line convert_line explain_line check_line derive_line clap_on_literals
columns_of_defaults = search rules

-- mistakes, and words that ask for help

abbrev allows_end : List Text → EarlyEnd → Type 0
allows_end words = AllowsEnd (fault_of line (codes "sdtool" ∷ words))

mistaken : allows_end [] Usage × allows_end (codes "frobnicate" ∷ []) Usage × allows_end (codes "check" ∷ []) Usage
    × allows_end (codes "convert" ∷ codes "--verbose" ∷ []) Usage
unfolding line bare_line convert_line explain_line check_line derive_line clap_on_literals
mistaken = (refl, refl, refl, refl)

helped : (text : String Global) → allows_end (codes "--help" ∷ []) (Help text)
    × allows_end (codes "help" ∷ []) (Help text) × allows_end (codes "help" ∷ codes "check" ∷ []) (Help text)
    × allows_end (codes "check" ∷ codes "--help" ∷ []) (Help text)
unfolding line bare_line convert_line explain_line check_line derive_line clap_on_literals
helped text = (inl refl, inl refl, inl refl, inl refl)

-- A row of the program's table without a name for its value is a flag.

flag_of_table : rule_with None (codes "numeric") ≡ option_rule name.Numeric
flag_of_table = refl

option_of_table : (value : Bor Text) → rule_with (Some value) (codes "from") ≡ option_rule name.From
option_of_table value = refl

required_of_table : (row : OptionRow) (value : Bor Text) → row.name.now ≡ codes "kind" → row.value_name ≡ Some value
    → row.required ≡ true → row_rule row ≡ option_rule name.Kind
required_of_table row value n v r = rw n (rw v (rw r refl))

-- the lines on the fault stream

fault_lines : (fault_line (codes "usage") ≡ codes "sdtool: usage\n")
    × (fault_line (codes "no memory") ≡ codes "sdtool: no memory\n")
fault_lines = (refl, refl)

value_lines_and_more : record {
  value_lines : map value_line
      (name.From ∷ name.To ∷ name.Domain ∷ name.Token ∷ name.Want ∷ name.Type ∷ name.Object ∷ name.PrincipalSelf
      ∷ name.Level ∷ name.Kind ∷ name.Owner ∷ name.Group ∷ name.Creator ∷ [])
      ≡ codes "sdtool: usage: --from\n" ∷ codes "sdtool: usage: --to\n" ∷ codes "sdtool: usage: --domain\n"
      ∷ codes "sdtool: usage: --token\n" ∷ codes "sdtool: usage: --want\n" ∷ codes "sdtool: usage: --type\n"
      ∷ codes "sdtool: usage: --object\n" ∷ codes "sdtool: usage: --self\n" ∷ codes "sdtool: usage: --level\n"
      ∷ codes "sdtool: usage: --kind\n" ∷ codes "sdtool: usage: --owner\n" ∷ codes "sdtool: usage: --group\n"
      ∷ codes "sdtool: usage: --creator\n" ∷ [];
  flag_words : map option_text (name.Numeric ∷ name.Maximum ∷ name.Security ∷ name.TakeOwnership ∷ [])
      ≡ codes "numeric" ∷ codes "maximum" ∷ codes "security" ∷ codes "take-ownership" ∷ [];
}
value_lines_and_more = search rules

-- early ends: help and out of memory are no mistakes, and all else is

-- Memory may run out whatever the words are.
no_memory : AllowsEnd [] NoMemory
no_memory = tt

help_is_no_mistake : AllowsEnd (kind.DisplayHelp ∷ []) Usage → ⊥
help_is_no_mistake h = let bad : false ≡ true = h in cc

help : (text : String Global) → AllowsEnd (kind.DisplayHelp ∷ []) (Help text)
help text = inl refl

mistake_asks_for_no_help : (text : String Global) → AllowsEnd (kind.UnknownArgument ∷ []) (Help text) → ⊥
mistake_asks_for_no_help text (inl h) = let bad : kind.DisplayHelp ≡ kind.UnknownArgument = h in cc
mistake_asks_for_no_help text (inr h) = h

-- EXIT STATUS of docs/sdtool.1
exit_statuses :
    ANSWERED_STATUS ∷ FAULTY_STATUS ∷ USAGE_STATUS ∷ FAILED_STATUS ∷ NO_MEMORY_STATUS ∷ [] ≡ 0 ∷ 1 ∷ 2 ∷ 3 ∷ 4 ∷ []
exit_statuses = refl

early_ends : record {
  mistakes : map is_mistake
      (kind.InvalidValue ∷ kind.UnknownArgument ∷ kind.InvalidSubcommand ∷ kind.NoEquals ∷ kind.ValueValidation
      ∷ kind.TooManyValues ∷ kind.TooFewValues ∷ kind.WrongNumberOfValues ∷ kind.ArgumentConflict
      ∷ kind.MissingRequiredArgument ∷ kind.MissingSubcommand ∷ kind.DisplayHelp
      ∷ kind.DisplayHelpOnMissingArgumentOrSubcommand ∷ kind.DisplayVersion ∷ kind.OutOfMemory ∷ [])
      ≡ true ∷ true ∷ true ∷ true ∷ true ∷ true ∷ true ∷ true ∷ true ∷ true ∷ true ∷ false ∷ true ∷ true ∷ false ∷ [];
  usage : AllowsEnd (kind.UnknownArgument ∷ []) Usage;
}
early_ends = search rules
