-- The command line, as `clap` reads it: the options, and the commands that have them.
use Rattle.std.specs.Prelude.{true, codes, List, ◌∷◌, [], ◌++◌, map, Option, Some, None}
use Rattle.std.specs.Borrow.{Bor}
use Rattle.clap.specs.Words.{App, Rule, Text, new_app, new_rule, with_subcommand}
use Rattle.clap.specs.Simple.{on_top}
use Rattle.clap.specs.declared.builder.ArgAction.TheVariants.{Set, SetTrue}
use Rattle.sd_command.specs.declared.options.OptionName.{OptionName}
use Rattle.sd_command.specs.declared.options.OptionName.TheVariants as name
use Rattle.sd_command.specs.declared.options.OptionRow.{OptionRow}

-- `--name VALUE`, at most once
abbrev pub optional : Text → Rule
optional name = record (new_rule name) { long = Some name; action = Some Set; value_names = 1 }

-- `--name VALUE`, exactly once
abbrev pub required : Text → Rule
required name = record (optional name) { required = true }

-- `--name`, at most once
abbrev pub flag : Text → Rule
flag name = record (new_rule name) { long = Some name; action = Some SetTrue }

abbrev pub option_rule : OptionName → Rule
option_rule name.Domain = optional (codes "domain")
option_rule name.From = optional (codes "from")
option_rule name.To = optional (codes "to")
option_rule name.Numeric = flag (codes "numeric")
option_rule name.Type = optional (codes "type")
option_rule name.Kind = required (codes "kind")
option_rule name.Owner = required (codes "owner")
option_rule name.Group = required (codes "group")
option_rule name.Creator = optional (codes "creator")
option_rule name.Token = required (codes "token")
option_rule name.Want = optional (codes "want")
option_rule name.Maximum = flag (codes "maximum")
option_rule name.Object = optional (codes "object")
option_rule name.PrincipalSelf = optional (codes "self")
option_rule name.Security = flag (codes "security")
option_rule name.TakeOwnership = flag (codes "take-ownership")
option_rule name.Level = optional (codes "level")

-- the word that names an option, behind two dashes
abbrev pub option_text : OptionName → Text
option_text option = (option_rule option).id

-- a row of the program's table, as a rule: what has no name for its value is a flag
abbrev pub rule_with : Option (Bor Text) → Text → Rule
rule_with None = flag
rule_with (Some value_name) = optional

abbrev pub row_rule : OptionRow → Rule
row_rule row = record (rule_with row.value_name row.name.now) { required = row.required }

abbrev pub with_options : App → List OptionName → App
with_options app options = on_top (λ s. record s { rules = s.rules ++ map option_rule options }) app

unfoldable pub convert_line : App
convert_line = with_options (new_app (codes "convert")) (name.From ∷ name.To ∷ name.Domain ∷ name.Numeric ∷ [])

unfoldable pub explain_line : App
explain_line = with_options (new_app (codes "explain")) (name.From ∷ name.Domain ∷ name.Numeric ∷ [])

unfoldable pub check_line : App
check_line =
    with_options (new_app (codes "check"))
    (name.From ∷ name.Domain ∷ name.Token ∷ name.Want ∷ name.Maximum ∷ name.Type ∷ name.Object
    ∷ name.PrincipalSelf ∷ name.Security ∷ name.TakeOwnership ∷ name.Level ∷ [])

unfoldable pub derive_line : App
derive_line =
    with_options (new_app (codes "derive"))
    (name.From ∷ name.To ∷ name.Domain ∷ name.Numeric ∷ name.Kind ∷ name.Owner ∷ name.Group
    ∷ name.Type ∷ name.Creator ∷ [])

-- `sdtool`, which wants a command
unfoldable pub bare_line : App
bare_line = on_top (λ s. record s { subcommand_required = true }) (new_app (codes "sdtool"))

unfoldable pub line : App
line =
    with_subcommand (with_subcommand (with_subcommand (with_subcommand bare_line
    convert_line.top)
    explain_line.top)
    check_line.top)
    derive_line.top
