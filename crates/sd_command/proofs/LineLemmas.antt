-- A command that gets its options one after the other.
use Rattle.std.proofs.Common.{◌≡◌, ◌≤◌, ◌<◌, ◌+◌, ◌++◌, ℕ, List, [], length, map, suc, take, ap, ap₂, sym, ◌∙◌}
use Rattle.std.proofs.Common.{arith, append_assoc, append-nil}
use Rattle.std.specs.List.{slice_index_or}
use Rattle.std.proofs.Math.Seq.{take-suc}
use Rattle.std.proofs.lemmas.List.{map-append, take_all}
use Rattle.clap.specs.Words.{App, Rule, with_rule, with_subcommand}
use Rattle.clap.specs.Simple.{on_top}
use Rattle.sd_command.specs.CommandLine.{option_rule, with_options}
use Rattle.sd_command.specs.declared.options.OptionName.{OptionName}

abbrev with_rules : App → List Rule → App
with_rules app rules = on_top (λ s. record s { rules = rules }) app

pub none-more : (app : App) → with_options app [] ≡ app
none-more app = ap (with_rules app) (append-nil app.top.rules)

pub one-more : (app : App) (options : List OptionName) (i : ℕ) (d : OptionName) → i < length options
    → with_rule (with_options app (take i options)) (option_rule (slice_index_or options i d))
    ≡ with_options app (take (i + 1) options)
one-more app options i d below =
    let next : i + 1 ≡ suc i = omega arith in
    rw next
    (ap (with_rules app)
    (append_assoc app.top.rules (map option_rule (take i options)) _
    ∙ ap (λ (rules : List Rule). app.top.rules ++ rules)
    (sym (map-append option_rule (take i options) _) ∙ ap (map option_rule) (sym (take-suc options i d below)))))

pub all-there : (app : App) (options : List OptionName) (i : ℕ) → length options ≤ i
    → with_options app (take i options) ≡ with_options app options
all-there app options i all = ap (with_options app) (take_all i options all)

-- the line with one command more
pub one-below : (options : List OptionName) (app app' command command' : App) → app ≡ app' → command ≡ command'
    → with_subcommand app (with_options command options).top ≡ with_subcommand app' (with_options command' options).top
one-below options app app' command command' =
    ap₂ (λ (x y : App). with_subcommand x (with_options y options).top)
