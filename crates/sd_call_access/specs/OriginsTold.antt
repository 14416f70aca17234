-- Where the ACEs of the descriptor of a new object come from, as the library tells it.
use Rattle.std.specs.Prelude.{◌≡◌, ℕ, List, length, take, MatchResult, Result, Ok, Err}
use Rattle.sd_parts.specs.declared.part.Which.TheVariants as which
use Rattle.sd_faults.specs.declared.line_fault.LineFault.TheVariants as line
use Rattle.sd_inherit.specs.Origins.{new_origins, origins_answer}
use Rattle.sd_inherit.specs.declared.origin.AceCounts.{AceCounts}
use Rattle.sd_inherit.specs.declared.origin.AceOrigin.{AceOrigin}
use Rattle.sd_inherit.specs.declared.origin.OriginFault.{OriginFault}
use Rattle.sd_inherit.specs.declared.origin.OriginFault.TheVariants.{Derive, TooSmall}
use Rattle.sd_call.specs.Outcomes.{done, failed, too_small}
use Rattle.sd_call.specs.declared.outcome.CallFault.{CallFault}
use Rattle.sd_call.specs.declared.outcome.CallFault.TheVariants.{Line}
use Rattle.sd_call.specs.declared.outcome.Outcome.{Outcome}
use Rattle.sd_call_access.specs.declared.derivations.DerivationInput.{DerivationInput}
use Rattle.sd_call_access.specs.declared.origins.OriginsOutcome.{OriginsOutcome}

abbrev pub with_counts : Outcome → AceCounts → OriginsOutcome
with_counts outcome counts =
    record { outcome = outcome; sacl_count = counts.sacl; dacl_count = counts.dacl }

abbrev pub no_aces : AceCounts
no_aces = record { sacl = 0; dacl = 0 }

-- without a new descriptor there are no ACEs
abbrev pub nothing_derived : CallFault → OriginsOutcome
nothing_derived fault = with_counts (failed fault) no_aces

-- how many ACEs there are is told too where there are fewer cells
abbrev pub refused : OriginFault → OriginsOutcome
refused (Derive fault) = nothing_derived (Line (line.Derive fault))
refused (TooSmall counts) = with_counts (too_small 0) counts

abbrev pub counts_of : DerivationInput → ℕ → ℕ → Result AceCounts OriginFault
counts_of input sacl_room dacl_room = origins_answer input.parent input.creator input.plan sacl_room dacl_room

-- The origins are at the front of the cells, as many as the counts say. If there is not enough room, and after a fault,
-- the cells are unchanged.
abbrev pub WritesOrigins : DerivationInput → List AceOrigin → List AceOrigin → List AceOrigin → List AceOrigin
    → OriginsOutcome → Type 0
WritesOrigins input sacl_old sacl_new dacl_old dacl_new outcome =
    MatchResult (counts_of input (length sacl_old) (length dacl_old))
    (λ counts. (outcome ≡ with_counts (done 0) counts)
    × (take counts.sacl sacl_new ≡ new_origins which.Sacl input.parent input.creator input.plan)
    × (take counts.dacl dacl_new ≡ new_origins which.Dacl input.parent input.creator input.plan))
    (λ fault. (outcome ≡ refused fault) × (sacl_new ≡ sacl_old) × (dacl_new ≡ dacl_old))

abbrev pub TellsOrigins : Result DerivationInput CallFault → List AceOrigin → List AceOrigin → List AceOrigin
    → List AceOrigin → OriginsOutcome → Type 0
TellsOrigins (Ok input) sacl_old sacl_new dacl_old dacl_new outcome =
    WritesOrigins input sacl_old sacl_new dacl_old dacl_new outcome
TellsOrigins (Err fault) sacl_old sacl_new dacl_old dacl_new outcome =
    (outcome ≡ nothing_derived fault) × (sacl_new ≡ sacl_old) × (dacl_new ≡ dacl_old)
