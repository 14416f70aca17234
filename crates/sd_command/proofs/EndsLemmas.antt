-- What a run makes of words that settle a job.
use Rattle.std.proofs.Common.{◌≡◌, ℕ, inl, inr, List, Result, Ok, Err, sym, subst, true}
use Rattle.std.specs.String.{string_bytes}
use Rattle.clap.specs.Words.{Text, takes}
use Rattle.sd_command.specs.CommandLine.{line}
use Rattle.sd_command.specs.Endings.{Told, EndsBy, EndsTaken, EndsSettled, EndsRun, settled}
use Rattle.sd_command.specs.Preparing.{EndsPrepared, PreparesBy, StopsTaken, settled as of}
use Rattle.sd_command.specs.declared.parse.EarlyEnd.TheVariants.{Help, NoMemory, Usage}
use Rattle.sd_command.specs.declared.program.Stop.{Stop}
use Rattle.sd_command.specs.declared.program.Stop.TheVariants as stop
use Rattle.sd_command.specs.Settings.{Settings}
use Rattle.sd_command.specs.declared.settings.UsageFault.{UsageFault}
use Rattle.sd_command.specs.declared.program.Prepared.{Prepared}

-- an ending by the job that the words settle is an ending of words that are taken
taken-run : (words : List Text) (prepared : Prepared) (told told' : Told) (status : ℕ)
    → PreparesBy words (Ok prepared) → EndsRun (of prepared) told told' status
    → EndsTaken words told told' status
taken-run words prepared told told' status p run = inr
    (subst (λ (s : Result Settings UsageFault). EndsSettled s told told' status) (sym p.1.0) run)

-- and one by the kinds of fault in them, of which there are none
by-run : (words : List Text) (prepared : Prepared) (told told' : Told) (status : ℕ) → PreparesBy words (Ok prepared)
    → EndsRun (of prepared) told told' status
    → EndsBy words told told' status
by-run words prepared told told' status p run = settled p.0
    (subst (λ (s : Result Settings UsageFault). EndsSettled s told told' status) (sym p.1.0) run)

-- however it ends, that is an ending of words that are taken
pub taken-prepared : (words : List Text) (prepared : Result Prepared Stop) (told told' : Told) (status : ℕ)
    → PreparesBy words prepared → (takes line words ≡ true → StopsTaken prepared)
    → EndsPrepared prepared told told' status → takes line words ≡ true → EndsTaken words told told' status
taken-prepared words (Ok prepared) told told' status p stops e takes = taken-run words prepared told told' status p e
taken-prepared words (Err (stop.Early NoMemory)) told told' status p stops e takes = inl e
taken-prepared words (Err (stop.Early Usage)) told told' status p stops e takes =
    let is : Usage ≡ NoMemory = stops takes in cc
taken-prepared words (Err (stop.Early (Help text))) told told' status p stops e takes =
    let is : Help text ≡ NoMemory = stops takes in cc
taken-prepared words (Err (stop.Value fault)) told told' status p stops e takes =
    inr (subst (λ (s : Result Settings UsageFault). EndsSettled s told told' status) (sym p.1) e)

-- and one by the kinds of fault in them
pub by-prepared : (words : List Text) (prepared : Result Prepared Stop) (told told' : Told) (status : ℕ)
    → PreparesBy words prepared → EndsPrepared prepared told told' status → EndsBy words told told' status
by-prepared words (Ok prepared) told told' status p e = by-run words prepared told told' status p e
by-prepared words (Err (stop.Early NoMemory)) told told' status p e = EndsBy.without_memory e
by-prepared words (Err (stop.Early Usage)) told told' status p e = EndsBy.refused p e
by-prepared words (Err (stop.Early (Help text))) told told' status p e = EndsBy.helped p (string_bytes text, e)
by-prepared words (Err (stop.Value fault)) told told' status p e =
    settled p.0 (subst (λ (s : Result Settings UsageFault). EndsSettled s told told' status) (sym p.1) e)
