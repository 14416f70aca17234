-- Which early end an error of `clap` gives. Only private contracts cite these; they promise nothing to
-- a caller.
use Rattle.std.specs.Prelude.{◌≡◌, ◌⊎◌, true, Result, Ok, Err}
use Rattle.clap.specs.Words.{kind_of}
use Rattle.clap.specs.declared.error.Error.{Error}
use Rattle.clap.specs.declared.error.ErrorKind.TheVariants as kind
use Rattle.sd_command.specs.EarlyEnds.{is_mistake}
use Rattle.sd_command.specs.declared.parse.EarlyEnd.{EarlyEnd}
use Rattle.sd_command.specs.declared.parse.EarlyEnd.TheVariants.{NoMemory, Usage, Help}

abbrev pub IsEndFor : Error → EarlyEnd → Type 0
IsEndFor e NoMemory = (kind_of e ≡ kind.OutOfMemory) ⊎ (kind_of e ≡ kind.DisplayHelp)
IsEndFor e Usage = is_mistake (kind_of e) ≡ true
IsEndFor e (Help text) = kind_of e ≡ kind.DisplayHelp

abbrev pub EndsFor : {M : Type 0} → Error → Result M EarlyEnd → Type 0
EndsFor e (Ok matches) = ⊥
EndsFor e (Err early) = IsEndFor e early
