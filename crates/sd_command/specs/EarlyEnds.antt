-- What an early end says of the words, by the kinds of fault that `clap` finds in them.
use Rattle.std.specs.Prelude.{◌≡◌, Bool, true, false}
use Rattle.std.specs.List.{list_any}
use Rattle.clap.specs.Words.{Kinds, IsAmong}
use Rattle.clap.specs.declared.error.ErrorKind.{ErrorKind}
use Rattle.clap.specs.declared.error.ErrorKind.TheVariants as kind
use Rattle.sd_command.specs.declared.parse.EarlyEnd.{EarlyEnd}
use Rattle.sd_command.specs.declared.parse.EarlyEnd.TheVariants.{NoMemory, Usage, Help}

-- a kind of fault that is a mistake in the words: neither out of memory nor a request for help
abbrev pub is_mistake : ErrorKind → Bool
is_mistake kind.OutOfMemory = false
is_mistake kind.DisplayHelp = false
is_mistake _ = true

-- the early ends that are allowed by the kinds of fault that `clap` may give
abbrev pub AllowsEnd : Kinds → EarlyEnd → Type 0
AllowsEnd kinds NoMemory = Unit {0}
AllowsEnd kinds Usage = list_any is_mistake kinds ≡ true
AllowsEnd kinds (Help text) = IsAmong kind.DisplayHelp kinds
