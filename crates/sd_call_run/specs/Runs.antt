-- What the whole tool gives on a batch in memory.
use Rattle.std.specs.Prelude.{◌≡◌, ◌<◌, ◌⊎◌, ◌==◌, ◌++◌, ℕ, List, [], ◌∷◌, length, min, take, true}
use Rattle.std.specs.Prelude.{Option, Some, None, Result, Ok, Err, if◌then◌else◌, codes}
use Rattle.std.specs.List.{list_all, list_any}
use Rattle.std.specs.Option.{option_map}
use Rattle.std.specs.Str.{is_utf8}
use Rattle.clap.specs.Words.{IsAmong, Text, fault_of, takes}
use Rattle.clap.specs.declared.error.ErrorKind.TheVariants as kind
use Rattle.sd_answer.specs.Answer.{is_error}
use Rattle.sd_command.specs.CommandLine.{line}
use Rattle.sd_command.specs.Endings.{run_line}
use Rattle.sd_command.specs.EarlyEnds.{is_mistake}
use Rattle.sd_command.specs.Settings.{Settings, settings_of}
use Rattle.sd_command.specs.Usage.{usage_line}
use Rattle.sd_command.specs.FaultLines.{fault_line}
use Rattle.sd_command.specs.declared.settings.UsageFault.{UsageFault}
use Rattle.sd_run.specs.Answers.{answers}
use Rattle.sd_run.specs.Lines.{lines}
use Rattle.sd_run.specs.declared.engine.RunFault.TheVariants.{Write}
use Rattle.sd_call_run.specs.declared.run.Ending.{Ending}

-- ---- the words

-- a byte goes onto the first word of what follows it
abbrev pub onto_first_word : ℕ → List Text → Option (List Text)
onto_first_word b [] = None
onto_first_word b (word ∷ words) = Some ((b ∷ word) ∷ words)

abbrev pub byte_before : ℕ → Option (List Text) → Option (List Text)
byte_before b None = None
byte_before b (Some words) = if b == 0 then Some ([] ∷ words) else onto_first_word b words

-- the words that NULs end; none where the last word lacks its NUL
unfoldable pub words_in : List ℕ → Option (List Text)
words_in [] = Some []
words_in (b ∷ bytes) = byte_before b (words_in bytes)

abbrev pub if_texts : Option (List Text) → Option (List Text)
if_texts None = None
if_texts (Some words) = if list_all is_utf8 words then Some words else None

-- with the program's name in front, if each word is a text
unfoldable pub command_words : List ℕ → Option (List Text)
command_words bytes = option_map (λ words. codes "sdtool" ∷ words) (if_texts (words_in bytes))

-- ---- a run that is not begun

-- the first bytes of a text, as many as there is room for
pub record Shows (text cells : List ℕ) (n : ℕ) : Type 0 where
  pub count : n ≡ min (length text) (length cells)
  pub front : take n cells ≡ take n text

-- the status, with a message and nothing else
pub record EndsWith (status : ℕ) (text message : List ℕ) (ending : Ending) : Type 0 where
  pub is : ending.status ≡ status
  pub no_answer : ending.length ≡ 0
  pub says : Shows text message ending.message_length

abbrev pub EndsWithoutMemory : List ℕ → Ending → Type 0
EndsWithoutMemory = EndsWith 4 (fault_line (codes "no memory"))

abbrev pub EndsRefused : List ℕ → Ending → Type 0
EndsRefused = EndsWith 2 (fault_line (codes "usage"))

-- the output has the front of a text of help, and there is no message
pub record ShowsHelp (text output : List ℕ) (ending : Ending) : Type 0 where
  pub is : ending.status ≡ 0
  pub no_message : ending.message_length ≡ 0
  pub shown : Shows text output ending.length

-- The text is that of `clap`, whose contracts do not say which text that is.
abbrev pub EndsWithHelp : List ℕ → Ending → Type 0
EndsWithHelp output ending = (text : List ℕ) × ShowsHelp text output ending

-- ---- a run

-- Behind the last line there is no message. Else there is no room for the answers to one line more.
abbrev pub EndsBehind : Settings → List (List ℕ) → List (List ℕ) → ℕ → List ℕ → Ending → Type 0
EndsBehind settings front [] room message ending =
    (ending.status ≡ if list_any (is_error settings.task settings.holder) front then 1 else 0)
    × (ending.message_length ≡ 0)
EndsBehind settings front (next ∷ others) room message ending =
    (ending.status ≡ 3) × (room < length (answers settings.task settings.holder (front ++ next ∷ [])))
    × Shows (run_line Write) message ending.message_length

-- The output has the answers to the first lines of the input, each whole: as many as it has room for.
pub record EndsRun (settings : Settings) (input output message : List ℕ) (ending : Ending) : Type 0 where
  pub front : List (List ℕ)
  pub others : List (List ℕ)
  pub split : lines input ≡ front ++ others
  pub count : ending.length ≡ length (answers settings.task settings.holder front)
  pub written : take ending.length output ≡ answers settings.task settings.holder front
  pub ends : EndsBehind settings front others (length output) message ending

-- ---- the endings

-- by what the words settle: a job is run, and else it is said what does not read, or why nothing can be asked
abbrev pub EndsSettled : Result Settings UsageFault → List ℕ → List ℕ → List ℕ → Ending → Type 0
EndsSettled (Ok settings) input output message ending = EndsRun settings input output message ending
EndsSettled (Err fault) input output message ending = EndsWith 2 (usage_line fault) message ending

-- words that the command line takes: only out of memory keeps them from what they settle
abbrev pub EndsTaken : List Text → List ℕ → List ℕ → List ℕ → Ending → Type 0
EndsTaken words input output message ending =
    EndsWithoutMemory message ending ⊎ EndsSettled (settings_of words) input output message ending

-- any words, by the kinds of fault that `clap` finds in them
pub data EndsBy (words : List Text) (input output message : List ℕ) (ending : Ending) : Type 0 where
  without_memory : EndsWithoutMemory message ending → EndsBy words input output message ending
  refused : list_any is_mistake (fault_of line words) ≡ true → EndsRefused message ending
      → EndsBy words input output message ending
  helped : IsAmong kind.DisplayHelp (fault_of line words) → EndsWithHelp output ending
      → EndsBy words input output message ending
  settled : fault_of line words ≡ [] → EndsSettled (settings_of words) input output message ending
      → EndsBy words input output message ending

-- As the program ends. Words that are no texts are refused, whether there is memory or not.
abbrev pub EndsOn : Option (List Text) → List ℕ → List ℕ → List ℕ → Ending → Type 0
EndsOn None input output message ending = EndsRefused message ending
EndsOn (Some words) input output message ending = EndsBy words input output message ending
    × (takes line words ≡ true → EndsTaken words input output message ending)

abbrev pub Runs : List ℕ → List ℕ → List ℕ → List ℕ → Ending → Type 0
Runs words input output message ending = EndsOn (command_words words) input output message ending
