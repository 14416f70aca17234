-- Words and endings as a caller spells and sees them, by hand from include/sdtool.h.
use Rattle.std.proofs.Common.{◌≡◌, ◌++◌, inl, ℕ, List, [], ◌∷◌, length, true, false, Some, None, Ok, Err, codes, refl}
use Rattle.std.proofs.Common.{arith, rules}
use Rattle.std.specs.Str.{is_utf8}
use Rattle.clap.specs.Words.{Text}
use Rattle.clap.proofs.OnLiterals.{clap_on_literals}
use Rattle.sd_answer.specs.Answer.{is_error}
use Rattle.sd_answer.specs.LineEnd.{without_cr}
use Rattle.sd_run.specs.Answers.{answers}
use Rattle.sd_run.specs.Lines.{cut_at_line_feeds, ended, lines}
use Rattle.sd_command.specs.CommandLine.{bare_line, check_line, convert_line, derive_line, explain_line, line}
use Rattle.sd_command.specs.declared.options.OptionName.TheVariants as name
use Rattle.sd_command.specs.Settings.{Settings, settings_of}
use Rattle.sd_command.specs.declared.settings.UsageFault.TheVariants.{Value}
use Rattle.sd_call_run.specs.Runs.{EndsBehind, EndsBy, EndsOn, EndsRefused, EndsRun, EndsSettled, EndsTaken}
use Rattle.sd_call_run.specs.Runs.{EndsWithoutMemory, Runs, ShowsHelp, command_words, words_in}
use Rattle.sd_call_run.specs.declared.run.Ending.{Ending}

-- no NUL behind the last word
no_end : (command_words (codes "explain") ≡ None) × (command_words (0 ∷ codes "x") ≡ None)
unfolding command_words words_in
no_end = (refl, refl)

-- no byte 0xff is in a text
no_text : is_utf8 (0xff ∷ []) ≡ false → command_words (0xff ∷ 0 ∷ []) ≡ None
unfolding command_words words_in
no_text h = rw h refl

abbrev ending : ℕ → ℕ → ℕ → Ending
ending status length message_length = record { status = status; length = length; message_length = message_length }

refused : EndsRefused (codes "sdtool: usage\n...") (ending 2 0 14)
refused = record { is = refl; no_answer = refl; says = record { count = refl; front = refl } }

whole_message : EndsWithoutMemory (codes "sdtool: no memory\n...") (ending 4 0 18)
whole_message = record { is = refl; no_answer = refl; says = record { count = refl; front = refl } }

-- as much of the message as there is room for
without_memory : EndsWithoutMemory (codes "sdtool: no me") (ending 4 0 13)
without_memory = record { is = refl; no_answer = refl; says = record { count = refl; front = refl } }

help : ShowsHelp (codes "Convert") (codes "Conv") (ending 0 4 0)
help = record { is = refl; no_message = refl; shown = record { count = refl; front = refl } }

no_words_and_more : record {
  no_words : command_words [] ≡ Some (codes "sdtool" ∷ []);
  -- A word may be empty.
  words : words_in (codes "explain" ++ 0 ∷ 0 ∷ codes "x" ++ 0 ∷ []) ≡ Some (codes "explain" ∷ [] ∷ codes "x" ∷ []);
}
unfolding command_words words_in
no_words_and_more = search rules

-- 1. A run.

no_line : (settings : Settings) → EndsRun settings [] [] [] (ending 0 0 0)
unfolding lines ended cut_at_line_feeds answers
no_line settings =
    record { front = []; others = []; split = refl; count = refl; written = refl; ends = (refl, refl) }

-- The last line needs no LF.
line_without_lf : (settings : Settings) (output message : List ℕ) (end : Ending)
    (h : EndsRun settings (codes "a\nb") output message end) → codes "a" ∷ codes "b" ∷ [] ≡ h.front ++ h.others
unfolding lines ended cut_at_line_feeds without_cr
line_without_lf settings output message end h = h.split

-- all lines are answered: without an error, and with one behind a line that has none
no_error : (settings : Settings) (first : List ℕ) → is_error settings.task settings.holder first ≡ false
    → EndsBehind settings (first ∷ []) [] 9 [] (ending 0 5 0)
no_error settings first h = (rw h refl, refl)

one_error : (settings : Settings) (first second : List ℕ) → is_error settings.task settings.holder first ≡ false
    → is_error settings.task settings.holder second ≡ true
    → EndsBehind settings (first ∷ second ∷ []) [] 9 [] (ending 1 9 0)
one_error settings first second h e = (rw h (rw e refl), refl)

-- 17 bytes have no room for 18
no_room : (settings : Settings) (next : List ℕ) → length (answers settings.task settings.holder (next ∷ [])) ≡ 18
    → EndsBehind settings [] (next ∷ []) 17 (codes "sdtool: error 61 write\n") (ending 3 0 23)
no_room settings next h = (refl, omega (arith, h), record { count = refl; front = refl })

room_for_it : (settings : Settings) (next message : List ℕ) (end : Ending)
    → length (answers settings.task settings.holder (next ∷ [])) ≡ 18
    → EndsBehind settings [] (next ∷ []) 18 message end → ⊥
room_for_it settings next message end h cut = omega (arith, h, cut.1)

-- 2. What the words settle.

wrong_value : EndsSettled (Err (Value name.To)) [] [] (codes "sdtool: usage: --to\n") (ending 2 0 20)
wrong_value = record { is = refl; no_answer = refl; says = record { count = refl; front = refl } }

abbrev to_hex : List Text
to_hex = codes "sdtool" ∷ codes "convert" ∷ codes "--to" ∷ codes "hex" ∷ []

settled : (settings : Settings) → settings_of to_hex ≡ Ok settings → EndsRun settings [] [] [] (ending 0 0 0)
    → EndsBy to_hex [] [] [] (ending 0 0 0)
unfolding line bare_line convert_line explain_line check_line derive_line clap_on_literals
settled settings h run = EndsBy.settled refl (rw h run)

-- Words that the command line takes end in two ways alone.
taken : (input output message : List ℕ) (end : Ending) → EndsOn (Some to_hex) input output message end
    → EndsTaken to_hex input output message end
unfolding line bare_line convert_line explain_line check_line derive_line clap_on_literals
taken input output message end h = h.1 refl

-- an option without its command
mistaken : EndsBy (codes "sdtool" ∷ codes "--to" ∷ codes "hex" ∷ []) [] [] (codes "sdtool: usage\n") (ending 2 0 14)
unfolding line bare_line convert_line explain_line check_line derive_line clap_on_literals
mistaken = EndsBy.refused refl (record { is = refl; no_answer = refl; says = record { count = refl; front = refl } })

help_of_a_command : EndsBy (codes "sdtool" ∷ codes "convert" ∷ codes "--help" ∷ []) [] (codes "Conv") [] (ending 0 4 0)
unfolding line bare_line convert_line explain_line check_line derive_line clap_on_literals
help_of_a_command = EndsBy.helped (inl refl)
    (codes "Convert", record { is = refl; no_message = refl; shown = record { count = refl; front = refl } })

-- Words that are no texts are refused.
wrong_words : is_utf8 (0xff ∷ []) ≡ false → Runs (0xff ∷ 0 ∷ []) [] [] (codes "sdtool: usage\n") (ending 2 0 14)
unfolding command_words words_in
wrong_words h = rw h (record { is = refl; no_answer = refl; says = record { count = refl; front = refl } })
