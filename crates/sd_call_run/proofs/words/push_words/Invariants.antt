use Rattle.std.proofs.Common.{◌≡◌, List, ◌++◌, length, map}
use Rattle.std.specs.Option.{option_map}
use Rattle.std.specs.String.{string_bytes}
use Rattle.clap.specs.Words.{Text}
use Rattle.sd_call_run.specs.Runs.{command_words, if_texts, words_in}
use Rattle.sd_call_run.proofs.words.push_words.Given as goal

-- the words so far, and then those of what is left
abbrev pub invariant-loop-rest : goal.invariant-loop-rest
invariant-loop-rest l = command_words l.bytes
    ≡ option_map (λ (ws : List Text). map string_bytes l.words.items ++ ws) (if_texts (words_in l.rest))

abbrev pub decreases-loop-rest : goal.decreases-loop-rest
decreases-loop-rest l = length l.rest
