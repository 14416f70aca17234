use Rattle.std.proofs.Common.{List, length}
use Rattle.clap.specs.Words.{Text}
use Rattle.sd_call_run.proofs.WordsLemmas.{Reads}
use Rattle.sd_call_run.proofs.words.are_texts.Given as goal

-- some words so far, and then those of what is left
abbrev pub invariant-loop-rest : goal.invariant-loop-rest
invariant-loop-rest l = (words : List Text) × Reads l.bytes words l.rest

abbrev pub decreases-loop-rest : goal.decreases-loop-rest
decreases-loop-rest l = length l.rest
