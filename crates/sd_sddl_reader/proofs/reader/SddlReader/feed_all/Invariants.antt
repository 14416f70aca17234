use Rattle.std.proofs.Common.{◌≡◌, ℕ, List, ◌++◌, length}
use Rattle.std.specs.Prelude.{Option}
use Rattle.sd_sid.specs.Sid.{SecurityId}
use Rattle.sd_sddl_reader.specs.Inner.Reads.{IsReader, Reads}
use Rattle.sd_sddl_reader.proofs.reader.SddlReader.feed_all.Given as goal

abbrev pub invariant-loop-rest : goal.invariant-loop-rest
invariant-loop-rest l = record {
  reader : IsReader l.self l.buf;
  read : (domain : Option SecurityId) (text : List ℕ) → Reads l.initial.self l.initial.buf domain text
      → (fed : List ℕ) × Reads l.self l.buf domain fed × (fed ++ l.rest ≡ text ++ l.bytes);
}

abbrev pub decreases-loop-rest : goal.decreases-loop-rest
decreases-loop-rest l = length l.rest
