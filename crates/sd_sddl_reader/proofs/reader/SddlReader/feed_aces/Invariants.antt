use Rattle.std.proofs.Common.{◌≡◌, ℕ, List, ◌++◌, ◌≤◌, length}
use Rattle.std.specs.Prelude.{Option, None}
use Rattle.sd_sid.specs.Sid.{SecurityId}
use Rattle.sd_sddl_fields.specs.Held.{no_text}
use Rattle.sd_sddl_reader.specs.Inner.Reads.{FedTo, IsReader, Reads}
use Rattle.sd_sddl_builder.specs.declared.slot.AceField.TheVariants as field
use Rattle.sd_sddl_reader.specs.declared.line.State.TheVariants as state
use Rattle.sd_sddl_reader.proofs.reader.SddlReader.feed_aces.Given as goal

abbrev pub invariant-loop-after : goal.invariant-loop-after
invariant-loop-after l = record {
  shorter : length l.rest ≤ length l.text;
  here : l.self.state ≡ state.Ace field.Kind;
  begins : l.self.field ≡ no_text;
  clear : l.self.fault ≡ None;
  reader : IsReader l.self l.buf;
  read : (domain : Option SecurityId) (before : List ℕ) → Reads l.initial.self l.initial.buf domain before
      → FedTo l.self l.buf domain l.rest (before ++ l.text);
}

abbrev pub decreases-loop-after : goal.decreases-loop-after
decreases-loop-after l = length l.rest
