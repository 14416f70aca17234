use Rattle.std.proofs.Common.{refl, sym}
use Rattle.sd_sddl_builder.specs.FoldedReading.{take_field}
use Rattle.sd_sddl_reader.proofs.reader.SddlReader.take_held.Goals as goal

pub returns-then-is_broken-clause-read : goal.returns-then-is_broken-clause-read
unfolding take_field
returns-then-is_broken-clause-read c = λ t h. (
  t,
  λ none. absurd (cc),
  sym (rw (← c.is_broken.ensures, c.if-is_broken.true, c.fault_of.ensures) refl),
)
