use Rattle.std.proofs.Common.{◌≡◌, length}
use Rattle.sd_parts.specs.Control.{no_flags}
use Rattle.sd_sddl_fields.specs.FieldTexts.{flags_after}
use Rattle.sd_sddl_fields.proofs.field_texts.flags_from_run.Given as goal

abbrev pub invariant-loop-first : goal.invariant-loop-first
invariant-loop-first l = flags_after l.flags l.rest ≡ flags_after no_flags l.text

abbrev pub decreases-loop-first : goal.decreases-loop-first
decreases-loop-first l = length l.rest
