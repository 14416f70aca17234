use Rattle.std.proofs.Common.{refl, ap, ◌∙◌, arith}
use Rattle.std.specs.Prelude.{Option}
use Rattle.sd_sid.specs.Sid.{SecurityId}
use Rattle.sd_sddl_builder.specs.FoldedReading.{nothing_read, reads_as}
use Rattle.sd_sddl_reader.proofs.Steps.{started}
use Rattle.sd_sddl_reader.proofs.FitLaws.{fits-start}
use Rattle.sd_sddl_reader.proofs.reader.SddlReader.new.Goals as goal

pub returns-clause-read : goal.returns-clause-read
returns-clause-read c =
    let domain = c.new-2.ensures.domain in (
      nothing_read,
      record { fields = λ _. c.new-2.ensures.held; fits = λ _. rw (c.each.ensures) fits-start },
      λ rest. rw (c.each.ensures) (started _ _ rest) ∙ ap (λ (d : Option SecurityId). reads_as d rest) domain,
    )

pub returns-clause-reader : goal.returns-clause-reader
returns-clause-reader c = record {
  calm = record { held = rw (c.new.ensures) (record { clean = refl; fits = omega arith }); gap = λ e. absurd cc };
  still = λ e. refl;
  letter = λ b e. absurd cc;
  read = nothing_read;
  held = record { fields = λ _. c.new-2.ensures.held; fits = λ _. rw (c.each.ensures) fits-start };
}
