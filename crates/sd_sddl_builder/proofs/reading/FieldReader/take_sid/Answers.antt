use Rattle.std.proofs.Common.{◌≡◌, Ok, sym, ap, ◌∙◌}
use Rattle.sd_sid.specs.SidText.{sid_reads}
use Rattle.sd_sddl_builder.specs.FoldedReading.{with_owner_or_group, with_sid}
use Rattle.sd_sddl_builder.proofs.reading.FieldReader.take_sid.Goals as goal

pub returns-in-Ok-clause-read : goal.returns-in-Ok-clause-read
returns-in-Ok-clause-read c = λ t h.
    let with_one = with_owner_or_group c.args.part t in
    let reads : sid_reads c.args.text.now c.args.self.now.domain ≡ Ok c.in-Ok.sid =
    rw (← c.as_ref.ensures.value) (sym c.from_text.ensures.exact ∙ c.in-Ok.is) in
    (with_one c.in-Ok.sid, c.put_sid.ensures.held t h, ap (with_sid with_one) reads)
