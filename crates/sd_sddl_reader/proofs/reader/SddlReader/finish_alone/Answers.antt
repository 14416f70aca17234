use Rattle.sd_sddl_reader.proofs.reader.SddlReader.finish_alone.Goals as goal

pub returns-in-Ok-clause-form : goal.returns-in-Ok-clause-form
returns-in-Ok-clause-form c =
    let shown = c.in-Ok.ensures c.requires.held.0 c.requires.held.1 in
    record { descriptor = shown.0; shows = shown.1; written = shown.2 }
