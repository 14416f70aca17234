use Rattle.sd_sddl_builder.proofs.WholeFields.{sound-objects}
use Rattle.sd_sddl_builder.proofs.reading.FieldReader.end_guids.Goals as goal

pub end_ace-requires-clause-sound : goal.end_ace-requires-clause-sound
end_ace-requires-clause-sound c = sound-objects c.args.ace _ _ _ _ c.requires.sound c.in-Some.ensures
