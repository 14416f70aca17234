use Rattle.sd_sddl_builder.proofs.FieldLaws.{holds-dacl, holds-sacl}
use Rattle.sd_sddl_builder.proofs.reading.FieldReader.put_front.Goals as goal

pub returns-in-Sacl-clause-held : goal.returns-in-Sacl-clause-held
returns-in-Sacl-clause-held c = λ t h.
    rw c.in-Sacl.is (holds-sacl _ _ _ (rw c.in-Sacl.is at (c.begin_acl.ensures.held t h)) c.args.front.flags)

pub returns-in-Dacl-clause-held : goal.returns-in-Dacl-clause-held
returns-in-Dacl-clause-held c = λ t h.
    rw c.in-Dacl.is (holds-dacl _ _ _ (rw c.in-Dacl.is at (c.begin_acl.ensures.held t h)) c.args.front.flags)
