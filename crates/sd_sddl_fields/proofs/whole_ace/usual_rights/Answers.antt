use Rattle.sd_sddl_fields.proofs.laws.PlainFields.{rights-whole}
use Rattle.sd_sddl_fields.proofs.whole_ace.usual_rights.Goals as goal

pub returns : goal.returns
returns c =
    let read = c.in_ok-mask.ensures.mask in
    record { field = _; whole = rights-whole _ _ read; stands = c.in_ok-rest.ensures; reads = read }
