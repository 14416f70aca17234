use Rattle.sd_sddl_fields.proofs.laws.PlainFields.{flags-whole}
use Rattle.sd_sddl_fields.proofs.whole_ace.usual_flags.Goals as goal

pub returns-clause-found : goal.returns-clause-found
returns-clause-found c =
    let read = c.in_ok-flags.ensures.flags in
    record { field = _; whole = flags-whole _ _ read; stands = c.in_ok-rest.ensures; reads = read }
