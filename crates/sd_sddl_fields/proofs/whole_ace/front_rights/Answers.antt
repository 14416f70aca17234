use Rattle.std.proofs.Common.{sym, ◌∙◌}
use Rattle.sd_sddl_fields.proofs.laws.PlainFields.{rights-whole}
use Rattle.sd_sddl_fields.proofs.whole_ace.front_rights.Goals as goal

pub returns : goal.returns
returns c =
    let read = sym c.rights_from_text.ensures ∙ c.in_ok-mask.was in
    record { field = _; whole = rights-whole _ _ read; stands = c.in_ok-field.ensures; reads = read }
