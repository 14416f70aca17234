use Rattle.std.proofs.Common.{sym, ◌∙◌}
use Rattle.sd_sddl_fields.proofs.laws.PlainFields.{flags-whole}
use Rattle.sd_sddl_fields.proofs.whole_ace.front_flags.Goals as goal

pub returns-clause-found : goal.returns-clause-found
returns-clause-found c =
    let read = sym c.flags_from_text.ensures.exact ∙ c.in_ok-flags.was in
    record { field = _; whole = flags-whole _ _ read; stands = c.in_ok-field.ensures; reads = read }
