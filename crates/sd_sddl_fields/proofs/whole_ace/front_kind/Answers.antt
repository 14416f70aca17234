use Rattle.std.proofs.Common.{sym, ◌∙◌}
use Rattle.sd_sddl_fields.specs.FieldTexts.{kind_reads}
use Rattle.sd_sddl_fields.proofs.laws.PlainFields.{kind-whole}
use Rattle.sd_sddl_fields.proofs.whole_ace.front_kind.Goals as goal

pub returns : goal.returns
unfolding kind_reads
returns c =
    let read = sym c.from_text.ensures.exact ∙ c.in_ok-kind.was in
    record { field = _; whole = kind-whole _ _ read; stands = c.in_ok-field.ensures; reads = read }
