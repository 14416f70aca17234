use Rattle.std.proofs.Common.{ap, length, refl, ◌∙◌}
use Rattle.sd_view.proofs.laws.LayoutSizes.{length-sid_part}
use Rattle.sd_builder.proofs.layout.header_of.Goals as goal

pub returns-clause-value : goal.returns-clause-value
returns-clause-value c =
    let d = c.args.view.now in
    let owner = ap length c.owner_bytes.ensures.value ∙ length-sid_part d.owner in
    let group = ap length c.group_bytes.ensures.value ∙ length-sid_part d.group in
    rw (
      c.header.ensures,
      c.rm.ensures,
      c.control.ensures.value,
      c.offsets_of.ensures,
      owner,
      group,
      c.requires.sacl,
      c.requires.dacl,
    ) refl
