use Rattle.std.proofs.Common.{ap, sym, ◌∙◌, arith}
use Rattle.sd_acl_view.specs.AclLayout.{revision_if}
use Rattle.sd_acl_view.proofs.WrittenLaws.{acl-written}
use Rattle.sd_acl_view.proofs.written_acl.is_written.Goals as goal

pub returns : goal.returns
returns c =
    λ e.
    acl-written c.args.extent.now (λ i. omega (arith, c.type_inv.extent i)) c.requires.extent
    (c.if-extent-written.false ∙ c.requires.size)
    (sym c.u16_at.ensures ∙ c.if-u16_at-revision_if.false ∙ c.revision_if.ensures ∙ ap revision_if c.requires.object)
    (sym c.u16_at-else-u16_at-revision_if.ensures ∙ c.if-u16_at-ne0.false)
    (sym c.are_flags_named.ensures ∙ e)
