use Rattle.std.proofs.Common.{length, drop, sym, ap, ◌∙◌}
use Rattle.sd_ace.specs.Ace.{AccessControlEntry}
use Rattle.sd_acl_view.specs.Bytes.{u16_at}
use Rattle.sd_acl_view.proofs.laws.AclLaws.{length-aces_of}
use Rattle.sd_acl_view.proofs.acl.AclView.count.Goals as goal

pub returns : goal.returns
returns c =
    let extent = c.self.inside.extent.now in
    c.u16_at.ensures ∙ sym (length-aces_of (u16_at 4 extent) (drop 8 extent))
    ∙ ap (length {A = AccessControlEntry}) c.self.view_is
