use Rattle.std.proofs.Common.{◌∙◌, sym, arith}
use Rattle.sd_acl_view.proofs.laws.AclLaws.{inherited-room}
use Rattle.sd_acl_view.proofs.ace.AceView.inherited.Goals as goal

pub guid_at-requires : goal.guid_at-requires
guid_at-requires c =
    let extent = c.self.inside.extent.now in
    let room = inherited-room extent (sym c.has_inherited.ensures ∙ c.if-not-has_inherited.false) in
    omega (arith, room, c.object_size.ensures, c.self.invariant.front)
